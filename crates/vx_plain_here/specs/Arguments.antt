-- The arguments of a call, on top of the operands.
use Rattle.std.specs.Prelude.{Bool, List, [], false, length, nat_le, reverse, take, true, ◌&&◌, ◌∷◌}
use Rattle.vx_desc.specs.declared.java_type.JavaType.{JavaType}
use Rattle.vx_java.specs.Checks.{fits_type}
use Rattle.vx_java.specs.Machine.{Value}

-- each value is of the sort of its type
abbrev pub all_fit : List JavaType → List Value → Bool
all_fit [] values = true
all_fit (t ∷ ts) [] = false
all_fit (t ∷ ts) (v ∷ vs) = fits_type t v && all_fit ts vs

-- the arguments stand on top of the operands, each of the sort of its type
abbrev pub are_on_top : List JavaType → (operands : List Value) → Bool
are_on_top types operands = nat_le (length types) (length operands) && all_fit types (reverse (take (length types) operands))
