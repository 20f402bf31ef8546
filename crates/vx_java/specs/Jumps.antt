-- Jumps and switches (JVMS 6.5). A jump is relative to the opcode.
use Rattle.std.specs.Prelude.{Bool, List, false, if◌then◌else◌, int_le, int_lt, nat_abs, not, pos, suc, true, zero, ℕ, ℤ, ◌&&◌, ◌*◌, ◌+ℤ◌, ◌+◌, ◌-ℤ◌, ◌∷◌}
use Rattle.vx_java.specs.Checks.{is_of, same_bool, same_reference}
use Rattle.vx_java.specs.Machine.{Go, Here, Int, Null, Outcome, Ref, Value, at_position, go, illegal, when}
use Rattle.vx_java.specs.declared.operation.Sort.TheVariants.{Reference}
use Rattle.vx_java.specs.declared.operation.Test.{Test}
use Rattle.vx_java.specs.declared.operation.Test.TheVariants.{Eq, Ge, Gt, Le, Lt, Ne}
use Rattle.vx_opcode.specs.Numbers.{s4}
use Rattle.vx_value.specs.Arithmetic.{natural, same_int}

-- the position that a jump leads to
abbrev pub target : Here → ℤ → ℕ
target h offset = natural (pos h.state.top.position +ℤ offset)

-- goto, goto_w
abbrev pub jump : Here → ℤ → List Value → Outcome
jump h offset operands = Go (at_position h.state (target h offset) operands)

abbrev pub branch : Here → Bool → ℤ → List Value → Outcome
branch h taken offset operands = when taken (jump h offset operands) (go h operands)

abbrev pub passes : Test → ℤ → ℤ → Bool
passes Eq a b = same_int a b
passes Ne a b = not (same_int a b)
passes Lt a b = int_lt a b
passes Ge a b = int_le b a
passes Gt a b = int_lt b a
passes Le a b = int_le a b

-- ifeq, ifne, iflt, ifge, ifgt, ifle
abbrev pub if_int : Here → Test → ℤ → List Value → Outcome
if_int h test offset (Int a ∷ rest) = branch h (passes test a (pos 0)) offset rest
if_int h test offset _ = illegal h

-- if_icmpeq and its kin
abbrev pub if_ints : Here → Test → ℤ → List Value → Outcome
if_ints h test offset (Int b ∷ Int a ∷ rest) = branch h (passes test a b) offset rest
if_ints h test offset _ = illegal h

-- if_acmpeq, if_acmpne
abbrev pub if_same : Here → Bool → ℤ → List Value → Outcome
if_same h wanted offset (b ∷ a ∷ rest) =
    when (is_of Reference a && is_of Reference b) (branch h (same_bool wanted (same_reference a b)) offset rest) (illegal h)
if_same h wanted offset _ = illegal h

-- ifnull, ifnonnull
abbrev pub if_null : Here → Bool → ℤ → List Value → Outcome
if_null h wanted offset (Null ∷ rest) = branch h wanted offset rest
if_null h wanted offset (Ref r ∷ rest) = branch h (not wanted) offset rest
if_null h wanted offset _ = illegal h

-- a number of four bytes in the code
abbrev pub offset_at : Here → ℕ → ℤ
offset_at h at = s4 h.code.bytes at

-- tableswitch
abbrev pub switch_table : Here → (fallback low high : ℤ) → (first : ℕ) → List Value → Outcome
switch_table h fallback low high first (Int key ∷ rest) =
    jump h (if int_le low key && int_le key high then offset_at h (first + 4 * nat_abs (key -ℤ low)) else fallback) rest
switch_table h fallback low high first _ = illegal h

-- the offset of the first pair of a key
abbrev pub pair_of : Here → ℤ → (fallback : ℤ) → (pairs first : ℕ) → ℤ
pair_of h key fallback zero first = fallback
pair_of h key fallback (suc pairs) first =
    elim (same_int (offset_at h first) key) [ true ↦ offset_at h (first + 4) | false ↦ pair_of h key fallback pairs (first + 8) ]

-- lookupswitch
abbrev pub switch_lookup : Here → (fallback : ℤ) → (pairs first : ℕ) → List Value → Outcome
switch_lookup h fallback pairs first (Int key ∷ rest) = jump h (pair_of h key fallback pairs first) rest
switch_lookup h fallback pairs first _ = illegal h
