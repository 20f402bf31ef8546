-- The streams and the ints that native methods of the ordinary machine read.
use Rattle.std.proofs.Common.{Bool, true, false, ℤ, pos, negsuc, zero, suc, ◌≡◌, ◌&&◌, List, refl}
use Rattle.std.specs.Prelude.{None, Option, Some, if◌then◌else◌, int_le, option_and_then}
use Rattle.vx_java.specs.Library.{if_in_range, not_a_number}
use Rattle.vx_java.specs.Machine as machine
use Rattle.vx_java.specs.Machine.{Here, when}
use Rattle.vx_java.specs.Texts.{answer_int, stream_of_cell}
use Rattle.vx_plain_natives.specs.Numbers.{parsed}
use Rattle.vx_units.specs.Numbers.{if_int}
use Rattle.vx_value.specs.declared.end.Stream.TheVariants.{Err}

pub other_stream : (n : ℤ) → (n ≡ pos 0 → ⊥) → stream_of_cell (machine.Int n) ≡ Err
other_stream (pos zero) other = absurd (other refl)
other_stream (pos (suc n)) other = refl
other_stream (negsuc n) other = refl

pub parsed_in : (h : Here) (rest : List machine.Value) (spelled : Option ℤ) → parsed h rest (option_and_then if_int spelled) ≡ if_in_range h rest spelled
parsed_in h rest None = refl
parsed_in h rest (Some n) = by (int_le (negsuc 2147483647) n && int_le n (pos 2147483647))
  where
    by : (b : Bool) → parsed h rest (if b then Some n else None) ≡ when b (answer_int h rest n) (not_a_number h)
    by true = refl
    by false = refl
