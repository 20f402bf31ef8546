-- What native methods of boxes and numbers make of an int or a long.
use Rattle.std.specs.Int.{Width}
use Rattle.std.specs.Prelude.{List, None, Option, Some, [], if◌then◌else◌, int_le, negsuc, pos, ℤ, ◌&&◌, ◌∷◌}
use Rattle.vx_java.specs.FirstObjects.{core_object, first_integer}
use Rattle.vx_java.specs.Library.{not_a_number}
use Rattle.vx_java.specs.Machine.{Here, Int, Outcome, Ref, Value, push_new, when}
use Rattle.vx_java.specs.Texts.{answer, answer_int}
use Rattle.vx_value.specs.Arithmetic.{negation, negative}

-- the Integer object of an int: a first one, or a new one
abbrev pub integer_object : Here → List Value → ℤ → Outcome
integer_object h rest n =
    when (int_le (negsuc 127) n && int_le n (pos 127))
    (answer h rest (Ref (first_integer n)))
    (push_new h (core_object h.program "java/lang/Integer" (Int n ∷ [])) rest)

-- the int that a text spells, or the exception where it spells none
abbrev pub parsed : Here → List Value → Option ℤ → Outcome
parsed h rest None = not_a_number h
parsed h rest (Some n) = answer_int h rest n

-- the distance from 0; that of the least number is itself
abbrev pub absolute : Width → ℤ → ℤ
absolute w a = if negative a then negation w a else a
