-- Texts as native methods of the plain machine read and make them.
use Rattle.std.specs.Prelude.{List, drop, length, negsuc, pos, replicate, suc, take, nat_lt, ℕ, ℤ, ◌++◌, ◌-◌, ◌∷◌}
use Rattle.vx_java.specs.Checks.{is_within}
use Rattle.vx_java.specs.Machine as machine
use Rattle.vx_java.specs.Machine.{Here, Outcome, go, length_bound, raise, when}
use Rattle.vx_java.specs.Texts as texts
use Rattle.vx_java.specs.Texts.{bad_index, spell_bool, spell_char, spell_chars, spell_int, spell_long, spell_string, text_of_object, with_text}
use Rattle.vx_plain.specs.declared.value.Value.{Value}
use Rattle.vx_plain.specs.declared.value.Value.TheVariants.{Int}
use Rattle.vx_plain_strings.specs.declared.spelling.Spelling.{Spelling}
use Rattle.vx_plain_strings.specs.declared.spelling.Spelling.TheVariants as spelling
use Rattle.vx_value.specs.Arithmetic.{natural}

-- a unit as an element of an array of chars
abbrev pub char_value : ℕ → Value
char_value u = Int (pos u)

-- how a value is spelled
abbrev pub spell : Spelling → texts.Spelling
spell spelling.Int = spell_int
spell spelling.Long = spell_long
spell spelling.Bool = spell_bool
spell spelling.Char = spell_char
spell spelling.Text = spell_string
spell spelling.Chars = spell_chars

-- the text of an object is cut to a length, or filled up with units 0
abbrev pub with_length : Here → List machine.Value → (object : ℕ) → ℤ → Outcome
with_length h rest r (pos n) =
    when (nat_lt length_bound n) (raise h "java/lang/OutOfMemoryError")
    (go (with_text h r (take n (text_of_object h r) ++ replicate (n - length (text_of_object h r)) 0)) rest)
with_length h rest r (negsuc n) = bad_index h

-- the unit of a place is taken out of the text of an object
abbrev pub deleted : Here → List machine.Value → (object : ℕ) → ℤ → Outcome
deleted h rest r i =
    let units = text_of_object h r in
    when (is_within i (length units)) (go (with_text h r (take (natural i) units ++ drop (suc (natural i)) units)) (machine.Ref r ∷ rest)) (bad_index h)
