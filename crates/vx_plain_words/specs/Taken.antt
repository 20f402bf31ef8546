-- Words of values off the top of the operands.
use Rattle.std.specs.Prelude.{List, None, Option, Some, [], drop, ℕ, ◌+◌, ◌∷◌}
use Rattle.vx_java.specs.Machine as machine
use Rattle.vx_plain.specs.Views.{value_of}
use Rattle.vx_plain.specs.declared.value.Value.{Value}
use Rattle.vx_plain.specs.declared.value.Value.TheVariants.{Long}
use Rattle.vx_plain_words.specs.declared.forms.Words.{Words}
use Rattle.vx_plain_words.specs.declared.forms.Words.TheVariants.{Nothing, One, Two}

abbrev pub values_in : Words → List machine.Value
values_in Nothing = []
values_in (One v) = value_of v ∷ []
values_in (Two v w) = value_of v ∷ value_of w ∷ []

abbrev pub count : Words → ℕ
count Nothing = 0
count (One v) = 1
count (Two v w) = 2

-- they, and what stands under them
abbrev pub taken : List machine.Value → (above : ℕ) → Words → List machine.Value × List machine.Value
taken operands above words = (values_in words, drop (above + count words) operands)

-- one word of a value; a long would be divided
abbrev pub one_of : Value → Option Words
one_of (Long n) = None
one_of v = Some (One v)

-- two words of a value, and of the one below it where it is no long
abbrev pub over : Value → Option Value → Option Words
over v None = None
over v (Some (Long n)) = None
over v (Some w) = Some (Two v w)

abbrev pub two_of : Value → Option Value → Option Words
two_of (Long n) second = Some (One (Long n))
two_of v second = over v second
