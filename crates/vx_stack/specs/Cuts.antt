-- The words that a stack form works on, operand by operand from the top down.
use Rattle.std.specs.Prelude.{ℕ, zero, suc, Bool, true, false, List, [], ◌∷◌, Option, Some, None, if◌then◌else◌}
use Rattle.vx_value.specs.declared.slot.Slot.{Slot}
use Rattle.vx_value.specs.declared.slot.Slot.TheVariants.{Long}
use Rattle.vx_java.specs.StackForms.{lower, upper}
use Rattle.vx_java.specs.declared.operation.Shuffle.{Shuffle}
use Rattle.vx_stack.specs.declared.cut.Part.{Part}
use Rattle.vx_stack.specs.declared.cut.Part.TheVariants.{Zero, One, Two, Word, Words, Second}
use Rattle.vx_stack.specs.declared.cut.Cut.{Cut}
use Rattle.vx_stack.specs.declared.cut.Cut.TheVariants.{Divided, Parts}

-- ---- one part

abbrev pub is_found : Part → Bool
is_found Zero = true
is_found One = true
is_found Two = true
is_found _ = false

-- with one operand more; none where it is a long that would be divided
abbrev pub grown : Part → Slot → Option Part
grown Word (Long n) = None
grown Word operand = Some One
grown Words (Long n) = Some One
grown Words operand = Some Second
grown Second (Long n) = None
grown Second operand = Some Two
grown part operand = Some part

-- how many values it has, once it is found
abbrev pub count_of : Part → Option ℕ
count_of Zero = Some 0
count_of One = Some 1
count_of Two = Some 2
count_of _ = None

-- ---- both parts

abbrev pub upper_grown : Option Part → (lower : Part) → Cut
upper_grown None lower = Divided
upper_grown (Some part) lower = Parts part lower

abbrev pub lower_grown : (upper : Part) → Option Part → Cut
lower_grown upper None = Divided
lower_grown upper (Some part) = Parts upper part

-- with one operand more, which belongs to the upper words until they are found
abbrev pub next : Cut → Slot → Cut
next Divided operand = Divided
next (Parts upper lower) operand = if is_found upper then lower_grown upper (grown lower operand) else upper_grown (grown upper operand) lower

-- with these operands more
abbrev pub cut_by : Cut → List Slot → Cut
cut_by cut [] = cut
cut_by cut (operand ∷ operands) = cut_by (next cut operand) operands

abbrev pub part_of_words : ℕ → Part
part_of_words zero = Zero
part_of_words (suc zero) = Word
part_of_words _ = Words

abbrev pub first_cut : Shuffle → Cut
first_cut form = Parts (part_of_words (upper form)) (part_of_words (lower form))

-- ---- what is found

abbrev pub both_counts : Option ℕ → Option ℕ → Option (ℕ × ℕ)
both_counts (Some a) (Some b) = Some (a, b)
both_counts _ _ = None

-- how many values stand in the upper words and in those under them; none where they are not found
abbrev pub counts_of : Cut → Option (ℕ × ℕ)
counts_of Divided = None
counts_of (Parts upper lower) = both_counts (count_of upper) (count_of lower)
