-- Texts that get the units of elements behind them, one after the other (own).
use Rattle.std.specs.Int.{w32}
use Rattle.std.specs.Prelude.{◌≡◌, ℕ, Bool, true, List, [], length, nat_lt, ◌++◌, ◌∷◌}
use Rattle.vx_group_states.specs.declared.answer.Answer.{Answer}
use Rattle.vx_group_states.specs.declared.answer.Answer.TheVariants.{Give, Pass}
use Rattle.vx_heap.specs.Heap.{HeapView}
use Rattle.vx_space.specs.Sets.{Sets}
use Rattle.vx_value.specs.Arithmetic.{low_bits}
use Rattle.vx_value.specs.Texts.{IsNumber, text_at}
use Rattle.vx_value.specs.declared.slot.Slot.{Slot}
use Rattle.vx_value.specs.declared.slot.Slot.TheVariants.{Int, Text}
use Rattle.vx_natives.specs.declared.call.Call.{Call}
use Rattle.vx_natives.specs.declared.call.Call.TheVariants.{Two}

-- the unit of an element
abbrev pub unit_in : Slot → ℕ
unit_in (Int n) = low_bits w32 16 n
unit_in _ = 0

-- a text that a slot names is among these
abbrev pub is_text_known : (texts : List (List ℕ)) → Slot → Bool
is_text_known texts (Text n) = nat_lt n (length texts)
is_text_known texts _ = true

-- the number of a text is given
pub record IsTextGiven (texts : List (List ℕ)) (units : List ℕ) (answer : Answer) : Type 0 where
  pub number : ℕ
  pub is : answer ≡ Give (Text number)
  pub text : IsNumber texts number units

-- of a text and an element: that of the text with the unit of the element behind it
abbrev pub IsAppended : (before after : List (List ℕ)) → Call → Answer → Type 0
IsAppended before after (Two (Text n) element) answer = IsTextGiven after (text_at before n ++ unit_in element ∷ []) answer
IsAppended before after call answer = answer ≡ Pass

-- the same over a heap that came from another one
abbrev pub IsAppendedOver : {S I : Type 0} → (before : List (List ℕ)) → Sets I → HeapView S I → List Bool → Call → Answer → Type 0
IsAppendedOver before sets heap c call answer = IsAppended before heap.texts call answer
