-- What each native method does is what the ordinary machine says of it.
use Rattle.std.proofs.Common.{◌≡◌, Bool, true, false, List, refl, if◌then◌else◌}
use Rattle.vx_heap.specs.Heap.{HeapView, IsHeapFor}
use Rattle.vx_link.specs.declared.program.Program.{Program}
use Rattle.vx_natives.specs.Deeds.{Deed, IsRight}
use Rattle.vx_natives.specs.Doing.{Says}
use Rattle.vx_natives.specs.Readings.{IsCallOr, said}
use Rattle.vx_natives.specs.declared.behaviour.Behaviour.{Behaviour}
use Rattle.vx_natives.specs.declared.behaviour.Behaviour.TheVariants as behaviour
use Rattle.vx_natives.specs.declared.call.Call.{Call}
use Rattle.vx_natives.specs.declared.call.Call.TheVariants as given
use Rattle.vx_space.specs.Sets.{Sets}
use Rattle.vx_strings.proofs.ChangeRows.{changed_right, initialised_right}
use Rattle.vx_strings.proofs.MakerRows.{made_right}
use Rattle.vx_strings.proofs.PrintRows.{printed_right}
use Rattle.vx_strings.proofs.QuestionRows.{asked_right}
use Rattle.vx_strings.specs.Changes.{initialised, is_of_text, is_text_maker, made}
use Rattle.vx_lang.specs.Deeds.{deed}
use Rattle.vx_lang.specs.Numbers.{begun, made_number}
use Rattle.vx_lang.proofs.NumberRows.{begun_right, copied_right, number_right}
use Rattle.vx_lang.proofs.QuestionRows.{asked_cells_right}
use Rattle.vx_lang.proofs.ValueRows.{computed_right}

-- one of two
either_right : {S I : Type 0} (p : Program) (sets : Sets I) (heap : HeapView S I) (c : List Bool) (says : Says) (b : Bool) (d e : Deed) → (b ≡ true → IsRight p sets heap c says d) → (b ≡ false → IsRight p sets heap c says e) → IsRight p sets heap c says (if b then d else e)
either_right p sets heap c says true d e f g = f refl
either_right p sets heap c says false d e f g = g refl

module _ {S I : Type 0} (p : Program) (sets : Sets I) (heap : HeapView S I) (c : List Bool) (is_for : IsHeapFor p heap) (runs : sets.test heap.allowed c ≡ true) where
  pub deed_right : (b : Behaviour) (call : Call) → IsCallOr sets heap c b call → IsRight p sets heap c (said sets heap b call) (deed p heap b call)
  deed_right behaviour.Missing given.Illegal k = record { held = refl; at = λ h rest. refl }
  deed_right behaviour.Missing call k = record { held = refl; at = λ h rest. refl }
  deed_right (behaviour.Compute b) call k = computed_right p sets heap c is_for runs b call k
  deed_right (behaviour.AskCells b) call k = asked_cells_right p sets heap c b call k
  deed_right (behaviour.AskTexts b) call k = asked_right p sets heap c b call k
  deed_right (behaviour.Initialise b) call k = either_right p sets heap c (said sets heap (behaviour.Initialise b) call) (is_of_text b) (initialised b call) (begun b call) (λ t. initialised_right p sets heap c b call t k) (λ t. begun_right p sets heap c b call t k)
  deed_right (behaviour.Change b) call k = changed_right p sets heap c b call k
  deed_right (behaviour.Make b) call k = either_right p sets heap c (said sets heap (behaviour.Make b) call) (is_text_maker b) (made heap.texts b call) (made_number p heap b call) (λ t. made_right p sets heap c b call t k) (λ t. number_right p sets heap c is_for runs b call t k)
  deed_right (behaviour.Print b) call k = printed_right p sets heap c b call k
  deed_right behaviour.CopyArray call k = copied_right p sets heap c call k
