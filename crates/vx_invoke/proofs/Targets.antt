-- What a call comes to on what isn't null.
use Rattle.std.proofs.Common.{◌≡◌, refl}
use Rattle.std.specs.Prelude.{option_map}
use Rattle.vx_heap.specs.Heap.{HeapView, class_at_slot}
use Rattle.vx_link.specs.declared.program.Program.{Program}
use Rattle.vx_value.specs.declared.slot.Slot.{Slot}
use Rattle.vx_value.specs.declared.slot.Slot.TheVariants.{Top, Int, Long, Null, Ref, Text}
use Rattle.vx_invoke.specs.Called.{call_of, call_on_some}
use Rattle.vx_invoke.specs.declared.target.Target.{Target}

-- by the class of the object
pub call_of-other : {S I : Type 0} (p : Program) (heap : HeapView S I) (target : Target) (receiver : Slot) → (receiver ≡ Null → ⊥) → call_of p heap target receiver ≡ call_on_some p target (option_map (λ class. class.0) (class_at_slot heap receiver))
call_of-other p heap target Top h = refl
call_of-other p heap target (Int n) h = refl
call_of-other p heap target (Long n) h = refl
call_of-other p heap target Null h = absurd (h refl)
call_of-other p heap target (Ref i) h = refl
call_of-other p heap target (Text n) h = refl
