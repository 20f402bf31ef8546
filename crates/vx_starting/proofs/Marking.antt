-- The heap in which classes have a state.
use Rattle.std.proofs.Common.{◌≡◌, true, List, [], sym, ◌∙◌, ap}
use Rattle.std.specs.Prelude.{if◌then◌else◌}
use Rattle.vx_cond.specs.Cond.{IsInside}
use Rattle.vx_heap.specs.First.{IsFirstHeap}
use Rattle.vx_heap.specs.Heap.{HeapView}
use Rattle.vx_link.specs.declared.program.Program.{Program}
use Rattle.vx_ready.proofs.Changes.{IsChanged-allowed, IsHeapFor-changed}
use Rattle.vx_ready.specs.Changing.{IsChanged}
use Rattle.vx_ready.specs.Initialising.{numbers_of, with_state}
use Rattle.vx_space.specs.Sets.{Extends, Sets}
use Rattle.vx_starting.specs.Starting.{IsMarkedHeap}
use Rattle.vx_value.specs.declared.ids.ClassId.{ClassId}
use Rattle.vx_value.specs.declared.slot.InitState.{InitState}

pub all_run : {S I : Type 0} (p : Program) (sets : Sets I) (allowed : I) (heap : HeapView S I) → IsFirstHeap p sets allowed heap → IsInside sets allowed heap.allowed
all_run p sets allowed heap f = record { inside = λ c t. ap (λ id. sets.test id c) f.runs ∙ t }

pub marked : {S I : Type 0} (p : Program) {s0 s1 : Sets I} → Extends s0 s1 → (allowed : I) → s0.is_known allowed ≡ true → (state : InitState) (classes : List ClassId) (before after : HeapView S I) → IsFirstHeap p s0 allowed before → IsChanged s0 s1 before after (λ c. with_state state (if s0.test allowed c then numbers_of classes else [])) → IsMarkedHeap p s1 allowed state (numbers_of classes) after
marked p {s0 = s0} {s1 = s1} e allowed k state classes before after f m = record {
  is_heap = m.is_heap;
  is_for = IsHeapFor-changed p s0 s1 before after _ f.is_for m;
  runs = IsChanged-allowed s0 s1 before after _ m ∙ f.runs;
  at = λ c t.
      let there : s0.test allowed c ≡ true = sym (e.test allowed c k) ∙ t in
      m.at c ∙ (λ i. with_state state (if there i then numbers_of classes else []) (f.at c there i));
}
