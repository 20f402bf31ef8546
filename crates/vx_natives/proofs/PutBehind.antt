-- What was read for calls, put behind their values.
use Rattle.std.proofs.Common.{◌≡◌, Bool, true, List, refl, sym, ◌∙◌, ap, subst}
use Rattle.std.specs.Prelude.{None, Option, Some, unwrap_or}
use Rattle.vx_cond.proofs.CondLaws.{cond_at-extends}
use Rattle.vx_cond.specs.Cond.{Conditional, IsCond}
use Rattle.vx_group_states.proofs.GrownStates.{all_kept}
use Rattle.vx_heap.proofs.Growing.{is_held-grown}
use Rattle.vx_heap.proofs.Known.{cond_known}
use Rattle.vx_heap.specs.Changing.{Grows}
use Rattle.vx_heap.specs.Heap.{HeapView, IsHeap, are_held, globals_at, is_held}
use Rattle.vx_space.specs.Sets.{Extends, Sets}
use Rattle.vx_natives.specs.CallOrder.{call_cmp}
use Rattle.vx_natives.specs.Calls.{call_at, values_of, with_value}
use Rattle.vx_natives.specs.Cells.{AreCallsHeld}
use Rattle.vx_natives.specs.Readings.{HaveReadings, IsBehind, first_reading, readings_of, second_reading, with_second}
use Rattle.vx_natives.specs.declared.behaviour.Behaviour.{Behaviour}
use Rattle.vx_natives.specs.declared.call.Call.{Call}
use Rattle.vx_natives.specs.declared.call.Call.TheVariants.{Illegal}
use Rattle.vx_natives.specs.declared.readings.Reading.{Reading}
use Rattle.vx_natives.proofs.CharLaws.{HasReading-grown}

-- the values of a call are there over a heap that grew
pub call_held-grown : {S I : Type 0} {s0 s1 : Sets I} → Extends s0 s1 → (before now : HeapView S I) → IsHeap s0 before → Grows before now → (c : List Bool) (call : Call) → are_held s0 before c (values_of call) ≡ true → are_held s1 now c (values_of call) ≡ true
call_held-grown {s0 = s0} {s1 = s1} e before now v k c call t = all_kept (is_held s0 before c) (is_held s1 now c) (is_held-grown e before now v k c) (values_of call) t

pub AreCallsHeld-grown : {S I : Type 0} {s0 s1 : Sets I} → Extends s0 s1 → (before now : HeapView S I) → IsHeap s0 before → Grows before now → (calls : Conditional Call S I) → IsCond call_cmp s0 calls → AreCallsHeld s0 before calls → AreCallsHeld s1 now calls
AreCallsHeld-grown {s0 = s0} {s1 = s1} e before now v k calls w h = record {
  held = λ c t.
      let inside = sym (e.test calls.scope c (cond_known call_cmp s0 calls w).0) ∙ t in
      let P : Call → Type 0 = λ call. are_held s1 now c (values_of call) ≡ true in
      subst P (sym (ap (λ o. unwrap_or o Illegal) (cond_at-extends call_cmp e calls w c))) (call_held-grown e before now v k c (call_at s0 calls c) (h.held c inside));
}

-- nothing is read
pub none_read : {S I : Type 0} (sets : Sets I) (heap : HeapView S I) (c : List Bool) (b : Behaviour) (call : Call) → first_reading b ≡ None → HaveReadings sets heap c (readings_of b) call call call
none_read sets heap c b call first =
    let P : Option Reading → Type 0 = λ o. HaveReadings sets heap c (with_second o (second_reading b)) call call call in
    subst P (sym first) refl

-- one thing is
pub one_read : {S I : Type 0} (sets : Sets I) (heap : HeapView S I) (c : List Bool) (b : Behaviour) (r : Reading) (call after : Call) → first_reading b ≡ Some r → second_reading b ≡ None → IsBehind sets heap c r call call after → HaveReadings sets heap c (readings_of b) call call after
one_read sets heap c b r call after first second h =
    let P : List Reading → Type 0 = λ rs. HaveReadings sets heap c rs call call after in
    subst P (sym (λ i. with_second (first i) (second i))) h

-- two are, the second one over a later space and a heap that grew
pub both_read : {S I : Type 0} {s1 s2 : Sets I} → Extends s1 s2 → (now after : HeapView S I) → IsHeap s1 now → Grows now after → (c : List Bool) (b : Behaviour) (r q : Reading) (call middle last : Call) → first_reading b ≡ Some r → second_reading b ≡ Some q → globals_at s2 after c ≡ globals_at s1 now c → are_held s1 now c (values_of call) ≡ true → IsBehind s1 now c r call call middle → IsBehind s2 after c q call middle last → HaveReadings s2 after c (readings_of b) call call last
both_read {s2 = s2} e now after v k c b r q call middle last first second same held h j =
    let P : List Reading → Type 0 = λ rs. HaveReadings s2 after c rs call call last in
    subst P (sym (λ i. with_second (first i) (second i))) (h.0, HasReading-grown e now after v k c r call h.0 same held h.1, (j.0, j.1, j.2 ∙ ap (λ call. with_value call j.0) h.2))
