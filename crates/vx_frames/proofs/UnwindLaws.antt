-- One step of unwinding.
use Rattle.std.proofs.Common.{◌≡◌, ℕ, Bool, true, false, List, ◌∷◌, refl, sym, ◌∙◌, ap}
use Rattle.std.specs.Prelude.{Option, Some, None, if◌then◌else◌}
use Rattle.vx_java.specs.Machine.{Next, State}
use Rattle.vx_java.specs.Machine.{Frame as MachineFrame}
use Rattle.vx_java.specs.Throwing.{handler_of, is_error, next_in_handler, passed_object, passed_state, unwind, with_wrapper}
use Rattle.vx_link.specs.declared.program.Program.{Program}
use Rattle.vx_value.specs.declared.key.Kind.{Kind}
use Rattle.vx_value.specs.declared.key.Kind.TheVariants.{Call, Init, Wait}
use Rattle.vx_frames.specs.Unwinding.{PassesFrames}

-- a frame that is passed leaves its callers
same_callers : (s : State) (w : State) (b : Bool) → w.callers ≡ s.callers → (if b then s else w).callers ≡ s.callers
same_callers s w true e = refl
same_callers s w false e = e

passed_callers : (p : Program) (s : State) (kind : Kind) (r : ℕ) → (passed_state p s kind r).callers ≡ s.callers
passed_callers p s Call r = refl
passed_callers p s Init r = same_callers s (with_wrapper p s r) (is_error p s r) refl
passed_callers p s Wait r = same_callers s (with_wrapper p s r) (is_error p s r) refl

-- unwinding over the callers of a frame that doesn't handle the object
unwound : (p : Program) (s : State) (r : ℕ) (f : MachineFrame) (below : List MachineFrame) (handler : Option ℕ) → handler ≡ None → (elim handler as (λ _. Next) [ Some h ↦ next_in_handler s r h | None ↦ unwind p (record (passed_state p s s.top.kind r) { top = f; callers = below }) (passed_object p s s.top.kind r) below ]) ≡ unwind p (record (passed_state p s s.top.kind r) { top = f; callers = below }) (passed_object p s s.top.kind r) below
unwound p s r f below None e = refl
unwound p s r f below (Some h) e = cc

pub passes_frames : PassesFrames
passes_frames p s below frame r e n =
    let over : s.callers ≡ below.top ∷ below.callers = sym (passed_callers p s s.top.kind r) ∙ ap (λ (x : State). x.callers) e in
    let left : record (passed_state p s s.top.kind r) { top = below.top; callers = below.callers } ≡ below = ap (λ (x : State). record x { top = below.top; callers = below.callers }) e in
    ap (unwind p s r) over
    ∙ unwound p s r below.top below.callers (handler_of p s s.top.kind r) n
    ∙ ap (λ x. unwind p x (passed_object p s s.top.kind r) below.callers) left
