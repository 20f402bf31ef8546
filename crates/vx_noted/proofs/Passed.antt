-- Frames that are passed until none is left.
use Rattle.std.proofs.Common.{◌≡◌, ℕ, Bool, true, false, List, [], ◌∷◌, refl, sym, ap, ◌∙◌, if◌then◌else◌}
use Rattle.std.specs.Prelude.{None, Option, Some, ◌≢◌}
use Rattle.vx_java.specs.Machine.{Frame, State, current_class, with_inits}
use Rattle.vx_java.specs.Throwing.{handler_of, is_error, passed_object, passed_state, with_wrapper}
use Rattle.vx_link.specs.declared.program.Program.{Program}
use Rattle.vx_noted.specs.Leaving.{leaves}
use Rattle.vx_plain.specs.Frames.{with_frame}
use Rattle.vx_value.specs.declared.key.Kind.{Kind}
use Rattle.vx_value.specs.declared.key.Kind.TheVariants.{Call, Init, Wait}
use Rattle.vx_value.specs.declared.slot.InitState.TheVariants.{Failed}

wrapped_callers : (p : Program) (s : State) (r : ℕ) (classes : List ℕ) (b : Bool) → (with_inits (if b then s else with_wrapper p s r) Failed classes).callers ≡ s.callers
wrapped_callers p s r classes true = refl
wrapped_callers p s r classes false = refl

passed_callers : (p : Program) (s : State) (kind : Kind) (r : ℕ) → (passed_state p s kind r).callers ≡ s.callers
passed_callers p s Call r = refl
passed_callers p s Init r = wrapped_callers p s r (current_class p s ∷ []) (is_error p s r)
passed_callers p s Wait r = wrapped_callers p s r (current_class p s ∷ []) (is_error p s r)

abbrev by_handler : Option (State × ℕ) → Option ℕ → Option (State × ℕ)
by_handler left o = elim o as (λ _. Option (State × ℕ)) [ Some handler ↦ None | None ↦ left ]

none_left : (left : Option (State × ℕ)) (o : Option ℕ) → o ≢ None → by_handler left o ≡ None
none_left left (Some handler) some = refl
none_left left None some = absurd (some refl)

-- a frame that handles an object
pub handled : (p : Program) (s : State) (r : ℕ) (callers : List Frame) → handler_of p s s.top.kind r ≢ None → leaves p s r callers ≡ None
handled p s r [] some = none_left (Some (passed_state p s s.top.kind r, passed_object p s s.top.kind r)) (handler_of p s s.top.kind r) some
handled p s r (f ∷ below) some =
    none_left (leaves p (record (passed_state p s s.top.kind r) { top = f; callers = below }) (passed_object p s s.top.kind r) below) (handler_of p s s.top.kind r) some

-- the frame on top is passed
pub passes_on : (p : Program) (s : State) (r : ℕ) (next : State) (frame : Frame) → None ≡ handler_of p s s.top.kind r → passed_state p s s.top.kind r ≡ with_frame next frame
    → leaves p s r s.callers ≡ leaves p next (passed_object p s s.top.kind r) next.callers
passes_on p s r next frame none left =
    let below = sym (passed_callers p s s.top.kind r) ∙ ap (λ (x : State). x.callers) left in
    ap (leaves p s r) below
    ∙ ap (by_handler (leaves p (record (passed_state p s s.top.kind r) { top = next.top; callers = next.callers }) (passed_object p s s.top.kind r) next.callers)) (sym none)
    ∙ ap (λ (x : State). leaves p (record x { top = next.top; callers = next.callers }) (passed_object p s s.top.kind r) next.callers) left
