-- What leaves a frame that doesn't take it, over plain states: the frame is passed, and what comes of the object is what comes of it in the caller.
use Rattle.std.proofs.Common.{◌≡◌, ℕ, ◌∷◌, Bool, true, false, [], refl, ap}
use Rattle.std.specs.Prelude.{if◌then◌else◌}
use Rattle.vx_java.specs.Machine.{State, current_class, with_inits}
use Rattle.vx_java.specs.Throwing.{is_error, passed_object, passed_state, with_wrapper}
use Rattle.vx_families.specs.Changing.{with_globals}
use Rattle.vx_heap.specs.Changing.{with_object}
use Rattle.vx_heap.specs.Heap.{Globals}
use Rattle.vx_link.specs.declared.program.Program.{Program}
use Rattle.vx_ready.specs.Initialising.{with_state}
use Rattle.vx_value.specs.declared.key.Kind.{Kind}
use Rattle.vx_value.specs.declared.key.Kind.TheVariants.{Call, Init, Wait}
use Rattle.vx_value.specs.declared.slot.InitState.TheVariants.{Failed}
use Rattle.vx_throw.specs.Leaving.{left_globals, left_object, wrapped, wrapper_of}

-- the plain heap, static fields and initialisation states of a state
abbrev pub globals_of : State → Globals
globals_of s = record { objects = s.heap; statics = s.statics; inits = s.inits }

either : (p : Program) (s : State) (r : ℕ) (marked : Globals) (b : Bool) → marked ≡ with_state Failed (current_class p s ∷ []) (globals_of s) → with_globals s (if b then marked else with_object (wrapper_of p r) marked) ≡ with_inits (if b then s else with_wrapper p s r) Failed (current_class p s ∷ [])
either p s r marked true e = ap (with_globals s) e
either p s r marked false e = ap (λ g. with_globals s (with_object (wrapper_of p r) g)) e

wrapped_state : (p : Program) (s : State) (r : ℕ) → with_globals s (wrapped p r (with_state Failed (current_class p s ∷ []) (globals_of s))) ≡ with_inits (if is_error p s r then s else with_wrapper p s r) Failed (current_class p s ∷ [])
wrapped_state p s r = either p s r (with_state Failed (current_class p s ∷ []) (globals_of s)) (is_error p s r) refl

-- what stands there then is the passed state
pub left_is_passed : (p : Program) (s : State) (kind : Kind) (r : ℕ) → with_globals s (left_globals p kind (current_class p s) r (globals_of s)) ≡ passed_state p s kind r
left_is_passed p s Call r = refl
left_is_passed p s Init r = wrapped_state p s r
left_is_passed p s Wait r = wrapped_state p s r

-- and what is thrown on the passed object
pub left_is_object : (p : Program) (s : State) (kind : Kind) (r : ℕ) → left_object p kind r (globals_of s) ≡ passed_object p s kind r
left_is_object p s Call r = refl
left_is_object p s Init r = refl
left_is_object p s Wait r = refl
