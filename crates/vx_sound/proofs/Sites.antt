-- Where an instruction stands in a typed state, and what it comes to where its types lead on.
use Rattle.std.proofs.Common.{List, Option, Some, [], arith, subst, sym, true, ℕ, ◌+◌, ◌∷◌, ◌≡◌, ◌≤◌}
use Prim.Native.String.{String}
use Rattle.std.proofs.lemmas.Bool.{le-leb}
use Rattle.std.proofs.lemmas.List.Elements.{All-head}
use Rattle.std.specs.Prelude.{All, nat_le}
use Rattle.vx_java.specs.Machine.{Here, Outcome, Raise, Value, go, illegal, push, settle, stack_size, when}
use Rattle.vx_kept_facts.proofs.Claims.{is_raised}
use Rattle.vx_kept_facts.proofs.Sites.{throwable}
use Rattle.vx_link.specs.ClassNames.{core_class}
use Rattle.vx_link.specs.Parts.{method_at}
use Rattle.vx_sound.proofs.Values.{size_within, some_same}
use Rattle.vx_sound.specs.Sound.{IsSound}
use Rattle.vx_sound.specs.Typed.{AreTypings, IsTypedOutcome, IsTypedState, Typings}
use Rattle.vx_sound.specs.Values.{type_of_value, types_of_frame, types_of_values}
use Rattle.vx_types.proofs.FitLaws.{all_itself, state_itself}
use Rattle.vx_types.proofs.Lists.{list_fits, size_below}
use Rattle.vx_types.specs.Fits.{StateFits, all_fit, fits}
use Rattle.vx_types.specs.Flow as flow
use Rattle.vx_types.specs.Ranked.{IsRanked}
use Rattle.vx_types.specs.Rows.{pool_of}
use Rattle.vx_types.specs.Types.{VerState}
use Rattle.vx_types.specs.declared.types.VerType.{VerType}
use Rattle.vx_verify.proofs.Forcing.{reached_below}
use Rattle.vx_verify.specs.Typing.{IsReached}

-- the code and the pool are those of the method on top, and the state is typed
pub record AtSite (typings : Typings) (h : Here) : Type 0 where
  pub sound : IsSound h.program
  pub are : AreTypings h.program typings
  pub code : (method_at h.program h.state.top.method).code ≡ Some h.code
  pub pool : h.pool ≡ pool_of h.program h.state.top.method
  pub state : IsTypedState h.program typings h.state

-- the types of the frame on top, and these with other operands
abbrev pub types_here : Here → VerState
types_here h = types_of_frame h.program h.state.heap h.state.top

abbrev pub types_with : Here → List VerType → VerState
types_with h operands = record (types_here h) { operands = operands }

abbrev pub types_in : Here → List Value → List VerType
types_in h values = types_of_values h.program h.state.heap values

abbrev pub behind : Here → ℕ
behind h = h.state.top.position + h.size

-- types with which some positions are reached, and whose operands fit in the greatest stack
pub record LeadsTo (typings : Typings) (h : Here) (positions : List ℕ) (made : VerState) : Type 0 where
  pub room : flow.stack_size made.operands ≤ h.code.max_stack
  pub reached : All (λ position. IsReached h.program (typings h.state.top.method) position made) positions

abbrev pub Typed : Typings → Here → Outcome → Type 0
Typed typings h o = IsTypedOutcome h.program typings o

module _ (typings : Typings) (h : Here) (site : AtSite typings h) where
  ranked : IsRanked h.program
  ranked = site.sound.hierarchy.ranked

  -- the state with other values in the frame on top, at a position that is reached with what their types fit
  pub moves : (position : ℕ) (locals operands : List Value) (made : VerState) → IsReached h.program (typings h.state.top.method) position made
      → StateFits h.program (record { locals = types_in h locals; operands = types_in h operands }) made
      → IsTypedState h.program typings (record (h.state) { top = record (h.state.top) { position = position; locals = locals; operands = operands } })
  moves position locals operands made reached fits = record {
    heap = site.state.heap;
    statics = site.state.statics;
    inits = site.state.inits;
    top = reached_below h.program ranked (typings h.state.top.method) position (record { locals = types_in h locals; operands = types_in h operands }) made fits reached;
    callers = site.state.callers;
  }

  -- with other operands, whose types fit these
  pub moves_fitting : (position : ℕ) (operands : List Value) (rest : List VerType) → all_fit h.program (types_in h operands) rest ≡ true
      → IsReached h.program (typings h.state.top.method) position (types_with h rest)
      → IsTypedState h.program typings (record (h.state) { top = record (h.state.top) { position = position; operands = operands } })
  moves_fitting position operands rest fit reached =
      moves position h.state.top.locals operands (types_with h rest) reached (record { locals = all_itself h.program ranked (types_in h h.state.top.locals); operands = fit })

  -- with other operands, whose types are these
  pub moves_with : (position : ℕ) (operands : List Value) → IsReached h.program (typings h.state.top.method) position (types_with h (types_in h operands))
      → IsTypedState h.program typings (record (h.state) { top = record (h.state.top) { position = position; operands = operands } })
  moves_with position operands reached =
      moves position h.state.top.locals operands (types_with h (types_in h operands)) reached (state_itself h.program ranked (types_with h (types_in h operands)))

  pub raises : (name : String) (message : Option (List ℕ)) → is_raised name ≡ true → Typed typings h (Raise (core_class h.program name) message h.state)
  raises name message among = (throwable h.program site.sound.runnable name among, site.state)

  pub goes : (operands : List Value) → LeadsTo typings h (behind h ∷ []) (types_with h (types_in h operands)) → Typed typings h (go h operands)
  goes operands leads =
      moves_with (behind h) operands
      (All-head (λ position. IsReached h.program (typings h.state.top.method) position (types_with h (types_in h operands))) (behind h) [] leads.reached)

  -- operands that fit those with which it is reached
  pub goes_fitting : (operands : List Value) (rest : List VerType) → all_fit h.program (types_in h operands) rest ≡ true → LeadsTo typings h (behind h ∷ []) (types_with h rest)
      → Typed typings h (go h operands)
  goes_fitting operands rest fit leads =
      moves_fitting (behind h) operands rest fit
      (All-head (λ position. IsReached h.program (typings h.state.top.method) position (types_with h rest)) (behind h) [] leads.reached)

  -- operands whose types fit in the greatest stack fit there
  pub room_there : (operands : List Value) → flow.stack_size (types_in h operands) ≤ h.code.max_stack → nat_le (stack_size operands) h.code.max_stack ≡ true
  room_there operands room =
      let size = size_within h.program h.state.heap operands in
      le-leb (stack_size operands) h.code.max_stack (omega (arith, size, room))

  pub settles_fitting : (operands : List Value) (rest : List VerType) → all_fit h.program (types_in h operands) rest ≡ true → LeadsTo typings h (behind h ∷ []) (types_with h rest)
      → Typed typings h (settle h operands)
  settles_fitting operands rest fit leads =
      let small = size_below h.program (types_in h operands) rest fit in
      let room = leads.room in
      subst (λ b. Typed typings h (when b (go h operands) (illegal h))) (sym (room_there operands (omega (arith, small, room)))) (goes_fitting operands rest fit leads)

  -- operands whose types are these still are
  pub under_fits : (under : List Value) (rest : List VerType) → Some (types_in h under) ≡ Some rest → all_fit h.program (types_in h under) rest ≡ true
  under_fits under rest same =
      subst (λ (ts : List VerType). all_fit h.program (types_in h under) ts ≡ true) (some_same same) (all_itself h.program ranked (types_in h under))

  -- a value that fits a type, on such operands
  pub pushes_fitting : (v : Value) (under : List Value) (t : VerType) (rest : List VerType) → fits h.program (type_of_value h.program h.state.heap v) t ≡ true → Some (types_in h under) ≡ Some rest
      → LeadsTo typings h (behind h ∷ []) (types_with h (t ∷ rest)) → Typed typings h (push h v under)
  pushes_fitting v under t rest fit same leads =
      settles_fitting (v ∷ under) (t ∷ rest) (list_fits h.program (type_of_value h.program h.state.heap v) t (types_in h under) rest fit (under_fits under rest same)) leads

  pub goes_with : (v : Value) (under : List Value) (t : VerType) (rest : List VerType) → fits h.program (type_of_value h.program h.state.heap v) t ≡ true → Some (types_in h under) ≡ Some rest
      → LeadsTo typings h (behind h ∷ []) (types_with h (t ∷ rest)) → Typed typings h (go h (v ∷ under))
  goes_with v under t rest fit same leads =
      goes_fitting (v ∷ under) (t ∷ rest) (list_fits h.program (type_of_value h.program h.state.heap v) t (types_in h under) rest fit (under_fits under rest same)) leads

  pub settles : (operands : List Value) → LeadsTo typings h (behind h ∷ []) (types_with h (types_in h operands)) → Typed typings h (settle h operands)
  settles operands leads =
      subst (λ b. Typed typings h (when b (go h operands) (illegal h))) (sym (room_there operands leads.room)) (goes operands leads)

  -- a value of a type on operands of these types
  pub pushes : (v : Value) (under : List Value) (t : VerType) (rest : List VerType) → type_of_value h.program h.state.heap v ≡ t → Some (types_in h under) ≡ Some rest
      → LeadsTo typings h (behind h ∷ []) (types_with h (t ∷ rest)) → Typed typings h (push h v under)
  pushes v under t rest is same leads =
      settles (v ∷ under)
      (subst (λ (u : VerType). LeadsTo typings h (behind h ∷ []) (types_with h (u ∷ types_in h under))) (sym is)
      (subst (λ (us : List VerType). LeadsTo typings h (behind h ∷ []) (types_with h (t ∷ us))) (sym (some_same same)) leads))

  -- operands of these types, and no other value
  pub goes_under : (under : List Value) (rest : List VerType) → Some (types_in h under) ≡ Some rest → LeadsTo typings h (behind h ∷ []) (types_with h rest) → Typed typings h (go h under)
  goes_under under rest same leads =
      goes under (subst (λ (us : List VerType). LeadsTo typings h (behind h ∷ []) (types_with h us)) (sym (some_same same)) leads)
