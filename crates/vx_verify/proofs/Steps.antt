-- Where an instruction leads, and its handlers, step by step.
use Rattle.std.proofs.Common.{Bool, List, None, Option, Some, [], ap, arith, false, get_or, inl, inr, length, refl, subst, suc, sym, take, true, zero, ℕ, ◌+◌, ◌<◌, ◌⊎◌, ◌∙◌, ◌∷◌, ◌≡◌, ◌≤◌}
use Rattle.std.proofs.lemmas.Bool.{cases_lt, le-leb, lt-ltb}
use Rattle.std.proofs.lemmas.List.{take_all, take_more}
use Rattle.std.proofs.lemmas.List.Elements.{All-cons, All-get_or, All-head, All-nil, All-push, All-tail, All-weaker}
use Rattle.std.specs.Bool.{MatchBool}
use Rattle.std.specs.List.{AllZip, list_all}
use Rattle.std.specs.Prelude.{All, if◌then◌else◌, nat_le, nat_lt, option_map, ◌&&◌}
use Rattle.vx_class.specs.declared.class_file.Catch.{Catch}
use Rattle.vx_class.specs.declared.class_file.Code.{Code}
use Rattle.vx_java.specs.Selection.{covers}
use Rattle.vx_java.specs.declared.operation.Operation.{Operation}
use Rattle.vx_java.specs.declared.operation.Operation.TheVariants.{Goto, IfInt, IfInts, IfNull, IfSame, SwitchLookup, SwitchTable}
use Rattle.vx_types.proofs.Tests.{both, not_both}
use Rattle.vx_types.specs.Flow.{Flow, Next, Refuses, after, flow_of, settled, stack_size, targets_by, targets_of}
use Rattle.vx_types.specs.Rows.{row_of}
use Rattle.vx_types.specs.Types.{VerState}
use Rattle.vx_types.specs.declared.types.Row.{Row}
use Rattle.vx_types.specs.declared.types.Row.TheVariants.{Ends, Leaves}
use Rattle.vx_verify.proofs.Following.{decoded_flow, lacking_refuses, last_flow}
use Rattle.vx_verify.proofs.Forcing.{handlers_forced, refused_untyped, targets_forced}
use Rattle.vx_verify.proofs.Inferring.{reached_raised}
use Rattle.vx_verify.proofs.Joints.{IsGrown, goes_itself, goes_through, grown_goes, unreadable_has_none}
use Rattle.vx_verify.proofs.Known.{get_read}
use Rattle.vx_verify.proofs.LocalLaws.{item_past}
use Rattle.vx_verify.proofs.Reaching.{are_readable, readable_operands}
use Rattle.vx_verify.proofs.StoreLaws.{state_kept}
use Rattle.vx_verify.specs.Inference.{AreForced, AreHandled, AreReached, Goes, HasNoTyping, IsCaught, IsDecoded, IsFollowed, IsForcedIn, IsHandled, IsInference, IsSubject, Leads, Reaches, caught_state, is_last, known_of, state_of}
use Rattle.vx_verify.specs.States.{HasState, Stands, state_at}
use Rattle.vx_verify.specs.Typing.{IsReached, IsTyping, LeadsOn, caught, handler_state}
use Rattle.vx_verify.specs.declared.inference.Inference.{Inference}
use Rattle.vx_verify.specs.declared.inference.Subject.{Subject}
use Rattle.vx_verify.specs.declared.rows.State.{State}

-- ---- each of some positions

-- those up to a place are reached
pub record AreReaching (s : Subject) (i j : Inference) (positions : List ℕ) (n : ℕ) (state : State) : Type 0 where
  pub goes : Goes s i j
  pub reached : All (λ position. IsReached s.program.now (known_of s j) position (state_at i.store s.frame state)) (take n positions)

pub reaching_start : (s : Subject) (i : Inference) (positions : List ℕ) (state : State) → IsSubject s → IsInference s i → AreReaching s i i positions 0 state
reaching_start s i positions state subject is =
    record { goes = goes_itself s i subject is; reached = All-nil (λ position. IsReached s.program.now (known_of s i) position (state_at i.store s.frame state)) }

pub reaching_forced : (s : Subject) (i j : Inference) (positions : List ℕ) (n : ℕ) (state : State) → IsInference s i → Goes s i j → Stands i.store s.frame state
    → AreForced s positions (state_at i.store s.frame state) → n < length positions → IsForcedIn s (get_or positions n 0) (state_at j.store s.frame state)
reaching_forced s i j positions n state is goes stands forced l =
    subst (λ (x : VerState). IsForcedIn s (get_or positions n 0) x) (sym (state_kept i.store j.store s.frame state is.store goes.later stands))
    (All-get_or (λ q. IsForcedIn s q (state_at i.store s.frame state)) positions n 0 l forced)

-- what was reached is reached still
pub reached_later : (s : Subject) (j k : Inference) (q : ℕ) (x : VerState) → IsSubject s → Goes s j k → IsReached s.program.now (known_of s j) q x → IsReached s.program.now (known_of s k) q x
reached_later s j k q x subject goes reached = reached_raised s.program.now subject.ranked (known_of s j) (known_of s k) q x goes.raised reached

pub reaching_step : (s : Subject) (i j k : Inference) (positions : List ℕ) (n : ℕ) (state : State) → IsSubject s → IsInference s i → Stands i.store s.frame state → n < length positions
    → AreReaching s i j positions n state → Reaches s j k (get_or positions n 0) state → AreReaching s i k positions (n + 1) state
reaching_step s i j k positions n state subject is stands l reaching reaches =
    let x = state_at i.store s.frame state in
    let kept : state_at j.store s.frame state ≡ x = state_kept i.store j.store s.frame state is.store reaching.goes.later stands in
    record {
      goes = goes_through s i j k subject reaching.goes reaches.goes;
      reached = subst (λ (qs : List ℕ). All (λ q. IsReached s.program.now (known_of s k) q x) qs) (sym (take_more positions n 0 l))
          (All-push (λ q. IsReached s.program.now (known_of s k) q x) (take n positions) (get_or positions n 0)
          (All-weaker (λ q. IsReached s.program.now (known_of s j) q x) (λ q. IsReached s.program.now (known_of s k) q x) (λ q h. reached_later s j k q x subject reaches.goes h)
          (take n positions) reaching.reached)
          (subst (λ (y : VerState). IsReached s.program.now (known_of s k) (get_or positions n 0) y) kept reaches.reached));
    }

pub reaching_end : (s : Subject) (i j : Inference) (positions : List ℕ) (n : ℕ) (state : State) → AreReaching s i j positions n state → length positions ≤ n → AreReached s i j positions state
reaching_end s i j positions n state reaching l = record {
  goes = reaching.goes;
  reached = subst (λ (qs : List ℕ). All (λ q. IsReached s.program.now (known_of s j) q (state_at i.store s.frame state)) qs) (take_all n positions l) reaching.reached;
}

-- ---- where an operation leads

-- there is some position
some_target : (code : List ℕ) (at size : ℕ) (o : Operation) → 0 < length (targets_of code at size o)
some_target code at size (IfInt test offset) = omega arith
some_target code at size (IfInts test offset) = omega arith
some_target code at size (IfSame wanted offset) = omega arith
some_target code at size (IfNull wanted offset) = omega arith
some_target code at size (Goto offset) = omega arith
some_target code at size (SwitchTable fallback low high first) = omega arith
some_target code at size (SwitchLookup fallback pairs first) = omega arith
some_target code at size _ = omega arith

pub unreadable_leads_nowhere : (s : Subject) (at size : ℕ) (o : Operation) (made : VerState) (readable : Bool) → AreForced s (targets_of s.code.now.bytes at size o) made
    → readable ≡ are_readable s.code.now made → readable ≡ false → HasNoTyping s
unreadable_leads_nowhere s at size o made readable forced read e =
    let ts = targets_of s.code.now.bytes at size o in
    unreadable_has_none s (get_or ts 0 0) made readable (All-get_or (λ q. IsForcedIn s q made) ts 0 0 (some_target s.code.now.bytes at size o) forced) read e

pub leads_all : (s : Subject) (i j : Inference) (at size : ℕ) (o : Operation) (made : State) (targets : List ℕ) (led readable : Bool) → targets ≡ targets_of s.code.now.bytes at size o
    → readable ≡ are_readable s.code.now (state_at i.store s.frame made) → readable ≡ true → MatchBool led (AreReached s i j targets made) (HasNoTyping s)
    → MatchBool led (Leads s i j at size o made) (HasNoTyping s)
leads_all s i j at size o made targets true readable e read passed h = record {
  goes = h.goes;
  operands = readable_operands s.code.now (state_at i.store s.frame made) (sym read ∙ passed);
  reached = subst (λ (qs : List ℕ). All (λ q. IsReached s.program.now (known_of s j) q (state_at i.store s.frame made)) qs) e h.reached;
}
leads_all s i j at size o made targets false readable e read passed h = h

-- ---- what an instruction makes

not_last_targets : (row : Row) (targets : List ℕ) → is_last row ≡ false → targets_by row targets ≡ targets
not_last_targets Ends targets h = absurd cc
not_last_targets (Leaves wanted) targets h = absurd cc
not_last_targets _ targets h = refl

flow_settled : (s : Subject) (at size : ℕ) (o : Operation) (before made : VerState) → IsDecoded s at size o → is_last (row_of s.program.now s.method.0 o) ≡ false
    → after s.program.now (row_of s.program.now s.method.0 o) before ≡ Some made
    → flow_of s.program.now s.method.0 s.code.now at before ≡ settled s.code.now (targets_of s.code.now.bytes at size o) (Some made)
flow_settled s at size o before made decoded more e =
    let p = s.program.now in
    let row = row_of p s.method.0 o in
    decoded_flow p s.method.0 s.code.now at size o decoded.instruction before decoded.is decoded.takes decoded.operation
    ∙ ap (settled s.code.now (targets_by row (targets_of s.code.now.bytes at size o))) e
    ∙ ap (λ (ts : List ℕ). settled s.code.now ts (Some made)) (not_last_targets row (targets_of s.code.now.bytes at size o) more)

abbrev are_inside : Code → List ℕ → Bool
are_inside code targets = list_all (λ t. nat_lt t (length code.bytes)) targets

abbrev is_settled : Code → List ℕ → VerState → Bool
is_settled code targets made = nat_le (stack_size made.operands) code.max_stack && are_inside code targets

-- what holds of each position for each typing
each_forced : (s : Subject) (made : VerState) (targets : List ℕ)
    → ((typing : ℕ → Option VerState) → IsTyping s.program.now s.method.0 s.code.now typing → All (λ q. IsReached s.program.now typing q made) targets) → AreForced s targets made
each_forced s made [] f = All-nil (λ q. IsForcedIn s q made)
each_forced s made (q ∷ qs) f =
    All-cons (λ k. IsForcedIn s k made) q qs (λ typing is. All-head (λ k. IsReached s.program.now typing k made) q qs (f typing is))
    (each_forced s made qs (λ typing is. All-tail (λ k. IsReached s.program.now typing k made) q qs (f typing is)))

none_forced : (s : Subject) (made : VerState) (targets : List ℕ) → HasNoTyping s → AreForced s targets made
none_forced s made [] none = All-nil (λ q. IsForcedIn s q made)
none_forced s made (q ∷ qs) none = All-cons (λ k. IsForcedIn s k made) q qs (λ typing is. absurd (none typing is)) (none_forced s made qs none)

made_forced : (s : Subject) (at : ℕ) (before made : VerState) (targets : List ℕ) → IsSubject s → IsForcedIn s at before
    → flow_of s.program.now s.method.0 s.code.now at before ≡ settled s.code.now targets (Some made) → AreForced s targets made
made_forced s at before made targets subject forced flow = by (is_settled s.code.now targets made) refl
  where
    chosen : (b : Bool) → is_settled s.code.now targets made ≡ b → flow_of s.program.now s.method.0 s.code.now at before ≡ (if b then Next made targets else Refuses)
    chosen b h = flow ∙ ap (λ t. if t then Next made targets else Refuses) h

    by : (b : Bool) → is_settled s.code.now targets made ≡ b → AreForced s targets made
    by true h = each_forced s made targets (targets_forced s.program.now subject.ranked s.method.0 s.code.now at before made targets forced (chosen true h))
    by false h = none_forced s made targets (refused_untyped s.program.now subject.ranked s.method.0 s.code.now at before forced (chosen false h))

-- what is known lies in the code
known_inside : (s : Subject) (i : Inference) (q : ℕ) (x : VerState) → IsInference s i → IsReached s.program.now (known_of s i) q x → q < length s.code.now.bytes
known_inside s i q x is reached = by (cases_lt q (length s.code.now.bytes))
  where
    by : (q < length s.code.now.bytes) ⊎ (length s.code.now.bytes ≤ q) → q < length s.code.now.bytes
    by (inl l) = l
    by (inr l) =
        let states = is.states in
        let none : state_of i q ≡ None = item_past i.states.items q None (omega (arith, states, l)) in
        let nothing : None ≡ Some reached.state = sym (ap (option_map (state_at i.store s.frame)) none) ∙ reached.covered in
        absurd cc

all_inside : (s : Subject) (i : Inference) (x : VerState) (targets : List ℕ) → IsInference s i → All (λ q. IsReached s.program.now (known_of s i) q x) targets → are_inside s.code.now targets ≡ true
all_inside s i x [] is reached = refl
all_inside s i x (q ∷ qs) is reached =
    both (nat_lt q (length s.code.now.bytes)) (are_inside s.code.now qs)
    (lt-ltb q (length s.code.now.bytes) (known_inside s i q x is (All-head (λ k. IsReached s.program.now (known_of s i) k x) q qs reached)))
    (all_inside s i x qs is (All-tail (λ k. IsReached s.program.now (known_of s i) k x) q qs reached))

-- ---- following

none_made : (s : Subject) (i j : Inference) (o : Option VerState) → HasState i.store j.store s.frame None o → o ≡ None
none_made s i j None h = refl
none_made s i j (Some x) h = absurd h

pub record IsMade (s : Subject) (i j : Inference) (row : Row) (before made : State) : Type 0 where
  pub grown : IsGrown i j
  pub stands : Stands j.store s.frame made
  pub makes : after s.program.now row (state_at i.store s.frame before) ≡ Some (state_at j.store s.frame made)

pub is_made : (s : Subject) (i j : Inference) (row : Row) (before made : State) → j.states.items ≡ i.states.items → j.marked ≡ i.marked → j.caught.items ≡ i.caught.items
    → HasState i.store j.store s.frame (Some made) (after s.program.now row (state_at i.store s.frame before)) → IsMade s i j row before made
is_made s i j row before made states marks caught h = by (after s.program.now row (state_at i.store s.frame before)) refl h
  where
    by : (o : Option VerState) → after s.program.now row (state_at i.store s.frame before) ≡ o → HasState i.store j.store s.frame (Some made) o → IsMade s i j row before made
    by None e k = absurd k
    by (Some x) e k = record {
      grown = record { states = states; marks = marks; caught = caught; later = k.later };
      stands = k.stands;
      makes = e ∙ ap Some (sym k.is);
    }

pub made_inference : (s : Subject) (i j : Inference) (row : Row) (before made : State) → IsSubject s → IsInference s i → IsMade s i j row before made → IsInference s j
made_inference s i j row before made subject is m = (grown_goes s i j subject is m.grown).inference

pub made_stands : (s : Subject) (i j : Inference) (row : Row) (before made : State) → IsMade s i j row before made → Stands j.store s.frame made
made_stands s i j row before made m = m.stands

pub lacks : (s : Subject) (i j : Inference) (at size : ℕ) (o : Operation) (row : Row) (before : State) → IsSubject s → IsInference s i
    → known_of s i at ≡ Some (state_at i.store s.frame before) → IsDecoded s at size o → row ≡ row_of s.program.now s.method.0 o
    → HasState i.store j.store s.frame None (after s.program.now row (state_at i.store s.frame before)) → HasNoTyping s
lacks s i j at size o row before subject is known decoded same h =
    let p = s.program.now in
    let x = state_at i.store s.frame before in
    let none : after p (row_of p s.method.0 o) x ≡ None =
    ap (λ (r : Row). after p r x) (sym same) ∙ none_made s i j (after p row x) h in
    refused_untyped p subject.ranked s.method.0 s.code.now at x (is.inferred.forced at x known)
    (decoded_flow p s.method.0 s.code.now at size o decoded.instruction x decoded.is decoded.takes decoded.operation
    ∙ lacking_refuses p s.code.now at size o (row_of p s.method.0 o) x none)

pub follows_last : (s : Subject) (i j : Inference) (at size : ℕ) (o : Operation) (row : Row) (before made : State) (last : Bool) → IsSubject s → IsInference s i
    → known_of s i at ≡ Some (state_at i.store s.frame before) → IsDecoded s at size o → row ≡ row_of s.program.now s.method.0 o → last ≡ is_last row → last ≡ true
    → IsMade s i j row before made → IsFollowed s i j at before
follows_last s i j at size o row before made last subject is known decoded same l passed m =
    let p = s.program.now in
    let x = state_at i.store s.frame before in
    let mine = row_of p s.method.0 o in
    let flow : flow_of p s.method.0 s.code.now at x ≡ Next x [] =
    decoded_flow p s.method.0 s.code.now at size o decoded.instruction x decoded.is decoded.takes decoded.operation
    ∙ last_flow p s.code.now at size o mine x (state_at j.store s.frame made) (ap is_last (sym same) ∙ sym l ∙ passed) (ap (λ (r : Row). after p r x) (sym same) ∙ m.makes)
    (is.inferred.operands at x known) in
    record {
      goes = grown_goes s i j subject is m.grown;
      leads = subst (λ (f : Flow). LeadsOn p (known_of s j) f) (sym flow) (All-nil (λ q. IsReached p (known_of s j) q x));
    }

pub follow_forced : (s : Subject) (i j : Inference) (at size : ℕ) (o : Operation) (row : Row) (before made : State) (last : Bool) → IsSubject s → IsInference s i
    → known_of s i at ≡ Some (state_at i.store s.frame before) → IsDecoded s at size o → row ≡ row_of s.program.now s.method.0 o → last ≡ is_last row → last ≡ false
    → IsMade s i j row before made → AreForced s (targets_of s.code.now.bytes at size o) (state_at j.store s.frame made)
follow_forced s i j at size o row before made last subject is known decoded same l no_more m =
    let p = s.program.now in
    let x = state_at i.store s.frame before in
    made_forced s at x (state_at j.store s.frame made) (targets_of s.code.now.bytes at size o) subject (is.inferred.forced at x known)
    (flow_settled s at size o x (state_at j.store s.frame made) decoded (ap is_last (sym same) ∙ sym l ∙ no_more) (ap (λ (r : Row). after p r x) (sym same) ∙ m.makes))

pub follows_on : (s : Subject) (i j k : Inference) (at size : ℕ) (o : Operation) (row : Row) (before made : State) (last led : Bool) → IsSubject s → IsInference s i
    → IsDecoded s at size o → row ≡ row_of s.program.now s.method.0 o → last ≡ is_last row → last ≡ false
    → IsMade s i j row before made → MatchBool led (Leads s j k at size o made) (HasNoTyping s) → MatchBool led (IsFollowed s i k at before) (HasNoTyping s)
follows_on s i j k at size o row before made last true subject is decoded same l no_more m h =
    let p = s.program.now in
    let x = state_at i.store s.frame before in
    let y = state_at j.store s.frame made in
    let ts = targets_of s.code.now.bytes at size o in
    let test : is_settled s.code.now ts y ≡ true =
    both (nat_le (stack_size y.operands) s.code.now.max_stack) (are_inside s.code.now ts) (le-leb (stack_size y.operands) s.code.now.max_stack h.operands.room)
    (all_inside s k y ts h.goes.inference h.reached) in
    let flow : flow_of p s.method.0 s.code.now at x ≡ Next y ts =
    flow_settled s at size o x y decoded (ap is_last (sym same) ∙ sym l ∙ no_more) (ap (λ (r : Row). after p r x) (sym same) ∙ m.makes)
    ∙ ap (λ t. if t then Next y ts else Refuses) test in
    record {
      goes = goes_through s i j k subject (grown_goes s i j subject is m.grown) h.goes;
      leads = subst (λ (f : Flow). LeadsOn p (known_of s k) f) (sym flow) h.reached;
    }
follows_on s i j k at size o row before made last false subject is decoded same l no_more m h = h

-- ---- handlers

-- the state with which a handler begins
caught_is : (s : Subject) (i : Inference) (row : Catch) (operands : ℕ) (before : State) → IsCaught s.program.now s.method.0 i.store row operands
    → state_at i.store s.frame (record { locals = before.locals; operands = operands }) ≡ caught_state s i row before
caught_is s i row operands before h = λ x. record { locals = (state_at i.store s.frame before).locals; operands = h.1 x }

pub handler_stands : (s : Subject) (i : Inference) (row : Catch) (operands : ℕ) (before : State) → Stands i.store s.frame before → IsCaught s.program.now s.method.0 i.store row operands
    → Stands i.store s.frame (record { locals = before.locals; operands = operands })
handler_stands s i row operands before stands h = record { locals = stands.locals; operands = h.0 }

pub handler_forced : (s : Subject) (i : Inference) (row : Catch) (operands : ℕ) (before : State) → IsCaught s.program.now s.method.0 i.store row operands
    → IsForcedIn s row.handler (caught_state s i row before) → IsForcedIn s row.handler (state_at i.store s.frame (record { locals = before.locals; operands = operands }))
handler_forced s i row operands before h forced = subst (λ (x : VerState). IsForcedIn s row.handler x) (sym (caught_is s i row operands before h)) forced

pub handler_reached : (s : Subject) (i j : Inference) (row : Catch) (operands : ℕ) (before : State) (reached : Bool) → IsCaught s.program.now s.method.0 i.store row operands
    → MatchBool reached (Reaches s i j row.handler (record { locals = before.locals; operands = operands })) (HasNoTyping s) → MatchBool reached (IsHandled s i j row before) (HasNoTyping s)
handler_reached s i j row operands before true h reaches = record {
  goes = reaches.goes;
  reached = subst (λ (x : VerState). IsReached s.program.now (known_of s j) row.handler x) (caught_is s i row operands before h) reaches.reached;
}
handler_reached s i j row operands before false h none = none

-- the handlers of the rows up to a place are reached
pub record AreHandling (s : Subject) (i j : Inference) (at n : ℕ) (before : State) : Type 0 where
  pub goes : Goes s i j
  pub handlers : All (λ row. covers row at ≡ true → IsReached s.program.now (known_of s j) row.handler (caught_state s i row before)) (take n s.code.now.catches)

abbrev IsDone : Subject → (i j : Inference) → (at : ℕ) → (before : State) → Catch → Type 0
IsDone s i j at before row = covers row at ≡ true → IsReached s.program.now (known_of s j) row.handler (caught_state s i row before)

pub handling_start : (s : Subject) (i : Inference) (at : ℕ) (before : State) → IsSubject s → IsInference s i → AreHandling s i i at 0 before
handling_start s i at before subject is = record { goes = goes_itself s i subject is; handlers = All-nil (IsDone s i i at before) }

handling_more : (s : Subject) (i j : Inference) (at n : ℕ) (before : State) (row other : Catch) → n < length s.code.now.catches → row ≡ get_or s.code.now.catches n other
    → All (IsDone s i j at before) (take n s.code.now.catches) → IsDone s i j at before row → All (IsDone s i j at before) (take (n + 1) s.code.now.catches)
handling_more s i j at n before row other l e all this =
    subst (λ (rows : List Catch). All (IsDone s i j at before) rows) (sym (take_more s.code.now.catches n other l))
    (All-push (IsDone s i j at before) (take n s.code.now.catches) (get_or s.code.now.catches n other) all (subst (λ (r : Catch). IsDone s i j at before r) e this))

pub handling_skip : (s : Subject) (i j : Inference) (at n : ℕ) (before : State) (row other : Catch) (covered : Bool) → n < length s.code.now.catches → row ≡ get_or s.code.now.catches n other
    → AreHandling s i j at n before → covered ≡ covers row at → covered ≡ false → AreHandling s i j at (n + 1) before
handling_skip s i j at n before row other covered l e handling c passed = record {
  goes = handling.goes;
  handlers = handling_more s i j at n before row other l e handling.handlers (λ h. not_both (covers row at) h (sym c ∙ passed));
}

-- local variables are what they were
pub caught_kept_on : (s : Subject) (i j : Inference) (row : Catch) (before : State) → IsInference s i → Goes s i j → Stands i.store s.frame before → caught_state s j row before ≡ caught_state s i row before
caught_kept_on s i j row before is goes stands =
    ap (λ (x : VerState). handler_state s.program.now s.method.0 row x) (state_kept i.store j.store s.frame before is.store goes.later stands)

pub handling_step : (s : Subject) (i j k : Inference) (at n : ℕ) (before : State) (row other : Catch) → IsSubject s → IsInference s i → Stands i.store s.frame before
    → n < length s.code.now.catches → row ≡ get_or s.code.now.catches n other → AreHandling s i j at n before → IsHandled s j k row before → AreHandling s i k at (n + 1) before
handling_step s i j k at n before row other subject is stands l e handling handled = record {
  goes = goes_through s i j k subject handling.goes handled.goes;
  handlers = handling_more s i k at n before row other l e
      (All-weaker (IsDone s i j at before) (IsDone s i k at before) (λ r h c. reached_later s j k r.handler (caught_state s i r before) subject handled.goes (h c))
      (take n s.code.now.catches) handling.handlers)
      (λ c. subst (λ (x : VerState). IsReached s.program.now (known_of s k) row.handler x) (caught_kept_on s i j row before is handling.goes stands) handled.reached);
}

pub handling_end : (s : Subject) (i j : Inference) (at n : ℕ) (before : State) → AreHandling s i j at n before → length s.code.now.catches ≤ n → AreHandled s i j at before
handling_end s i j at n before handling l = record {
  goes = handling.goes;
  handlers = subst (λ (rows : List Catch). All (IsDone s i j at before) rows) (take_all n s.code.now.catches l) handling.handlers;
}

zip_at : {A B : Type 0} (R : A → B → Type 0) (xs : List A) (ys : List B) (n : ℕ) (x : A) (y : B) → AllZip R xs ys → n < length xs → R (get_or xs n x) (get_or ys n y)
zip_at R [] ys n x y h l = absurd (omega (arith, l))
zip_at R (a ∷ xs) [] n x y h l = absurd h
zip_at R (a ∷ xs) (b ∷ ys) zero x y h l = h.0
zip_at R (a ∷ xs) (b ∷ ys) (suc n) x y h l = zip_at R xs ys n x y h.1 (omega (arith, l))

zip_lengths : {A B : Type 0} (R : A → B → Type 0) (xs : List A) (ys : List B) → AllZip R xs ys → length xs ≡ length ys
zip_lengths R [] [] h = refl
zip_lengths R (a ∷ xs) (b ∷ ys) h = ap suc (zip_lengths R xs ys h.1)
zip_lengths R [] (b ∷ ys) h = absurd h
zip_lengths R (a ∷ xs) [] h = absurd h

-- the operands of each row are there
pub caught_there : (s : Subject) (i : Inference) (n : ℕ) → IsInference s i → n < length s.code.now.catches → n < length i.caught.items
caught_there s i n is l = let same = zip_lengths (IsCaught s.program.now s.method.0 i.store) s.code.now.catches i.caught.items is.caught in omega (arith, same, l)

pub handling_caught : (s : Subject) (i j : Inference) (at n : ℕ) (before : State) (row other : Catch) (operands : ℕ) → n < length s.code.now.catches → row ≡ get_or s.code.now.catches n other
    → AreHandling s i j at n before → operands ≡ get_or j.caught.items n operands → IsCaught s.program.now s.method.0 j.store row operands
handling_caught s i j at n before row other operands l e handling read =
    subst (λ k. IsCaught s.program.now s.method.0 j.store row k) (get_read j.caught.items n operands 0 (caught_there s j n handling.goes.inference l) read)
    (subst (λ (r : Catch). IsCaught s.program.now s.method.0 j.store r (get_or j.caught.items n 0)) (sym e)
    (zip_at (IsCaught s.program.now s.method.0 j.store) s.code.now.catches j.caught.items n other 0 handling.goes.inference.caught l))

pub handling_forced : (s : Subject) (i j : Inference) (at n : ℕ) (before : State) (row other : Catch) (covered : Bool) → IsSubject s → IsInference s i → Stands i.store s.frame before
    → IsForcedIn s at (state_at i.store s.frame before) → n < length s.code.now.catches → row ≡ get_or s.code.now.catches n other → AreHandling s i j at n before
    → covered ≡ covers row at → covered ≡ true → IsForcedIn s row.handler (caught_state s j row before)
handling_forced s i j at n before row other covered subject is stands forced l e handling c passed =
    subst (λ (x : VerState). IsForcedIn s row.handler x) (sym (caught_kept_on s i j row before is handling.goes stands)) (λ typing h. here typing h)
  where
    here : (typing : ℕ → Option VerState) → IsTyping s.program.now s.method.0 s.code.now typing → IsReached s.program.now typing row.handler (caught_state s i row before)
    here typing h =
        let all = handlers_forced s.program.now subject.ranked s.method.0 s.code.now at (state_at i.store s.frame before) forced typing h in
        let one = All-get_or (λ r. covers r at ≡ true → IsReached s.program.now typing r.handler (caught_state s i r before)) s.code.now.catches n other l all in
        (subst (λ (r : Catch). covers r at ≡ true → IsReached s.program.now typing r.handler (caught_state s i r before)) (sym e) one) (sym c ∙ passed)
