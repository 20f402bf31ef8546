-- Visits of marked positions, sweeps over all positions, and what is known at the beginning and at the end.
use Rattle.std.proofs.Common.{Bool, List, None, Option, Some, [], ap, arith, false, get_or, inl, inr, length, length-set, refl, subst, suc, sym, take, true, zero, ℕ, ◌++◌, ◌+◌, ◌<◌, ◌⊎◌, ◌∙◌, ◌∷◌, ◌≡◌, ◌≤◌}
use Rattle.std.proofs.lemmas.List.{take_all, take_more}
use Rattle.std.specs.BTreeSet.{BTreeSet, IsEmpty, Updates}
use Rattle.std.specs.Bool.{MatchBool}
use Rattle.std.specs.List.{AllZip}
use Rattle.std.specs.Ordering.{nat_cmp}
use Rattle.std.specs.Prelude.{All, Ok, Result, ok_or, option_map, replicate, slice_set}
use Rattle.vx_class.specs.declared.class_file.Catch.{Catch}
use Rattle.vx_class.specs.declared.class_file.Code.{Code}
use Rattle.vx_java.specs.Selection.{covers}
use Rattle.vx_link.specs.declared.program.Program.{Program}
use Rattle.vx_list.specs.Places.{item_or}
use Rattle.vx_java.specs.Operation.{operation_of}
use Rattle.vx_java.specs.declared.operation.Operation.{Operation}
use Rattle.vx_opcode.specs.Decode.{TableFits, instruction_at}
use Rattle.vx_opcode.specs.declared.instruction.DecodeFault.{DecodeFault}
use Rattle.vx_opcode.specs.declared.instruction.Instruction.{Instruction}
use Rattle.vx_types.specs.Flow.{EntriesFit, flow_of}
use Rattle.vx_types.proofs.FitLaws.{state_itself}
use Rattle.vx_types.specs.Ranked.{IsRanked}
use Rattle.vx_types.specs.Types.{VerState}
use Rattle.vx_verify.proofs.Entries.{entries_fit, some_decoded}
use Rattle.vx_verify.proofs.Following.{outside_untyped, undecoded_untyped}
use Rattle.vx_verify.proofs.Forcing.{same_some, start_forced}
use Rattle.vx_verify.proofs.Inferring.{inferred_typing, leads_raised, raised_itself}
use Rattle.vx_verify.proofs.Joints.{goes_through, state_known}
use Rattle.vx_verify.proofs.Known.{item_set_elsewhere, item_set_here}
use Rattle.vx_verify.proofs.Marks.{mark_elsewhere, mark_here, marks_within, none_within}
use Rattle.vx_verify.proofs.Putting.{is_or_not, unmarked_inferred}
use Rattle.vx_verify.proofs.Reached.{caught_kept}
use Rattle.vx_verify.proofs.StoreLaws.{later_itself, later_through, stands_kept, state_kept}
use Rattle.vx_verify.specs.Inference.{AreCaught, AreHandled, Goes, HasNoTyping, IsCaught, IsClosedIn, IsDecoded, IsFollowed, IsForcedIn, IsInference, IsLooked, IsNext, IsSubject, IsSwept, known_of, marked_of, state_of}
use Rattle.vx_verify.specs.Inferred.{AreInferred, AreRaised, IsClosedAt}
use Rattle.vx_verify.specs.States.{HasStack, IsLater, IsStore, Stands, state_at}
use Rattle.vx_verify.specs.Typing.{AreOperands, IsCodeTyped, IsReached, caught, handler_state, start_locals, start_state}
use Rattle.vx_verify.specs.declared.inference.Inference.{Inference}
use Rattle.vx_verify.specs.declared.inference.Subject.{Subject}
use Rattle.vx_verify.specs.declared.rows.State.{State}
use Rattle.vx_verify.specs.declared.store.Store.{Store}

-- ---- a visit

-- the types of a position in a later store
pub known_later : (s : Subject) (i j : Inference) (at : ℕ) (before : State) → IsInference s i → Goes s i j → Stands i.store s.frame before → IsForcedIn s at (state_at i.store s.frame before)
    → IsForcedIn s at (state_at j.store s.frame before)
known_later s i j at before is goes stands forced =
    subst (λ (x : VerState). IsForcedIn s at x) (sym (state_kept i.store j.store s.frame before is.store goes.later stands)) forced

pub looked : (s : Subject) (i j k : Inference) (at : ℕ) (before : State) (handled : Bool) → IsSubject s → IsInference s i → Stands i.store s.frame before → IsFollowed s i j at before
    → MatchBool handled (AreHandled s j k at before) (HasNoTyping s) → MatchBool handled (IsLooked s i k at before) (HasNoTyping s)
looked s i j k at before true subject is stands followed handled =
    let p = s.program.now in
    let kept : state_at j.store s.frame before ≡ state_at i.store s.frame before = state_kept i.store j.store s.frame before is.store followed.goes.later stands in
    record {
      goes = goes_through s i j k subject followed.goes handled.goes;
      closed = record {
        leads = leads_raised p subject.ranked (known_of s j) (known_of s k) (flow_of p s.method.0 s.code.now at (state_at i.store s.frame before)) handled.goes.raised followed.leads;
        handlers = subst (λ (x : VerState). All (λ row. covers row at ≡ true → IsReached p (known_of s k) row.handler (handler_state p s.method.0 row x)) s.code.now.catches) kept handled.handlers;
      };
    }
looked s i j k at before false subject is stands followed handled = handled

pub decoded_is : (s : Subject) (at : ℕ) (bytes : List ℕ) (found : Result Instruction DecodeFault) (fault : DecodeFault) (i : Instruction) (o : Operation) → bytes ≡ s.code.now.bytes
    → found ≡ ok_or (instruction_at bytes at) fault → found ≡ Ok i → at + i.length ≤ length bytes → TableFits bytes i.operand → o ≡ operation_of i → IsDecoded s at i.length o
decoded_is s at bytes found fault i o same e ok within fit does = record {
  instruction = i;
  is = ap (λ (bs : List ℕ). instruction_at bs at) (sym same) ∙ some_decoded (instruction_at bytes at) fault i (sym e ∙ ok);
  takes = refl;
  operation = sym does;
  within = subst (λ (bs : List ℕ). at + i.length ≤ length bs) same within;
  entries = subst (λ (x : Operation). EntriesFit s.code.now.bytes x) (sym does)
      (entries_fit s.code.now.bytes i (subst (λ (bs : List ℕ). TableFits bs i.operand) same fit));
}

pub undecoded_has_none : (s : Subject) (at : ℕ) (x : VerState) → IsSubject s → IsForcedIn s at x → instruction_at s.code.now.bytes at ≡ None → HasNoTyping s
undecoded_has_none s at x subject forced none = undecoded_untyped s.program.now subject.ranked s.method.0 s.code.now at x forced none

-- ---- a mark

-- a position loses its mark, and all else is as it was
pub unmarked_goes : (s : Subject) (i j : Inference) (at : ℕ) → IsSubject s → IsInference s i → j.store ≡ i.store → j.states.items ≡ i.states.items → j.caught.items ≡ i.caught.items
    → Updates nat_cmp i.marked j.marked at false → ((x : VerState) → known_of s i at ≡ Some x → IsClosedAt s.program.now s.method.0 s.code.now (known_of s i) at x) → Goes s i j
unmarked_goes s i j at subject is store states caught marks done =
    let p = s.program.now in
    let later : IsLater i.store j.store = subst (λ (st : Store). IsLater i.store st) (sym store) (later_itself i.store is.store) in
    let known : known_of s j ≡ known_of s i = λ x q. option_map (state_at (store x) s.frame) (item_or (states x) q None) in
    let others : (q : ℕ) → ¬ (q ≡ at) → marked_of j q ≡ marked_of i q =
    λ q other. mark_elsewhere i.marked j.marked at q false marks other in
    record {
      inference = record {
        store = later.store;
        states = ap length states ∙ is.states;
        marks = marks_within i.marked j.marked at (length s.code.now.bytes) false marks (λ e. absurd cc) is.marks;
        stands = λ q state e.
            stands_kept i.store j.store s.frame state later (is.stands q state (sym (ap (λ (xs : List (Option State)). item_or xs q None) states) ∙ e));
        caught = subst (λ (ns : List ℕ). AllZip (IsCaught p s.method.0 j.store) s.code.now.catches ns) (sym caught)
            (caught_kept p s.method.0 i.store j.store is.store later s.code.now.catches i.caught.items is.caught);
        inferred = subst (λ (f : ℕ → Option VerState). AreInferred p s.method.0 s.code.now f (marked_of j)) (sym known)
            (unmarked_inferred p s.method.0 s.code.now (known_of s i) (marked_of i) (marked_of j) at others done is.inferred);
      };
      later = later;
      raised = subst (λ (f : ℕ → Option VerState). AreRaised p (known_of s i) f) (sym known) (raised_itself p subject.ranked (known_of s i));
    }

-- nothing is known there, or its instruction was looked at with what is known
pub unknown_done : (s : Subject) (i : Inference) (at : ℕ) → state_of i at ≡ None → (x : VerState) → known_of s i at ≡ Some x
    → IsClosedAt s.program.now s.method.0 s.code.now (known_of s i) at x
unknown_done s i at none x e = let nothing : None ≡ Some x = sym (ap (option_map (state_at i.store s.frame)) none) ∙ e in absurd cc

pub known_done : (s : Subject) (i : Inference) (at : ℕ) (before : State) → state_of i at ≡ Some before → IsClosedIn s i at before → (x : VerState) → known_of s i at ≡ Some x
    → IsClosedAt s.program.now s.method.0 s.code.now (known_of s i) at x
known_done s i at before here closed x e =
    subst (λ (y : VerState). IsClosedAt s.program.now s.method.0 s.code.now (known_of s i) at y) (same_some (sym (state_known s i at before here) ∙ e)) closed

pub closed_later : (s : Subject) (i k : Inference) (at : ℕ) (before : State) → IsInference s i → Stands i.store s.frame before → IsLooked s i k at before → IsClosedIn s k at before
closed_later s i k at before is stands l =
    subst (λ (x : VerState). IsClosedAt s.program.now s.method.0 s.code.now (known_of s k) at x) (sym (state_kept i.store k.store s.frame before is.store l.goes.later stands)) l.closed

-- ---- sweeps

-- positions before one were looked at
pub record IsSweeping (s : Subject) (i : Inference) (from : ℕ) (found : Bool) : Type 0 where
  pub inference : IsInference s i
  pub within : from ≤ length s.code.now.bytes
  pub first : found ≡ false → from ≡ 0

pub sweeping_start : (s : Subject) (i : Inference) → IsInference s i → IsSweeping s i 0 false
sweeping_start s i is = record { inference = is; within = omega arith; first = λ e. refl }

pub sweeping_step : (s : Subject) (i j : Inference) (at : ℕ) → Goes s i j → at < length s.code.now.bytes → IsSweeping s j (at + 1) true
sweeping_step s i j at goes l = record { inference = goes.inference; within = omega (arith, l); first = λ e. absurd cc }

pub swept : (s : Subject) (i : Inference) (from : ℕ) (found : Bool) → IsSweeping s i from found → IsNext i.marked from None → IsSwept s i (Some found)
swept s i from true sweeping next = sweeping.inference
swept s i from false sweeping next = let first = sweeping.first refl in (sweeping.inference, λ q. next q (omega (arith, first)))

-- what a sweep found
pub some_swept : (s : Subject) (i : Inference) (o : Option Bool) (found b : Bool) → o ≡ Some found → found ≡ b → IsSwept s i o → IsSwept s i (Some b)
some_swept s i o found b e f h = subst (λ (x : Option Bool). IsSwept s i x) (e ∙ ap Some f) h

-- ---- the end

abbrev pub IsTypedCode : Subject → Type 0
IsTypedCode s = IsCodeTyped s.program.now s.method.0 (Some s.code.now)

pub unmarked_typed : (s : Subject) (i : Inference) → IsSwept s i (Some false) → IsTypedCode s
unmarked_typed s i h =
    let marks : marked_of i ≡ (λ q. false) = λ x q. h.1 q x in (
      known_of s i,
      inferred_typing s.program.now s.method.0 s.code.now (known_of s i)
          (subst (λ (f : ℕ → Bool). AreInferred s.program.now s.method.0 s.code.now (known_of s i) f) marks h.0.inferred),
    )

pub none_typed : (s : Subject) → HasNoTyping s → ¬ IsTypedCode s
none_typed s none h = none h.0 h.1

pub empty_untyped : (p : Program) → IsRanked p → (m : ℕ) (code : Code) → length code.bytes ≡ 0 → ¬ IsCodeTyped p m (Some code)
empty_untyped p r m code e h = outside_untyped p r m code 0 (start_state p m code) (start_forced p m code) (omega (arith, e)) h.0 h.1

-- ---- the beginning

repeated : {A : Type 0} (n q : ℕ) (d : A) → item_or (replicate n d) q d ≡ d
repeated zero q d = refl
repeated (suc n) zero d = refl
repeated (suc n) (suc q) d = repeated n q d

pub repeated_length : {A : Type 0} (n : ℕ) (d : A) → length (replicate n d) ≡ n
repeated_length zero d = refl
repeated_length (suc n) d = ap suc (repeated_length n d)

pub beginning : (s : Subject) (i : Inference) (start : State) (none : BTreeSet ℕ) → IsSubject s → IsStore i.store
    → i.states.items ≡ slice_set (replicate (length s.code.now.bytes) None) 0 (Some start) → IsEmpty none → Updates nat_cmp none i.marked 0 true → AllZip (IsCaught s.program.now s.method.0 i.store) s.code.now.catches i.caught.items
    → Stands i.store s.frame start → state_at i.store s.frame start ≡ start_state s.program.now s.method.0 s.code.now → IsInference s i
beginning s i start none subject store states empty marks caught stands is = record {
  store = store;
  states = ap length states ∙ length-set (replicate n None) 0 (Some start) ∙ repeated_length n None;
  marks = marks_within none i.marked 0 n true marks (λ e. subject.some) (none_within none n empty);
  stands = λ q state e. standing q state e (is_or_not q 0);
  caught = caught;
  inferred = record {
    start = record { state = begin; covered = known_first; fitting = state_itself p subject.ranked begin };
    operands = λ q x e. subst (λ (y : VerState). AreOperands s.code.now y) (known_is q x e (is_or_not q 0)).1 (record { known = refl; room = omega arith });
    forced = λ q x e. let k = known_is q x e (is_or_not q 0) in
        subst (λ (y : VerState). IsForcedIn s q y) k.1 (subst (λ m. IsForcedIn s m begin) (sym k.0) (start_forced p s.method.0 s.code.now));
    closed = λ q x e unmarked. let k = known_is q x e (is_or_not q 0) in
        let marked : true ≡ false = sym (marked_first) ∙ subst (λ m. marked_of i m ≡ false) k.0 unmarked in absurd cc;
  };
}
  where
    p : Program
    p = s.program.now

    n : ℕ
    n = length s.code.now.bytes

    begin : VerState
    begin = start_state p s.method.0 s.code.now

    first : state_of i 0 ≡ Some start
    first =
        let some = subject.some in
        ap (λ (xs : List (Option State)). item_or xs 0 None) states
        ∙ item_set_here (replicate n None) 0 (Some start) None (subst (λ m. 0 < m) (sym (repeated_length n None)) some)

    marked_first : marked_of i 0 ≡ true
    marked_first = mark_here none i.marked 0 true marks

    others : (q : ℕ) → ¬ (q ≡ 0) → state_of i q ≡ None
    others q other =
        ap (λ (xs : List (Option State)). item_or xs q None) states
        ∙ item_set_elsewhere (replicate n None) 0 q (Some start) None other
        ∙ repeated n q None

    known_first : known_of s i 0 ≡ Some begin
    known_first = state_known s i 0 start first ∙ ap Some is

    standing : (q : ℕ) (state : State) → state_of i q ≡ Some state → (q ≡ 0) ⊎ (¬ (q ≡ 0)) → Stands i.store s.frame state
    standing q state e (inl same) =
        subst (λ (x : State). Stands i.store s.frame x) (same_some (sym first ∙ subst (λ m. state_of i m ≡ Some state) same e)) stands
    standing q state e (inr other) = let nothing : None ≡ Some state = sym (others q other) ∙ e in absurd cc

    known_is : (q : ℕ) (x : VerState) → known_of s i q ≡ Some x → (q ≡ 0) ⊎ (¬ (q ≡ 0)) → (q ≡ 0) × (begin ≡ x)
    known_is q x e (inl same) = (same, same_some (sym known_first ∙ subst (λ m. known_of s i m ≡ Some x) same e))
    known_is q x e (inr other) = let nothing : None ≡ Some x = sym (ap (option_map (state_at i.store s.frame)) (others q other)) ∙ e in absurd cc

-- ---- what handlers begin with

zip_push : {A B : Type 0} (R : A → B → Type 0) (xs : List A) (ys : List B) (x : A) (y : B) → AllZip R xs ys → R x y → AllZip R (xs ++ x ∷ []) (ys ++ y ∷ [])
zip_push R [] [] x y h r = (r, tt)
zip_push R [] (b ∷ ys) x y h r = absurd h
zip_push R (a ∷ xs) [] x y h r = absurd h
zip_push R (a ∷ xs) (b ∷ ys) x y h r = (h.0, zip_push R xs ys x y h.1 r)

pub catching_start : (p : Program) (m : ℕ) (s : Store) (rows : List Catch) → IsStore s → AreCaught p m s s (take 0 rows) []
catching_start p m s rows is = record { later = later_itself s is; these = tt }

pub catching_step : (p : Program) (m : ℕ) (s t u : Store) (rows : List Catch) (n stack : ℕ) (row other : Catch) (caught_so : List ℕ) → n < length rows → row ≡ get_or rows n other
    → AreCaught p m s t (take n rows) caught_so → HasStack t u stack (caught p m row ∷ []) → AreCaught p m s u (take (n + 1) rows) (caught_so ++ stack ∷ [])
catching_step p m s t u rows n stack row other caught_so l e catching made = record {
  later = later_through s t u catching.later made.later;
  these = subst (λ (rs : List Catch). AllZip (IsCaught p m u) rs (caught_so ++ stack ∷ [])) (sym (take_more rows n other l))
      (zip_push (IsCaught p m u) (take n rows) caught_so (get_or rows n other) stack
      (caught_kept p m t u catching.later.store made.later (take n rows) caught_so catching.these)
      (subst (λ (r : Catch). IsCaught p m u r stack) e (made.within, made.is)));
}

pub catching_end : (p : Program) (m : ℕ) (s t : Store) (rows : List Catch) (n : ℕ) (caught_so : List ℕ) → AreCaught p m s t (take n rows) caught_so → length rows ≤ n → AreCaught p m s t rows caught_so
catching_end p m s t rows n caught_so catching l = subst (λ (rs : List Catch). AreCaught p m s t rs caught_so) (take_all n rows l) catching

-- ---- the state at the start

pub start_is : (s : Subject) (x : VerState) → IsSubject s → x ≡ record { locals = start_locals s.program.now s.method.0 s.frame.locals; operands = [] }
    → x ≡ start_state s.program.now s.method.0 s.code.now
start_is s x subject e = e ∙ (λ i. record { locals = start_locals s.program.now s.method.0 (subject.locals i); operands = [] })
