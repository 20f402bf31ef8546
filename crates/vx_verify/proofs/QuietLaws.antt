-- Positions whose handlers are reached stay so, and what is known of them.
use Rattle.std.proofs.Common.{Bool, List, [], ap, arith, false, refl, subst, sym, true, ℕ, ◌<◌, ◌∙◌, ◌∷◌, ◌≡◌, ◌≤◌}
use Rattle.std.proofs.lemmas.Bool.{eqb-true, leb-true, ltb-true}
use Rattle.std.proofs.lemmas.List.Elements.{All-cons, All-head, All-nil, All-tail, All-weaker}
use Rattle.std.specs.BTreeSet.{Updates}
use Rattle.std.specs.Bool.{MatchBool}
use Rattle.std.specs.Ordering.{nat_cmp}
use Rattle.std.specs.Prelude.{All, Some, nat_le, nat_lt, ◌&&◌, ◌==◌, ◌||◌}
use Rattle.vx_class.specs.declared.class_file.Catch.{Catch}
use Rattle.vx_java.specs.Selection.{covers}
use Rattle.vx_types.proofs.Tests.{both_first, both_second, not_both}
use Rattle.vx_types.specs.Types.{VerState}
use Rattle.vx_verify.proofs.Joints.{goes_itself}
use Rattle.vx_verify.proofs.SpanLaws.{uncovered}
use Rattle.vx_verify.proofs.Steps.{caught_kept_on, reached_later}
use Rattle.vx_verify.proofs.StoreLaws.{stands_kept}
use Rattle.vx_verify.proofs.Sweeps.{unmarked_goes}
use Rattle.vx_verify.specs.Inference.{AreHandled, Goes, HasNoTyping, IsInference, IsLooked, IsSubject, caught_state, known_of}
use Rattle.vx_verify.specs.Inferred.{IsClosedAt}
use Rattle.vx_verify.specs.Quieting.{IsCaughtUp, IsQuiet, IsQuietAt, QuietGoes, QuietHandled, QuietLooked}
use Rattle.vx_verify.specs.Spans.{AreAround, IsAround}
use Rattle.vx_verify.specs.States.{Stands, state_at}
use Rattle.vx_verify.specs.Typing.{IsReached, handler_state}
use Rattle.vx_verify.specs.declared.inference.Inference.{Inference}
use Rattle.vx_verify.specs.declared.inference.Subject.{Subject}
use Rattle.vx_verify.specs.declared.quiet.Quiet.{Quiet}
use Rattle.vx_verify.specs.declared.rows.State.{State}

-- what holds of each row by two facts of it
both_all : (P Q R : Catch → Type 0) → ((row : Catch) → P row → Q row → R row) → (rows : List Catch) → All P rows → All Q rows → All R rows
both_all P Q R f [] h k = All-nil R
both_all P Q R f (row ∷ rows) h k =
    All-cons R row rows (f row (All-head P row rows h) (All-head Q row rows k)) (both_all P Q R f rows (All-tail P row rows h) (All-tail Q row rows k))

abbrev Done : Subject → (i j : Inference) → (at : ℕ) → State → Catch → Type 0
Done s i j at state row = covers row at ≡ true → IsReached s.program.now (known_of s j) row.handler (caught_state s i row state)

pub quiet_none : (s : Subject) (i : Inference) (q : Quiet) → q.to ≡ 0 → IsQuiet s i q
quiet_none s i q none = λ at f t. absurd (omega (arith, none, t))

-- ---- in a later inference

caught_later : (s : Subject) (i j : Inference) (at locals : ℕ) → IsSubject s → IsInference s i → Goes s i j → IsCaughtUp s i at locals → IsCaughtUp s j at locals
caught_later s i j at locals subject is goes u = record {
  state = u.state;
  stands = stands_kept i.store j.store s.frame u.state goes.later u.stands;
  same = u.same;
  handlers = All-weaker (Done s i i at u.state) (Done s j j at u.state)
      (λ row h c. subst (λ (x : VerState). IsReached s.program.now (known_of s j) row.handler x) (sym (caught_kept_on s i j row u.state is goes u.stands))
      (reached_later s i j row.handler (caught_state s i row u.state) subject goes (h c)))
      s.code.now.catches u.handlers;
}

quiet_at_later : (s : Subject) (i j : Inference) (at locals : ℕ) (free : Bool) → IsSubject s → IsInference s i → Goes s i j → IsQuietAt s i at locals free → IsQuietAt s j at locals free
quiet_at_later s i j at locals true subject is goes h = h
quiet_at_later s i j at locals false subject is goes h = caught_later s i j at locals subject is goes h

pub quiet_later : (s : Subject) (i j : Inference) (q : Quiet) → IsSubject s → IsInference s i → Goes s i j → IsQuiet s i q → IsQuiet s j q
quiet_later s i j q subject is goes quiet = λ at f t. quiet_at_later s i j at q.locals q.is_free subject is goes (quiet at f t)

-- ---- a position among them

abbrev is_among : Quiet → (at locals : ℕ) → Bool
is_among q at locals = nat_le q.from at && nat_lt at q.to && (q.is_free || locals == q.locals)

-- the operands are those of the row, so local variables alone count
caught_same : (s : Subject) (i : Inference) (row : Catch) (one other : State) → one.locals ≡ other.locals → caught_state s i row one ≡ caught_state s i row other
caught_same s i row one other same = ap (λ ls. handler_state s.program.now s.method.0 row (state_at i.store s.frame (record one { locals = ls }))) same

handled_at : (s : Subject) (i : Inference) (at locals : ℕ) (free : Bool) (before : State) → IsQuietAt s i at locals free → (free || before.locals == locals) ≡ true → All (Done s i i at before) s.code.now.catches
handled_at s i at locals true before h e = All-weaker (λ row. covers row at ≡ false) (Done s i i at before) (λ row n c. not_both (covers row at) c n) s.code.now.catches h
handled_at s i at locals false before h e =
    let same : before.locals ≡ locals = eqb-true before.locals locals e in
    All-weaker (Done s i i at h.state) (Done s i i at before)
    (λ row k c. subst (λ (x : VerState). IsReached s.program.now (known_of s i) row.handler x) (caught_same s i row h.state before (h.same ∙ sym same)) (k c))
    s.code.now.catches h.handlers

pub quiet_handled : (s : Subject) (i : Inference) (at : ℕ) (before : State) (q : Quiet) (among : Bool) → IsSubject s → IsInference s i → IsQuiet s i q → among ≡ is_among q at before.locals → among ≡ true
    → QuietHandled s i i at before q
quiet_handled s i at before q among subject is quiet e so =
    let all : is_among q at before.locals ≡ true = sym e ∙ so in
    let span = both_first (nat_le q.from at && nat_lt at q.to) (q.is_free || before.locals == q.locals) all in
    let from = leb-true q.from at (both_first (nat_le q.from at) (nat_lt at q.to) span) in
    let to = ltb-true at q.to (both_second (nat_le q.from at) (nat_lt at q.to) span) in
    let locals = both_second (nat_le q.from at && nat_lt at q.to) (q.is_free || before.locals == q.locals) all in
    (record { goes = goes_itself s i subject is; handlers = handled_at s i at q.locals q.is_free before (quiet at from to) locals }, quiet)

-- ---- the positions around one

made_at : (s : Subject) (i j : Inference) (at p : ℕ) (before : State) (q : Quiet) (free : Bool) → q.is_free ≡ free → q.from ≤ p → p < q.to → IsInference s i → Stands i.store s.frame before
    → AreHandled s i j at before → AreAround s.code.now.catches at q → IsQuietAt s j p before.locals free
made_at s i j at p before q true free f t is stands handled around =
    All-weaker (IsAround at q) (λ row. covers row p ≡ false) (λ row a. uncovered row p (λ c. not_both (covers row at) (a.here p f t c) (a.free free))) s.code.now.catches around
made_at s i j at p before q false free f t is stands handled around = record {
  state = before;
  stands = stands_kept i.store j.store s.frame before handled.goes.later stands;
  same = refl;
  handlers = both_all (IsAround at q) (Done s i j at before) (Done s j j p before)
      (λ row a h c. subst (λ (x : VerState). IsReached s.program.now (known_of s j) row.handler x) (sym (caught_kept_on s i j row before is handled.goes stands)) (h (a.here p f t c)))
      s.code.now.catches around handled.handlers;
}

pub quiet_made : (s : Subject) (i j : Inference) (at : ℕ) (before : State) (q : Quiet) → IsInference s i → Stands i.store s.frame before → AreHandled s i j at before → AreAround s.code.now.catches at q
    → q.locals ≡ before.locals → QuietHandled s i j at before q
quiet_made s i j at before q is stands handled around same =
    (handled, λ p f t. subst (λ l. IsQuietAt s j p l q.is_free) (sym same) (made_at s i j at p before q q.is_free refl f t is stands handled around))

-- ---- a visit

pub quiet_looked : (s : Subject) (i j k : Inference) (at : ℕ) (before : State) (q : Quiet) (handled : Bool) → (MatchBool handled (AreHandled s j k at before) (HasNoTyping s) → MatchBool handled (IsLooked s i k at before) (HasNoTyping s))
    → MatchBool handled (QuietHandled s j k at before q) (HasNoTyping s) → MatchBool handled (QuietLooked s i k at before q) (HasNoTyping s)
quiet_looked s i j k at before q true looks h = (looks h.0, h.1)
quiet_looked s i j k at before q false looks h = h

-- nothing is known at a position, and it loses its mark
pub unmarked_quiet : (s : Subject) (i j : Inference) (at : ℕ) (q : Quiet) → IsSubject s → IsInference s i → j.store ≡ i.store → j.states.items ≡ i.states.items → j.caught.items ≡ i.caught.items
    → Updates nat_cmp i.marked j.marked at false → ((x : VerState) → known_of s i at ≡ Some x → IsClosedAt s.program.now s.method.0 s.code.now (known_of s i) at x) → IsQuiet s i q
    → QuietGoes s i j q
unmarked_quiet s i j at q subject is store states caught marks done quiet =
    let goes = unmarked_goes s i j at subject is store states caught marks done in (goes, quiet_later s i j q subject is goes quiet)
