-- A group that makes its attempt.
use Rattle.std.proofs.Common.{◌≡◌, ℕ, ◌≤◌, Bool, true, false, List, [], ◌∷◌, refl, sym, ◌∙◌, ap, subst}
use Rattle.std.specs.Prelude.{◌&&◌, not, Option, Some, None, if◌then◌else◌, option_map}
use Rattle.std.specs.Ordering.{nat_cmp}
use Rattle.vx_space.specs.Sets.{Sets, Extends}
use Rattle.vx_cond.specs.Cond.{Conditional}
use Rattle.vx_cond.specs.Leaves.{value_at}
use Rattle.vx_cond.proofs.LeafLaws.{value_at-extends}
use Rattle.vx_group.specs.declared.callers.Caller.{Caller}
use Rattle.vx_group.specs.Group.{GroupView, attempts_at, path_of}
use Rattle.vx_group.proofs.GroupLaws.{IsGroupIn-group, IsGroup-path_known}
use Rattle.vx_heap.specs.Heap.{HeapView, IsHeapFor}
use Rattle.vx_heap.proofs.HeapLaws.{IsHeap-extends}
use Rattle.vx_findings.specs.Orders.{piece_cmp}
use Rattle.vx_findings.specs.Shared.{leaves_of}
use Rattle.vx_java.specs.Machine.{Next}
use Rattle.vx_java.specs.Step.{next}
use Rattle.vx_link.specs.declared.program.Program.{Program}
use Rattle.vx_outcome.specs.Outcome.{Divide, condition_of}
use Rattle.vx_outcome.specs.declared.outcome.Outcome.{Outcome}
use Rattle.vx_outcome.specs.declared.outcome.Outcome.TheVariants as shared
use Rattle.vx_group_states.specs.Stands.{AreOutcomes, Attempts, Continues, IsOutcome, outcome_at, state_at}
use Rattle.vx_group_states.proofs.OutcomeStates.{condition_known}
use Rattle.vx_value.specs.Ends.{compare_ends}
use Rattle.vx_placing.specs.declared.round.Round.{Round}
use Rattle.vx_standing.specs.Attempted.{MayAttempt, attempted_row}
use Rattle.vx_placing.specs.Placing.{ArePlaceable, HasGoing, IsGoing, IsOutcomePlaced, IsUnderway, IsUnwritten, IsVacant, led_by, made_at, put_if, said_in}
use Rattle.vx_standing.specs.Waiting.{end_after, piece_after, spent_after, waiting_at, waits_after}
use Rattle.vx_turns.specs.Turns.{IsCount, IsMade, came_of}
use Rattle.vx_placing.proofs.Going.{IsVacant-inside}
use Rattle.vx_turns.proofs.Grown.{waiting_at-grown}
use Rattle.vx_placing.proofs.Sequence.{Divide-same, made_at-extends}
use Rattle.vx_standing.proofs.Waiting.{no_group, none_waits, waiting_at-extends}

-- ---- what outcomes say

pub said_outside : {S I : Type 0} (sets : Sets I) (heap : HeapView S I) (tree : List (Option (Caller S I))) (set : List Bool → Bool) (xs : List (Outcome S I)) → Divide sets set xs → (c : List Bool) → set c ≡ false → said_in sets heap tree xs c ≡ None
said_outside sets heap tree set [] d c h = refl
said_outside {S = S} {I = I} sets heap tree set (x ∷ xs) d c h = cases (sets.test (condition_of x) c) (d.0 c) (said_outside sets heap tree (λ c. set c && not (sets.test (condition_of x) c)) xs d.1 c (ap (λ b. b && not (sets.test (condition_of x) c)) h))
  where
    cases : (b : Bool) → (b ≡ true → set c ≡ true) → said_in sets heap tree xs c ≡ None → (if b then Some (outcome_at sets heap tree c x) else said_in sets heap tree xs c) ≡ None
    cases true k r = cc (h, k refl)
    cases false k r = r

-- ---- what the outcomes of an attempt need

going : {S I : Type 0} (p : Program) {old new : Sets I} → Extends old new → (heap : HeapView S I) (tree : List (Option (Caller S I))) (limit : ℕ) (group : GroupView S I) (attempts : Conditional ℕ S I) → IsCount old group limit attempts → (made : GroupView S I) → Continues p old new heap tree group made → IsGoing p new heap tree attempts made
going p e heap tree limit group attempts k made h = record {
  stands = h.stands;
  made = λ c t. h.attempts c t ∙ sym (k.at c (h.inside c t)) ∙ sym (made_at-extends e attempts k.is_cond c);
}

has_going : {S I : Type 0} (p : Program) {old new : Sets I} → Extends old new → (heap : HeapView S I) (tree : List (Option (Caller S I))) (limit : ℕ) (group : GroupView S I) (attempts : Conditional ℕ S I) → IsCount old group limit attempts → (x : Outcome S I) → IsOutcome p old new heap tree group x → HasGoing p new heap tree attempts x
has_going p e heap tree limit group attempts k (shared.Go made) h = going p e heap tree limit group attempts k made h
has_going p e heap tree limit group attempts k (shared.Raise made class message) h = tt
has_going p e heap tree limit group attempts k (shared.Throw made thrown) h = tt
has_going p e heap tree limit group attempts k (shared.Begin made class) h = tt
has_going p e heap tree limit group attempts k (shared.Native made method) h = tt
has_going p e heap tree limit group attempts k (shared.Write made stream text) h = (going p e heap tree limit group attempts k made h.0, h.1)
has_going p e heap tree limit group attempts k (shared.Ended condition end) h = tt

pub are_placeable : {S I : Type 0} (p : Program) {old new : Sets I} → Extends old new → (heap : HeapView S I) (tree : List (Option (Caller S I))) (limit : ℕ) (group : GroupView S I) (attempts : Conditional ℕ S I) → IsCount old group limit attempts → (set : List Bool → Bool) (xs : List (Outcome S I)) → ((c : List Bool) → set c ≡ true → new.test attempts.scope c ≡ true) → Divide new set xs → AreOutcomes p old new heap tree group xs → ArePlaceable p new heap tree attempts xs
are_placeable p e heap tree limit group attempts k set [] i d h = tt
are_placeable {S = S} {I = I} p {old = old} {new = new} e heap tree limit group attempts k set (x ∷ xs) i d h = (
  record {
    known = condition_known p old new heap tree group x h.0;
    inside = record { inside = λ c t. i c (d.0 c t) };
    going = has_going p e heap tree limit group attempts k x h.0;
  },
  are_placeable p e heap tree limit group attempts k (λ c. set c && not (new.test (condition_of x) c)) xs (λ c t. i c (first (set c) (not (new.test (condition_of x) c)) t)) d.1 h.1,
)
  where
    first : (a b : Bool) → (a && b) ≡ true → a ≡ true
    first true b h = refl
    first false b h = cc h

-- ---- the attempt

path_known_of : {S I : Type 0} (p : Program) (sets : Sets I) (heap : HeapView S I) (tree : List (Option (Caller S I))) (group : GroupView S I) → MayAttempt p sets heap tree group → sets.is_known (path_of group) ≡ true
path_known_of p sets heap tree group m = IsGroup-path_known sets group (IsGroupIn-group sets tree group m.stands.is_group)

pub same_scope : {S I : Type 0} (p : Program) {s0 s1 : Sets I} → Extends s0 s1 → (heap : HeapView S I) (tree : List (Option (Caller S I))) (limit : ℕ) (group : GroupView S I) (attempts : Conditional ℕ S I) → MayAttempt p s0 heap tree group → IsCount s0 group limit attempts → (c : List Bool) → s0.test (path_of group) c ≡ s1.test attempts.scope c
same_scope p {s0 = s0} {s1 = s1} e heap tree limit group attempts m k c = sym (e.test (path_of group) c (path_known_of p s0 heap tree group m)) ∙ ap (λ i. s1.test i c) (sym k.scope)

pub made_bound : {S I : Type 0} (p : Program) {s0 s1 : Sets I} → Extends s0 s1 → (heap : HeapView S I) (tree : List (Option (Caller S I))) (limit : ℕ) (group : GroupView S I) (attempts : Conditional ℕ S I) → MayAttempt p s0 heap tree group → IsCount s0 group limit attempts → (c : List Bool) → s1.test attempts.scope c ≡ true → made_at s1 attempts c ≤ limit
made_bound p {s0 = s0} e heap tree limit group attempts m k c t =
    let path = same_scope p e heap tree limit group attempts m k c ∙ t in
    subst (λ n. n ≤ limit) (sym (made_at-extends e attempts k.is_cond c ∙ k.at c path)) (k.bound c path)

pub made_divide : {S I : Type 0} (p : Program) {s0 s1 : Sets I} → Extends s0 s1 → (before after : HeapView S I) (tree later : List (Option (Caller S I))) (limit : ℕ) (group : GroupView S I) (attempts : Conditional ℕ S I) (outcomes : List (Outcome S I)) → MayAttempt p s0 before tree group → IsCount s0 group limit attempts → Attempts p (attempted_row p) s0 s1 before after tree later group outcomes → Divide s1 (s1.test attempts.scope) outcomes
made_divide p {s0 = s0} {s1 = s1} e before after tree later limit group attempts outcomes m k a = Divide-same s1 (s0.test (path_of group)) (s1.test attempts.scope) outcomes (same_scope p e before tree limit group attempts m k) a.came.divide

pub made_placeable : {S I : Type 0} (p : Program) {s0 s1 : Sets I} → Extends s0 s1 → (before after : HeapView S I) (tree later : List (Option (Caller S I))) (limit : ℕ) (group : GroupView S I) (attempts : Conditional ℕ S I) (outcomes : List (Outcome S I)) → MayAttempt p s0 before tree group → IsCount s0 group limit attempts → Attempts p (attempted_row p) s0 s1 before after tree later group outcomes → ArePlaceable p s1 after later attempts outcomes
made_placeable p {s0 = s0} e before after tree later limit group attempts outcomes m k a = are_placeable p e after later limit group attempts k (s0.test (path_of group)) outcomes (λ c t. sym (same_scope p e before tree limit group attempts m k c) ∙ t) a.came.divide a.came.continue

-- what waited stays, as the group isn't among it
pub waiting_made : {S I : Type 0} (p : Program) {s0 s1 : Sets I} → Extends s0 s1 → (before after : HeapView S I) (later : List (Option (Caller S I))) (limit : ℕ) (group : GroupView S I) (outcomes : List (Outcome S I)) (round : Round S I) → MayAttempt p s0 before round.callers group → Attempts p (attempted_row p) s0 s1 before after round.callers later group outcomes → IsUnderway p s0 before limit round → IsVacant s0 round (s0.test (path_of group)) → (c : List Bool) → waiting_at s1 after later round.groups c ≡ waiting_at s0 before round.callers round.groups c
waiting_made {S = S} {I = I} p {s0 = s0} {s1 = s1} e before after later limit group outcomes round m a u n c = cases (s0.test (path_of group) c) refl
  where
    cases : (b : Bool) → s0.test (path_of group) c ≡ b → waiting_at s1 after later round.groups c ≡ waiting_at s0 before round.callers round.groups c
    cases true t =
        let none = no_group s0 before round.callers round.groups c (n.groups c t) in
        let no_later = none_waits s1 before round.callers round.groups c (waiting_at-extends e before m.is_heap round.callers round.groups u.waiting.are_groups c ∙ none) in
        no_group s1 after later round.groups c no_later ∙ sym none
    cases false t = waiting_at-grown p e a.keeps before after m.is_heap a.grows limit round.groups u.waiting c (a.outside c t)

pub vacant_made : {S I : Type 0} (p : Program) {s0 s1 : Sets I} → Extends s0 s1 → (before : HeapView S I) (later : List (Option (Caller S I))) (limit : ℕ) (group : GroupView S I) (attempts : Conditional ℕ S I) (round : Round S I) → MayAttempt p s0 before round.callers group → IsCount s0 group limit attempts → IsUnderway p s0 before limit round → IsVacant s0 round (s0.test (path_of group)) → IsVacant s1 (record round { callers = later }) (s1.test attempts.scope)
vacant_made p {s0 = s0} {s1 = s1} e before later limit group attempts round m k u n =
    let there = IsVacant-inside p e before m.is_heap limit round (s0.test (path_of group)) (s1.test attempts.scope) u (λ c t. same_scope p e before round.callers limit group attempts m k c ∙ t) n in
    record { groups = there.groups; ends = there.ends; spent = there.spent }

pub unwritten_made : {S I : Type 0} (p : Program) {s0 s1 : Sets I} → Extends s0 s1 → (before : HeapView S I) (later : List (Option (Caller S I))) (limit : ℕ) (group : GroupView S I) (attempts : Conditional ℕ S I) (round : Round S I) → MayAttempt p s0 before round.callers group → IsCount s0 group limit attempts → IsUnderway p s0 before limit round → IsUnwritten s0 round (s0.test (path_of group)) → IsUnwritten s1 (record round { callers = later }) (s1.test attempts.scope)
unwritten_made p e before later limit group attempts round m k u n = record { texts = λ c t. value_at-extends piece_cmp e (leaves_of round.texts.items) u.texts c ∙ n.texts c (same_scope p e before round.callers limit group attempts m k c ∙ t) }

-- ---- what was made

said_made : {S I : Type 0} (p : Program) (s0 s1 : Sets I) (before after : HeapView S I) (tree later : List (Option (Caller S I))) (group : GroupView S I) (outcomes : List (Outcome S I)) → Attempts p (attempted_row p) s0 s1 before after tree later group outcomes → (c : List Bool) → said_in s1 after later outcomes c ≡ came_of p s0 before tree group c
said_made {S = S} {I = I} p s0 s1 before after tree later group outcomes a c = cases (s0.test (path_of group) c) (a.came.at c) (said_outside s1 after later (s0.test (path_of group)) outcomes a.came.divide c)
  where
    cases : (b : Bool) → (b ≡ true → said_in s1 after later outcomes c ≡ Some (attempted_row p (state_at s0 before tree group c))) → (b ≡ false → said_in s1 after later outcomes c ≡ None) → said_in s1 after later outcomes c ≡ (if b then Some (attempted_row p (state_at s0 before tree group c)) else None)
    cases true h k = h refl
    cases false h k = k refl

numbers : {B : Type 0} (f : ℕ → Next → Option B) (x y : ℕ) (o : Option Next) (was : Option B) → ((l : Next) → o ≡ Some l → x ≡ y) → put_if (f x) o was ≡ put_if (f y) o was
numbers f x y None was h = refl
numbers f x y (Some l) was h = ap (λ i. f i l) (h l refl)

pub IsMade-placed : {S I : Type 0} (p : Program) {s0 s1 s2 : Sets I} → Extends s0 s1 → Extends s1 s2 → (before after : HeapView S I) (later : List (Option (Caller S I))) (limit : ℕ) (group : GroupView S I) (attempts : Conditional ℕ S I) (outcomes : List (Outcome S I)) (was round : Round S I) → MayAttempt p s0 before was.callers group → IsCount s0 group limit attempts → IsHeapFor p after → Attempts p (attempted_row p) s0 s1 before after was.callers later group outcomes → IsUnderway p s0 before limit was → IsVacant s0 was (s0.test (path_of group)) → IsOutcomePlaced p s1 s2 after limit attempts (said_in s1 after later outcomes) (record was { callers = later }) round → IsMade p s0 s2 before after limit group was round
IsMade-placed {S = S} {I = I} p {s0 = s0} {s1 = s1} {s2 = s2} e1 e2 before after later limit group attempts outcomes was round m k for a u n q = record {
  is_heap = IsHeap-extends e2 after a.is_heap;
  is_for = for;
  allowed = a.grows.allowed;
  underway = q.put.underway;
  waits = λ c. q.put.waits c
      ∙ ap (λ o. put_if (waits_after limit (made_at s1 attempts c)) (led_by p (said_in s1 after later outcomes) c) o) (waiting_made p e1 before after later limit group outcomes was m a u n c)
      ∙ ap (λ o. put_if (waits_after limit (made_at s1 attempts c)) (option_map (next p) o) (waiting_at s0 before was.callers was.groups c)) (said_made p s0 s1 before after was.callers later group outcomes a c)
      ∙ numbers (waits_after limit) (made_at s1 attempts c) (attempts_at s0 group c) (led_by p (came_of p s0 before was.callers group) c) (waiting_at s0 before was.callers was.groups c) (λ l h. same c (s0.test (path_of group) c) (k.at c) l h);
  ends = λ c. q.put.ends c
      ∙ ap (λ o. put_if (end_after limit (made_at s1 attempts c)) (led_by p (said_in s1 after later outcomes) c) o) (value_at-extends compare_ends e1 (leaves_of was.ends.items) u.ends c)
      ∙ ap (λ o. put_if (end_after limit (made_at s1 attempts c)) (option_map (next p) o) (value_at s0 (leaves_of was.ends.items) c)) (said_made p s0 s1 before after was.callers later group outcomes a c)
      ∙ numbers (end_after limit) (made_at s1 attempts c) (attempts_at s0 group c) (led_by p (came_of p s0 before was.callers group) c) (value_at s0 (leaves_of was.ends.items) c) (λ l h. same c (s0.test (path_of group) c) (k.at c) l h);
  spent = λ c. q.put.spent c
      ∙ ap (λ o. put_if (spent_after limit (made_at s1 attempts c)) (led_by p (said_in s1 after later outcomes) c) o) (value_at-extends nat_cmp e1 (leaves_of was.spent.items) u.spent c)
      ∙ ap (λ o. put_if (spent_after limit (made_at s1 attempts c)) (option_map (next p) o) (value_at s0 (leaves_of was.spent.items) c)) (said_made p s0 s1 before after was.callers later group outcomes a c)
      ∙ numbers (spent_after limit) (made_at s1 attempts c) (attempts_at s0 group c) (led_by p (came_of p s0 before was.callers group) c) (value_at s0 (leaves_of was.spent.items) c) (λ l h. same c (s0.test (path_of group) c) (k.at c) l h);
  texts = λ c. q.written.texts c
      ∙ ap (λ o. put_if piece_after (said_in s1 after later outcomes c) o) (value_at-extends piece_cmp e1 (leaves_of was.texts.items) u.texts c)
      ∙ ap (λ o. put_if piece_after o (value_at s0 (leaves_of was.texts.items) c)) (said_made p s0 s1 before after was.callers later group outcomes a c);
}
  where
    same : (c : List Bool) (b : Bool) → (b ≡ true → made_at s0 attempts c ≡ attempts_at s0 group c) → (l : Next) → option_map (next p) (if b then Some (attempted_row p (state_at s0 before was.callers group c)) else None) ≡ Some l → made_at s1 attempts c ≡ attempts_at s0 group c
    same c true h l q = made_at-extends e1 attempts k.is_cond c ∙ h refl
    same c false h l q = cc q
