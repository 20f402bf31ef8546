-- Runs that go on: those that have attempts left, and those that have used them up.
use Rattle.std.proofs.Common.{◌≡◌, ℕ, ◌<◌, ◌≤◌, Bool, true, false, List, [], ◌∷◌, refl, sym, ◌∙◌, ap, subst, arith, inl, inr, length}
use Rattle.std.specs.Prelude.{◌≢◌, ◌==◌, ◌⊎◌, ◌&&◌, not, Option, Some, None, if◌then◌else◌, nat_lt, unwrap_or}
use Rattle.std.specs.Option.{option_or}
use Rattle.std.proofs.lemmas.Bool.Decides.{nat_tests}
use Rattle.std.specs.Ordering.{nat_cmp}
use Rattle.vx_space.specs.Sets.{Sets, Extends}
use Rattle.vx_cond.specs.Cond.{Conditional, IsCond, cond_at}
use Rattle.vx_cond.specs.Leaves.{AreLeaves, AreLeavesOf, IsApart, value_at, value_under}
use Rattle.vx_cond.proofs.LeafLaws.{value_at-extends}
use Rattle.vx_group.specs.declared.callers.Caller.{Caller}
use Rattle.vx_group.specs.Callers.{Keeps}
use Rattle.vx_group.specs.Group.{GroupView, IsPartOf, attempts_at, path_of}
use Rattle.vx_group.proofs.GroupLaws.{IsGroupIn-group, IsGroup-attempts, IsGroup-path_known, attempts_at-extends}
use Rattle.vx_heap.specs.Heap.{HeapView, IsHeap}
use Rattle.vx_heap.proofs.HeapLaws.{IsHeap-extends}
use Rattle.vx_findings.specs.Orders.{piece_cmp}
use Rattle.vx_findings.specs.Shared.{leaves_of}
use Rattle.vx_findings.specs.declared.piece.Piece.{Piece}
use Rattle.vx_findings.specs.declared.shared.Shared.{Shared}
use Rattle.vx_java.specs.Machine.{Ends, Goes, Next, State}
use Rattle.vx_java.specs.Machine.{Write}
use Rattle.vx_java.specs.Step.{utf8_of}
use Rattle.vx_link.specs.declared.program.Program.{Program}
use Rattle.vx_group_states.specs.Stands.{StandsIn, state_at}
use Rattle.vx_group_states.proofs.Gathering.{IsPartOf-group, part_path}
use Rattle.vx_group_states.proofs.StateLaws.{Continues-part, StandsIn-extends, StandsIn-part, both_first, both_second, state_at-extends, state_at-part}
use Rattle.vx_value.specs.Ends.{compare_ends}
use Rattle.vx_value.specs.declared.end.End.{End}
use Rattle.vx_value.specs.declared.end.End.TheVariants.{Unfinished}
use Rattle.vx_value.specs.declared.end.Stream.{Stream}
use Rattle.vx_placing.specs.declared.round.Round.{Round}
use Rattle.vx_placing.specs.Placing.{AreWritten, IsEnded, IsPut, IsUnderway, IsUsedUp, IsVacant, leads_in, made_at, put_if}
use Rattle.vx_standing.specs.Waiting.{Waiting, end_after, piece_after, piece_if, spent_after, waiting_at, waits_after}
use Rattle.vx_standing.specs.State.{group_of}
use Rattle.vx_placing.proofs.Putting.{IsPut-before, IsPut-ended, IsPut-same, IsPut-then, IsUnderway-extends, IsVacant-put, some_inside}
use Rattle.vx_standing.proofs.Waiting.{no_group, none_waits, waiting_at-extends}

-- ---- vacancy over a later space, and of a set inside

pub IsVacant-inside : {S I : Type 0} (p : Program) {old new : Sets I} → Extends old new → (heap : HeapView S I) → IsHeap old heap → (limit : ℕ) (round : Round S I) (a b : List Bool → Bool) → IsUnderway p old heap limit round → ((c : List Bool) → b c ≡ true → a c ≡ true) → IsVacant old round a → IsVacant new round b
IsVacant-inside p {old = old} {new = new} e heap v limit round a b u h n = record {
  groups = λ c t. none_waits new heap round.callers round.groups c (waiting_at-extends e heap v round.callers round.groups u.waiting.are_groups c ∙ no_group old heap round.callers round.groups c (n.groups c (h c t)));
  ends = λ c t. value_at-extends compare_ends e (leaves_of round.ends.items) u.ends c ∙ n.ends c (h c t);
  spent = λ c t. value_at-extends nat_cmp e (leaves_of round.spent.items) u.spent c ∙ n.spent c (h c t);
}

-- ---- a part of a group

pub part_inside : {S I : Type 0} (s0 s1 : Sets I) (set : List Bool → Bool) (group part : GroupView S I) → IsPartOf s0 s1 set group part → ((c : List Bool) → set c ≡ true → s0.test (path_of group) c ≡ true) → (c : List Bool) → s1.test (path_of part) c ≡ true → s0.test (path_of group) c ≡ true
part_inside s0 s1 set group part q h c t = h c (sym (part_path s0 s1 set group part q c) ∙ t)

abbrev pub used_in : {S I : Type 0} → Sets I → GroupView S I → I → List Bool → Bool
used_in sets group used c = sets.test (path_of group) c && sets.test used c

abbrev pub left_in : {S I : Type 0} → Sets I → GroupView S I → I → List Bool → Bool
left_in sets group used c = sets.test (path_of group) c && not (sets.test used c)

pub part_attempts : {S I : Type 0} (p : Program) {s0 s1 : Sets I} {tree : List (Option (Caller S I))} → Extends s0 s1 → (heap : HeapView S I) → IsHeap s0 heap → (set : List Bool → Bool) (group part : GroupView S I) → ((c : List Bool) → set c ≡ true → s0.test (path_of group) c ≡ true) → StandsIn p s0 heap tree group → IsPartOf s0 s1 set group part → (c : List Bool) → s1.test (path_of part) c ≡ true → attempts_at s1 part c ≡ attempts_at s0 group c
part_attempts p {tree = tree} e heap v set group part h s q c t = (Continues-part p tree e heap v set group part h s q).attempts c t

at_most : (a n : ℕ) → a ≤ n → a ≢ n → a < n
at_most a n h k = cases (nat_lt a n) refl
  where
    cases : (b : Bool) → nat_lt a n ≡ b → a < n
    cases true e = grind (arith, nat_tests)
    cases false e = absurd (k (same e))
      where
        same : nat_lt a n ≡ false → a ≡ n
        same f = grind (arith, nat_tests)

-- those that have attempts left
pub left_attempts : {S I : Type 0} (p : Program) {s0 s1 s2 : Sets I} {tree : List (Option (Caller S I))} → Extends s0 s1 → Extends s1 s2 → (heap : HeapView S I) → IsHeap s0 heap → (limit : ℕ) (group going : GroupView S I) (used : I) → StandsIn p s0 heap tree group → IsUsedUp s0 group.attempts limit (Some used) → ((c : List Bool) → s0.test (path_of group) c ≡ true → attempts_at s0 group c ≤ limit) → IsPartOf s0 s1 (left_in s0 group used) group going → (c : List Bool) → s2.test (path_of going) c ≡ true → attempts_at s2 going c < limit
left_attempts p {s0 = s0} {s1 = s1} {s2 = s2} {tree = tree} e1 e2 heap v limit group going used s u b q c t =
    let is_group = IsPartOf-group s0 s1 (left_in s0 group used) group going q in
    let there = sym (e2.test (path_of going) c (IsGroup-path_known s1 going is_group)) ∙ t in
    let inside = sym (part_path s0 s1 (left_in s0 group used) group going q c) ∙ there in
    let path = both_first (s0.test (path_of group) c) (not (s0.test used c)) inside in
    let same = attempts_at-extends e2 going is_group c ∙ part_attempts p e1 heap v (left_in s0 group used) group going (λ d k. both_first (s0.test (path_of group) d) (not (s0.test used d)) k) s q c there in
    subst (λ n. n < limit) (sym same) (at_most (attempts_at s0 group c) limit (b c path) (other (cond_at s0 group.attempts c) (IsGroup-some c path) ((u.1 c).1 (off (s0.test used c) (both_second (s0.test (path_of group) c) (not (s0.test used c)) inside)))))
  where
    off : (x : Bool) → not x ≡ true → x ≡ false
    off true h = cc h
    off false h = refl

    IsGroup-some : (c : List Bool) → s0.test (path_of group) c ≡ true → cond_at s0 group.attempts c ≡ Some (attempts_at s0 group c)
    IsGroup-some c t = some_inside s0 group.attempts c (IsGroup-attempts s0 group (IsGroupIn-group s0 tree group s.is_group)) t

    other : (o : Option ℕ) → o ≡ Some (attempts_at s0 group c) → o ≢ Some limit → attempts_at s0 group c ≢ limit
    other o k f h = f (k ∙ ap Some h)

-- ---- the parts of a group that goes on

-- where the attempts are used up, going on is the end `Unfinished`
pub used_same : {S I : Type 0} (p : Program) (old new : Sets I) (heap : HeapView S I) (limit : ℕ) (made : List Bool → ℕ) (a b : List Bool → Option Next) (before after : Round S I) → ((c : List Bool) → (a c ≡ b c) ⊎ ((s : State) × (made c ≡ limit) × (a c ≡ Some (Ends Unfinished)) × (b c ≡ Some (Goes s)))) → IsPut p old new heap limit made a before after → IsPut p old new heap limit made b before after
used_same {S = S} {I = I} p old new heap limit made a b before after h q = record {
  underway = q.underway;
  keeps = q.keeps;
  waits = λ c. q.waits c ∙ waits c (h c) (waiting_at old heap before.callers before.groups c);
  ends = λ c. q.ends c ∙ ends c (h c) (value_at old (leaves_of before.ends.items) c);
  spent = λ c. q.spent c ∙ spent c (h c) (value_at old (leaves_of before.spent.items) c);
}
  where
    not_below : (n m : ℕ) → n ≡ m → nat_lt n m ≡ false
    not_below n m k = grind (arith, nat_tests)

    waits : (c : List Bool) → (a c ≡ b c) ⊎ ((s : State) × (made c ≡ limit) × (a c ≡ Some (Ends Unfinished)) × (b c ≡ Some (Goes s))) → (o : Option Waiting) → put_if (waits_after limit (made c)) (a c) o ≡ put_if (waits_after limit (made c)) (b c) o
    waits c (inl k) o = ap (λ l. put_if (waits_after limit (made c)) l o) k
    waits c (inr k) o = rw (k.2, k.3, not_below (made c) limit k.1) refl

    ends : (c : List Bool) → (a c ≡ b c) ⊎ ((s : State) × (made c ≡ limit) × (a c ≡ Some (Ends Unfinished)) × (b c ≡ Some (Goes s))) → (o : Option End) → put_if (end_after limit (made c)) (a c) o ≡ put_if (end_after limit (made c)) (b c) o
    ends c (inl k) o = ap (λ l. put_if (end_after limit (made c)) l o) k
    ends c (inr k) o = rw (k.2, k.3, not_below (made c) limit k.1) refl

    spent : (c : List Bool) → (a c ≡ b c) ⊎ ((s : State) × (made c ≡ limit) × (a c ≡ Some (Ends Unfinished)) × (b c ≡ Some (Goes s))) → (o : Option ℕ) → put_if (spent_after limit (made c)) (a c) o ≡ put_if (spent_after limit (made c)) (b c) o
    spent c (inl k) o = ap (λ l. put_if (spent_after limit (made c)) l o) k
    spent c (inr k) o = rw (k.2, k.3, not_below (made c) limit k.1) refl

-- ---- what the parts need

pub ended_vacant : {S I : Type 0} (p : Program) {s0 s1 : Sets I} → Extends s0 s1 → (heap : HeapView S I) → IsHeap s0 heap → (limit : ℕ) (group done : GroupView S I) (used : I) (before : Round S I) → IsUnderway p s0 heap limit before → IsVacant s0 before (s0.test (path_of group)) → IsPartOf s0 s1 (used_in s0 group used) group done → IsVacant s1 before (s1.test (path_of done))
ended_vacant p {s0 = s0} {s1 = s1} e heap v limit group done used before u n q =
    IsVacant-inside p e heap v limit before (s0.test (path_of group)) (s1.test (path_of done)) u (part_inside s0 s1 (used_in s0 group used) group done q (λ c t. both_first (s0.test (path_of group) c) (s0.test used c) t)) n

-- what was put for those that have no attempts left
pub used_put : {S I : Type 0} (p : Program) {s0 s1 s2 : Sets I} → Extends s0 s1 → Extends s1 s2 → (heap : HeapView S I) → IsHeap s0 heap → (limit : ℕ) (group done : GroupView S I) (used : I) (before middle : Round S I) → IsUnderway p s0 heap limit before → IsVacant s0 before (s0.test (path_of group)) → IsPartOf s0 s1 (used_in s0 group used) group done → IsEnded s1 s2 done.attempts (path_of done) Unfinished before middle → IsPut p s1 s2 heap limit (made_at s1 done.attempts) (leads_in s1 (path_of done) (λ _. Ends Unfinished)) before middle
used_put p {s0 = s0} {s1 = s1} e1 e2 heap v limit group done used before middle u n q k =
    let is_group = IsPartOf-group s0 s1 (used_in s0 group used) group done q in
    IsPut-ended p e2 heap (IsHeap-extends e1 heap v) limit done.attempts (path_of done) Unfinished before middle (IsUnderway-extends p e1 heap v limit before u) (ended_vacant p e1 heap v limit group done used before u n q) (IsGroup-attempts s1 done is_group) (record { inside = λ c t. t }) k

-- no configuration is in both parts
parts_apart : (a b : Bool) → (a && not b) ≡ true → (a && b) ≡ false
parts_apart true true h = cc h
parts_apart true false h = refl
parts_apart false b h = refl

pub left_vacant : {S I : Type 0} (p : Program) {s0 s1 s2 : Sets I} → Extends s0 s1 → Extends s1 s2 → (heap : HeapView S I) → IsHeap s0 heap → (limit : ℕ) (group done going : GroupView S I) (used : I) (before middle : Round S I) → IsUnderway p s0 heap limit before → IsVacant s0 before (s0.test (path_of group)) → IsPartOf s0 s1 (used_in s0 group used) group done → IsPartOf s0 s1 (left_in s0 group used) group going → IsEnded s1 s2 done.attempts (path_of done) Unfinished before middle → IsVacant s2 middle (s2.test (path_of going))
left_vacant {S = S} {I = I} p {s0 = s0} {s1 = s1} {s2 = s2} e1 e2 heap v limit group done going used before middle u n qd qg k =
    let put = used_put p e1 e2 heap v limit group done used before middle u n qd k in
    let known = IsGroup-path_known s1 going (IsPartOf-group s0 s1 (left_in s0 group used) group going qg) in
    let inside = λ (c : List Bool) (t : s2.test (path_of going) c ≡ true). sym (part_path s0 s1 (left_in s0 group used) group going qg c) ∙ (sym (e2.test (path_of going) c known) ∙ t) in
    let set = s2.test (path_of going) in
    IsVacant-put p s1 s2 heap limit (made_at s1 done.attempts) (leads_in s1 (path_of done) (λ _. Ends Unfinished)) before middle set put
    (IsVacant-inside p e1 heap v limit before (s0.test (path_of group)) set u (λ c t. both_first (s0.test (path_of group) c) (not (s0.test used c)) (inside c t)) n)
    (λ c t. none (s1.test (path_of done) c) (part_path s0 s1 (used_in s0 group used) group done qd c ∙ parts_apart (s0.test (path_of group) c) (s0.test used c) (inside c t)))
  where
    none : (b : Bool) → b ≡ false → ◌≡◌ {A = Option Next} (if b then Some (Ends Unfinished) else None) None
    none true h = cc h
    none false h = refl

pub left_stands : {S I : Type 0} (p : Program) {s0 s1 s2 : Sets I} {tree : List (Option (Caller S I))} → Extends s0 s1 → Extends s1 s2 → (heap : HeapView S I) → IsHeap s0 heap → (group going : GroupView S I) (used : I) → StandsIn p s0 heap tree group → IsPartOf s0 s1 (left_in s0 group used) group going → StandsIn p s2 heap tree going
left_stands p {s0 = s0} {tree = tree} e1 e2 heap v group going used s q =
    StandsIn-extends p tree e2 heap (IsHeap-extends e1 heap v) going (StandsIn-part p tree e1 heap v (left_in s0 group used) group going (λ c t. both_first (s0.test (path_of group) c) (not (s0.test used c)) t) s q)

-- both parts
pub IsPut-parted : {S I : Type 0} (p : Program) {s0 s1 s2 : Sets I} (s3 : Sets I) → Extends s0 s1 → Extends s1 s2 → (heap : HeapView S I) → IsHeap s0 heap → (limit : ℕ) (group done going : GroupView S I) (used : I) (before middle after : Round S I) → StandsIn p s0 heap before.callers group → IsUsedUp s0 group.attempts limit (Some used) → IsUnderway p s0 heap limit before → IsVacant s0 before (s0.test (path_of group)) → IsPartOf s0 s1 (used_in s0 group used) group done → IsPartOf s0 s1 (left_in s0 group used) group going → IsEnded s1 s2 done.attempts (path_of done) Unfinished before middle → IsPut p s2 s3 heap limit (attempts_at s2 going) (leads_in s2 (path_of going) (λ c. Goes (state_at s2 heap middle.callers going c))) middle after → IsPut p s0 s3 heap limit (attempts_at s0 group) (leads_in s0 (path_of group) (λ c. Goes (state_at s0 heap before.callers group c))) before after
IsPut-parted {S = S} {I = I} p {s0 = s0} {s1 = s1} {s2 = s2} s3 e1 e2 heap v limit group done going used before middle after s uu u n qd qg k q =
    let going_is = IsPartOf-group s0 s1 (left_in s0 group used) group going qg in
    let known = IsGroup-path_known s1 going going_is in
    let ends = leads_in s1 (path_of done) (λ _. Ends Unfinished) in
    let goes = leads_in s2 (path_of going) (λ c. Goes (state_at s2 heap middle.callers going c)) in
    let first = IsPut-same p s0 s2 heap limit (made_at s1 done.attempts) (attempts_at s0 group) ends ends before middle (λ c. refl)
    (λ c l h. part_attempts p e1 heap v (used_in s0 group used) group done (λ d t. both_first (s0.test (path_of group) d) (s0.test used d) t) s qd c (holds (s1.test (path_of done) c) l (Ends Unfinished) h))
    (IsPut-before p s2 e1 heap v limit (made_at s1 done.attempts) ends before middle u (used_put p e1 e2 heap v limit group done used before middle u n qd k)) in
    let second = IsPut-same p s2 s3 heap limit (attempts_at s2 going) (attempts_at s0 group) goes goes middle after (λ c. refl)
    (λ c l h. attempts_at-extends e2 going going_is c ∙ part_attempts p e1 heap v (left_in s0 group used) group going (λ d t. both_first (s0.test (path_of group) d) (not (s0.test used d)) t) s qg c (sym (e2.test (path_of going) c known) ∙ holds (s2.test (path_of going) c) l (Goes (state_at s2 heap middle.callers going c)) h)) q in
    used_same p s0 s3 heap limit (attempts_at s0 group) (λ c. option_or (goes c) (ends c)) (leads_in s0 (path_of group) (λ c. Goes (state_at s0 heap before.callers group c))) before after
    (λ c. cases c (s0.test (path_of group) c) (s0.test used c) (s1.test (path_of done) c) (s2.test (path_of going) c)
    (λ h. ap (λ o. unwrap_or o 0) ((uu.1 c).0 h))
    (λ h. ap (λ tree. state_at s2 heap tree going c) k.callers ∙ state_at-extends before.callers e2 heap (IsHeap-extends e1 heap v) going (StandsIn-part p before.callers e1 heap v (left_in s0 group used) group going (λ d t. both_first (s0.test (path_of group) d) (not (s0.test used d)) t) s qg).is_group c ∙ state_at-part p before.callers e1 heap v (left_in s0 group used) group going s qg c h)
    (part_path s0 s1 (used_in s0 group used) group done qd c)
    (e2.test (path_of going) c known ∙ part_path s0 s1 (left_in s0 group used) group going qg c))
    (IsPut-then p s0 s2 s3 heap limit (attempts_at s0 group) ends goes before middle after first second)
  where
    holds : (b : Bool) (l m : Next) → (if b then Some m else None) ≡ Some l → b ≡ true
    holds true l m h = refl
    holds false l m h = cc h

    cases : (c : List Bool) (a b d g : Bool) → (b ≡ true → attempts_at s0 group c ≡ limit) → ((a && not b) ≡ true → state_at s2 heap middle.callers going c ≡ state_at s0 heap before.callers group c) → d ≡ (a && b) → g ≡ (a && not b) → (option_or (if g then Some (Goes (state_at s2 heap middle.callers going c)) else None) (if d then Some (Ends Unfinished) else None) ≡ (if a then Some (Goes (state_at s0 heap before.callers group c)) else None)) ⊎ ((t : State) × (attempts_at s0 group c ≡ limit) × (option_or (if g then Some (Goes (state_at s2 heap middle.callers going c)) else None) (if d then Some (Ends Unfinished) else None) ≡ Some (Ends Unfinished)) × ((if a then Some (Goes (state_at s0 heap before.callers group c)) else None) ≡ Some (Goes t)))
    cases c true true true false m st ed eg = inr (state_at s0 heap before.callers group c, m refl, refl, refl)
    cases c true true true true m st ed eg = cc eg
    cases c true true false g m st ed eg = cc ed
    cases c true false false true m st ed eg = inl (ap (λ t. Some (Goes t)) (st refl))
    cases c true false false false m st ed eg = cc eg
    cases c true false true g m st ed eg = cc ed
    cases c false b false false m st ed eg = inl refl
    cases c false b true g m st ed eg = cc ed
    cases c false b false true m st ed eg = cc eg

-- ---- texts

piece_there : (stream : Stream) (text : List ℕ) → (text ≡ [] → ⊥) → Some (record { stream = stream; text = text }) ≡ piece_if stream text
piece_there stream [] h = absurd (h refl)
piece_there stream (b ∷ text) h = refl

pub AreLeavesOf-no_text : {S I : Type 0} (sets : Sets I) (texts : List (Shared Piece S I)) (condition : I) (stream : Stream) (text : List ℕ) → AreLeaves piece_cmp sets (leaves_of texts) → IsApart sets condition (leaves_of texts) → text ≡ [] → AreLeavesOf piece_cmp sets (λ c. if sets.test condition c then piece_if stream text else value_at sets (leaves_of texts) c) (leaves_of texts)
AreLeavesOf-no_text {S = S} {I = I} sets texts condition stream text h a e = record {
  are_leaves = h;
  values = λ c. cases c (sets.test condition c) (a.none c) ∙ sym (ap (λ t. if sets.test condition c then piece_if stream t else value_at sets (leaves_of texts) c) e);
}
  where
    cases : (c : List Bool) (b : Bool) → (b ≡ true → value_at sets (leaves_of texts) c ≡ None) → value_at sets (leaves_of texts) c ≡ (if b then None else value_at sets (leaves_of texts) c)
    cases c true n = n refl
    cases c false n = refl

pub AreLeavesOf-text : {S I : Type 0} (old new : Sets I) (before after : List (Shared Piece S I)) (condition : I) (stream : Stream) (text name : List ℕ) → (text ≡ [] → ⊥) → name ≡ text → AreLeavesOf piece_cmp new (value_under old condition (record { stream = stream; text = name }) (value_at old (leaves_of before))) (leaves_of after) → AreLeavesOf piece_cmp new (λ c. if old.test condition c then piece_if stream text else value_at old (leaves_of before) c) (leaves_of after)
AreLeavesOf-text old new before after condition stream text name n e h = record {
  are_leaves = h.are_leaves;
  values = λ c. h.values c ∙ ap (λ o. if old.test condition c then o else value_at old (leaves_of before) c) (ap (λ t. Some (record { stream = stream; text = t })) e ∙ piece_there stream text n);
}

-- a text was put, and its group goes on
pub IsUnderway-text : {S I : Type 0} (p : Program) {s0 s1 : Sets I} → Extends s0 s1 → (heap : HeapView S I) → IsHeap s0 heap → (limit : ℕ) (before middle : Round S I) → IsUnderway p s0 heap limit before → middle.callers ≡ before.callers → middle.groups ≡ before.groups → middle.ends ≡ before.ends → middle.spent ≡ before.spent → AreLeaves piece_cmp s1 (leaves_of middle.texts.items) → IsUnderway p s1 heap limit middle
IsUnderway-text p {s1 = s1} e heap v limit before middle u callers groups ends spent texts =
    let later = IsUnderway-extends p e heap v limit before u in
    record {
      waiting = rw (callers, groups) later.waiting;
      ends = rw ends later.ends;
      spent = rw spent later.spent;
      texts = texts;
    }

pub IsVacant-text : {S I : Type 0} (p : Program) {s0 s1 : Sets I} → Extends s0 s1 → (heap : HeapView S I) → IsHeap s0 heap → (limit : ℕ) (before middle : Round S I) (path : I) → s0.is_known path ≡ true → IsUnderway p s0 heap limit before → IsVacant s0 before (s0.test path) → middle.groups ≡ before.groups → middle.ends ≡ before.ends → middle.spent ≡ before.spent → IsVacant s1 middle (s1.test path)
IsVacant-text p {s0 = s0} {s1 = s1} e heap v limit before middle path known u n groups ends spent =
    let later = IsVacant-inside p e heap v limit before (s0.test path) (s1.test path) u (λ c t. sym (e.test path c known) ∙ t) n in
    record {
      groups = λ c t. ap (λ g. group_of s1 g c) groups ∙ later.groups c t;
      ends = λ c t. ap (λ x. value_at s1 (leaves_of x.items) c) ends ∙ later.ends c t;
      spent = λ c t. ap (λ x. value_at s1 (leaves_of x.items) c) spent ∙ later.spent c t;
    }

pub IsPut-text : {S I : Type 0} (p : Program) {s0 s1 : Sets I} (s2 : Sets I) → Extends s0 s1 → (heap : HeapView S I) → IsHeap s0 heap → (limit : ℕ) (group : GroupView S I) (before middle after : Round S I) → StandsIn p s0 heap before.callers group → IsUnderway p s0 heap limit before → middle.callers ≡ before.callers → middle.groups ≡ before.groups → middle.ends ≡ before.ends → middle.spent ≡ before.spent → IsPut p s1 s2 heap limit (attempts_at s1 group) (leads_in s1 (path_of group) (λ c. Goes (state_at s1 heap middle.callers group c))) middle after → IsPut p s0 s2 heap limit (attempts_at s0 group) (leads_in s0 (path_of group) (λ c. Goes (state_at s0 heap before.callers group c))) before after
IsPut-text {S = S} {I = I} p {s0 = s0} {s1 = s1} s2 e heap v limit group before middle after s u callers groups ends spent q =
    let is_group = IsGroupIn-group s0 before.callers group s.is_group in
    let goes = leads_in s1 (path_of group) (λ c. Goes (state_at s1 heap middle.callers group c)) in
    let told : IsPut p s1 s2 heap limit (attempts_at s1 group) goes before after = record {
      underway = q.underway;
      keeps = (let P : List (Option (Caller S I)) → Type 0 = λ tree. Keeps tree after.callers in subst P callers q.keeps);
      waits = λ c. q.waits c ∙ ap (λ t. put_if (waits_after limit (attempts_at s1 group c)) (goes c) (waiting_at s1 heap t middle.groups c)) callers ∙ ap (λ g. put_if (waits_after limit (attempts_at s1 group c)) (goes c) (waiting_at s1 heap before.callers g c)) groups;
      ends = λ c. q.ends c ∙ ap (λ x. put_if (end_after limit (attempts_at s1 group c)) (goes c) (value_at s1 (leaves_of x.items) c)) ends;
      spent = λ c. q.spent c ∙ ap (λ x. put_if (spent_after limit (attempts_at s1 group c)) (goes c) (value_at s1 (leaves_of x.items) c)) spent;
    } in
    IsPut-same p s0 s2 heap limit (attempts_at s1 group) (attempts_at s0 group) goes (leads_in s0 (path_of group) (λ c. Goes (state_at s0 heap before.callers group c))) before after
    (λ c. ap (λ b. if b then Some (Goes (state_at s1 heap middle.callers group c)) else None) (e.test (path_of group) c (IsGroup-path_known s0 group is_group)) ∙ ap (λ t. if s0.test (path_of group) c then Some (Goes t) else None) (ap (λ tree. state_at s1 heap tree group c) callers ∙ state_at-extends before.callers e heap v group s.is_group c))
    (λ c l h. attempts_at-extends e group is_group c)
    (IsPut-before p s2 e heap v limit (attempts_at s1 group) goes before after u told)

pub AreWritten-text : {S I : Type 0} {s0 s1 s2 : Sets I} → Extends s1 s2 → (path : I) (stream : Stream) (units bytes : List ℕ) (state : List Bool → State) (before middle after : Round S I) → bytes ≡ utf8_of units → AreLeavesOf piece_cmp s1 (λ c. if s0.test path c then piece_if stream bytes else value_at s0 (leaves_of before.texts.items) c) (leaves_of middle.texts.items) → after.texts ≡ middle.texts → AreWritten s0 s2 (leads_in s0 path (λ c. Write stream units (state c))) before after
AreWritten-text {S = S} {I = I} {s0 = s0} {s1 = s1} {s2 = s2} e path stream units bytes state before middle after k q same = record {
  texts = λ c. ap (λ x. value_at s2 (leaves_of x.items) c) same ∙ value_at-extends piece_cmp e (leaves_of middle.texts.items) q.are_leaves c ∙ q.values c
      ∙ ap (λ t. if s0.test path c then piece_if stream t else value_at s0 (leaves_of before.texts.items) c) k ∙ cases c (s0.test path c);
}
  where
    cases : (c : List Bool) (b : Bool) → (if b then piece_if stream (utf8_of units) else value_at s0 (leaves_of before.texts.items) c) ≡ put_if piece_after (if b then Some (Write stream units (state c)) else None) (value_at s0 (leaves_of before.texts.items) c)
    cases c true = refl
    cases c false = refl

-- ---- what was found of the attempts that are used up

pub none_used : {S I : Type 0} {tree : List (Option (Caller S I))} (p : Program) (sets : Sets I) (heap : HeapView S I) (limit : ℕ) (group : GroupView S I) (attempts : Conditional ℕ S I) → attempts ≡ group.attempts → StandsIn p sets heap tree group → (IsCond nat_cmp sets attempts → IsUsedUp sets attempts limit None) → ((c : List Bool) → sets.test (path_of group) c ≡ true → attempts_at sets group c ≤ limit) → (c : List Bool) → sets.test (path_of group) c ≡ true → attempts_at sets group c < limit
none_used {S = S} {I = I} {tree = tree} p sets heap limit group attempts e s u b c t =
    let v = IsGroup-attempts sets group (IsGroupIn-group sets tree group s.is_group) in
    at_most (attempts_at sets group c) limit (b c t) (other (some_inside sets group.attempts c v t) (subst (λ a. cond_at sets a c ≢ Some limit) e (u (rw e v) c)))
  where
    other : cond_at sets group.attempts c ≡ Some (attempts_at sets group c) → cond_at sets group.attempts c ≢ Some limit → attempts_at sets group c ≢ limit
    other k f h = f (k ∙ ap Some h)

pub used_found : {S I : Type 0} {tree : List (Option (Caller S I))} (p : Program) (sets : Sets I) (heap : HeapView S I) (limit : ℕ) (group : GroupView S I) (attempts : Conditional ℕ S I) (used : I) → attempts ≡ group.attempts → StandsIn p sets heap tree group → (IsCond nat_cmp sets attempts → IsUsedUp sets attempts limit (Some used)) → IsUsedUp sets group.attempts limit (Some used)
used_found {tree = tree} p sets heap limit group attempts used e s u =
    let v = IsGroup-attempts sets group (IsGroupIn-group sets tree group s.is_group) in
    subst (λ a. IsUsedUp sets a limit (Some used)) e (u (rw e v))

-- ---- empty texts

is_zero : (n : ℕ) → true ≡ (n == 0) → n ≡ 0
is_zero n h = let e : (n == 0) ≡ true = sym h in grind (arith, nat_tests)

not_zero : (n : ℕ) → false ≡ (n == 0) → n ≢ 0
not_zero n h q = let e : (n == 0) ≡ false = sym h in grind (arith, nat_tests)

no_items : (text : List ℕ) → length text ≡ 0 → text ≡ []
no_items [] h = refl
no_items (b ∷ text) h = absurd (omega (arith, h))

pub empty_text : (text : List ℕ) (n : ℕ) → n ≡ length text → true ≡ (n == 0) → text ≡ []
empty_text text n e h = no_items text (sym e ∙ is_zero n h)

pub some_text : (text : List ℕ) (n : ℕ) → n ≡ length text → false ≡ (n == 0) → text ≡ [] → ⊥
some_text text n e h q = not_zero n h (e ∙ ap length q)

pub bound_later : {S I : Type 0} {tree : List (Option (Caller S I))} (p : Program) {s0 s1 : Sets I} → Extends s0 s1 → (heap : HeapView S I) (limit : ℕ) (group : GroupView S I) → StandsIn p s0 heap tree group → ((c : List Bool) → s0.test (path_of group) c ≡ true → attempts_at s0 group c ≤ limit) → (c : List Bool) → s1.test (path_of group) c ≡ true → attempts_at s1 group c ≤ limit
bound_later {tree = tree} p {s0 = s0} {s1 = s1} e heap limit group s b c t =
    let is_group = IsGroupIn-group s0 tree group s.is_group in
    subst (λ n. n ≤ limit) (sym (attempts_at-extends e group is_group c)) (b c (sym (e.test (path_of group) c (IsGroup-path_known s0 group is_group)) ∙ t))
