-- A group that waits among others.
use Rattle.std.proofs.Common.{◌≡◌, ℕ, ◌<◌, Bool, true, false, List, [], ◌∷◌, refl, sym, ◌∙◌, ap, subst, map, arith}
use Rattle.std.specs.Prelude.{◌==◌, Option, Some, None, if◌then◌else◌, nat_lt, option_map, reverse}
use Rattle.std.proofs.lemmas.List.{reverse-reverse}
use Rattle.std.specs.List.{list_all}
use Rattle.std.proofs.lemmas.Bool.Decides.{nat_tests}
use Rattle.std.specs.Ordering.{nat_cmp}
use Rattle.std.specs.declared.cmp.Ordering.{Ordering}
use Rattle.vx_space.specs.Sets.{Sets, Extends}
use Rattle.vx_cond.specs.Leaves.{AreLeaves, value_at}
use Rattle.vx_cond.proofs.LeafLaws.{AreLeaves-extends, value_at-extends}
use Rattle.vx_frame.specs.Frame.{Shape}
use Rattle.vx_group.specs.declared.callers.Caller.{Caller}
use Rattle.vx_group.specs.Callers.{Keeps}
use Rattle.vx_group.specs.Group.{GroupView, IsGroupIn, PlainGroup, attempts_at, group_at, path_of, shapes_of}
use Rattle.vx_group.proofs.GroupLaws.{tail_of}
use Rattle.vx_heap.specs.Heap.{HeapView, IsHeap}
use Rattle.vx_findings.specs.Orders.{piece_cmp}
use Rattle.vx_findings.specs.Shared.{leaves_of}
use Rattle.vx_findings.specs.declared.shared.Shared.{Shared}
use Rattle.vx_java.specs.Initialisation.{max_locals}
use Rattle.vx_java.specs.Machine.{Goes}
use Rattle.vx_link.specs.Parts.{method_at}
use Rattle.vx_link.specs.declared.program.Program.{Program}
use Rattle.vx_sched.specs.Groups as sched
use Rattle.vx_sched.proofs.GroupsLaws.{key_of-shapes}
use Rattle.vx_group_states.specs.Stands.{StandsIn, is_shaped, state_at}
use Rattle.vx_group_states.proofs.StateLaws.{both_first, both_second}
use Rattle.vx_value.specs.Ends.{compare_ends}
use Rattle.vx_value.specs.declared.key.KeyPart.{KeyPart}
use Rattle.vx_placing.specs.declared.round.Round.{Round}
use Rattle.vx_standing.specs.Waiting.{AreWaiting, IsGood, IsGoodGroup, end_after, spent_after, waiting_at, waits_after}
use Rattle.vx_placing.specs.Placing.{IsPut, IsUnderway, IsVacant, leads_in, put_if}
use Rattle.vx_standing.proofs.Waiting.{IsGood-extends, run_by, run_by-extends, waiting_at-standing}

-- ---- groups that have one key have one shape

same_numbers : (a b n : ℕ) → (a == n) ≡ true → (b == n) ≡ true → a ≡ b
same_numbers a b n h k = grind (arith, nat_tests)

one_shape : (p : Program) (a b : Shape) → is_shaped p a ≡ true → is_shaped p b ≡ true → a.part ≡ b.part → a ≡ b
one_shape p a b h k e =
    let there : (a.locals == max_locals (method_at p b.part.method.0).code) ≡ true = subst (λ part. (a.locals == max_locals (method_at p part.method.0).code) ≡ true) e h in
    let locals = same_numbers a.locals b.locals (max_locals (method_at p b.part.method.0).code) there k in
    λ i. record { part = e i; locals = locals i }

-- the parts of shapes
abbrev parts_of : List Shape → List KeyPart
parts_of shapes = map (λ s. s.part) shapes

first_part : (x y : KeyPart) (xs ys : List KeyPart) → x ∷ xs ≡ y ∷ ys → x ≡ y
first_part x y xs ys h = cc h

one_shapes : (p : Program) (xs ys : List Shape) → list_all (is_shaped p) xs ≡ true → list_all (is_shaped p) ys ≡ true → parts_of xs ≡ parts_of ys → xs ≡ ys
one_shapes p [] [] h k e = refl
one_shapes p [] (y ∷ ys) h k e = cc e
one_shapes p (x ∷ xs) [] h k e = cc e
one_shapes p (x ∷ xs) (y ∷ ys) h k e =
    let here = one_shape p x y (both_first (is_shaped p x) (list_all (is_shaped p) xs) h) (both_first (is_shaped p y) (list_all (is_shaped p) ys) k) (first_part x.part y.part (parts_of xs) (parts_of ys) e) in
    let rest = one_shapes p xs ys (both_second (is_shaped p x) (list_all (is_shaped p) xs) h) (both_second (is_shaped p y) (list_all (is_shaped p) ys) k) (tail_of x.part y.part (parts_of xs) (parts_of ys) e) in
    λ i. here i ∷ rest i

-- the key has the parts from the bottom up
one_key : (xs ys : List KeyPart) → reverse xs ≡ reverse ys → xs ≡ ys
one_key xs ys h = sym (reverse-reverse xs) ∙ ap reverse h ∙ reverse-reverse ys

pub FitsAmong-shaped : {S I : Type 0} (p : Program) (sets : Sets I) (tree : List (Option (Caller S I))) (group : GroupView S I) (groups : List (GroupView S I)) → IsGroupIn sets tree group → list_all (is_shaped p) (shapes_of tree group) ≡ true → sched.AreGroups sets tree groups → sched.are_shaped (list_all (is_shaped p)) tree groups ≡ true → sched.FitsAmong tree group groups
FitsAmong-shaped p sets tree group [] g h a s = tt
FitsAmong-shaped p sets tree group (other ∷ others) g h a s = (
  λ e. one_shapes p (shapes_of tree other) (shapes_of tree group) (both_first (list_all (is_shaped p) (shapes_of tree other)) (sched.are_shaped (list_all (is_shaped p)) tree others) s) h (one_key (parts_of (shapes_of tree other)) (parts_of (shapes_of tree group)) (sym (key_of-shapes sets tree other a.0.is_group) ∙ e ∙ key_of-shapes sets tree group g)),
  FitsAmong-shaped p sets tree group others g h a.1 (both_second (list_all (is_shaped p) (shapes_of tree other)) (sched.are_shaped (list_all (is_shaped p)) tree others) s),
)

-- ---- a group was placed

pub AreWaiting-placed : {S I : Type 0} (p : Program) {old new : Sets I} {t0 t1 : List (Option (Caller S I))} → Extends old new → (heap : HeapView S I) → IsHeap old heap → (limit : ℕ) (groups placed : List (GroupView S I)) (group : GroupView S I) → AreWaiting p old heap t0 limit groups → list_all (is_shaped p) (shapes_of t0 group) ≡ true → ((c : List Bool) → old.test (path_of group) c ≡ true → IsGoodGroup old heap limit c (group_at old t0 group c)) → sched.IsPlaced old new t0 t1 groups group placed → AreWaiting p new heap t1 limit placed
AreWaiting-placed {S = S} {I = I} p {old = old} {new = new} {t0 = t0} e heap v limit groups placed group w h g q = record {
  are_groups = q.are_groups;
  shaped = q.shapes (list_all (is_shaped p)) h w.shaped;
  good = λ c. let P : Option PlainGroup → Type 0 = λ o. IsGood new heap limit c o in
      subst P (sym (q.standing c)) (cases c (old.test (path_of group) c) (g c) (sched.standing_at old t0 groups c) (w.good c));
}
  where
    cases : (c : List Bool) (b : Bool) → (b ≡ true → IsGoodGroup old heap limit c (group_at old t0 group c)) → (o : Option PlainGroup) → IsGood old heap limit c o → IsGood new heap limit c (if b then Some (group_at old t0 group c) else o)
    cases c true here o k = IsGood-extends e heap v limit c (Some (group_at old t0 group c)) (here refl)
    cases c false here o k = IsGood-extends e heap v limit c o k

pub waiting_at-placed : {S I : Type 0} {old new : Sets I} {t0 t1 : List (Option (Caller S I))} → Extends old new → (heap : HeapView S I) → IsHeap old heap → (groups placed : List (GroupView S I)) (group : GroupView S I) → sched.IsPlaced old new t0 t1 groups group placed → (c : List Bool) → waiting_at new heap t1 placed c ≡ (if old.test (path_of group) c then Some (run_by old heap c (group_at old t0 group c)) else waiting_at old heap t0 groups c)
waiting_at-placed {S = S} {I = I} {old = old} {new = new} {t0 = t0} {t1 = t1} e heap v groups placed group q c =
    waiting_at-standing new heap t1 placed c
    ∙ ap (λ o. option_map (run_by new heap c) o) (q.standing c)
    ∙ run_by-extends e heap v c (if old.test (path_of group) c then Some (group_at old t0 group c) else sched.standing_at old t0 groups c)
    ∙ cases (old.test (path_of group) c)
  where
    cases : (b : Bool) → option_map (run_by old heap c) (if b then Some (group_at old t0 group c) else sched.standing_at old t0 groups c) ≡ (if b then Some (run_by old heap c (group_at old t0 group c)) else waiting_at old heap t0 groups c)
    cases true = refl
    cases false = sym (waiting_at-standing old heap t0 groups c)

-- ---- findings that stay

pub findings_stay : {V S I : Type 0} (cmp : V → V → Ordering) {old new : Sets I} → Extends old new → (before after : List (Shared V S I)) → after ≡ before → AreLeaves cmp old (leaves_of before) → AreLeaves cmp new (leaves_of after) × ((c : List Bool) → value_at new (leaves_of after) c ≡ value_at old (leaves_of before) c)
findings_stay {V = V} {S = S} {I = I} cmp {new = new} e before after q h = (
  subst (λ xs. AreLeaves cmp new (leaves_of xs)) (sym q) (AreLeaves-extends cmp e (leaves_of before) h),
  λ c. ap (λ xs. value_at new (leaves_of xs) c) q ∙ value_at-extends cmp e (leaves_of before) h c,
)

below_limit : (a n : ℕ) → a < n → nat_lt a n ≡ true
below_limit a n h = grind (arith, nat_tests)

-- the runs of a group go on, with attempts left
pub IsPut-waits : {S I : Type 0} (p : Program) {old new : Sets I} → Extends old new → (heap : HeapView S I) → IsHeap old heap → (limit : ℕ) (group : GroupView S I) (before after : Round S I) → StandsIn p old heap before.callers group → ((c : List Bool) → old.test (path_of group) c ≡ true → attempts_at old group c < limit) → IsUnderway p old heap limit before → IsVacant old before (old.test (path_of group)) → sched.IsPlaced old new before.callers after.callers before.groups group after.groups → Keeps before.callers after.callers → after.ends.items ≡ before.ends.items → after.spent.items ≡ before.spent.items → after.texts.items ≡ before.texts.items → IsPut p old new heap limit (attempts_at old group) (leads_in old (path_of group) (λ c. Goes (state_at old heap before.callers group c))) before after
IsPut-waits {S = S} {I = I} p {old = old} {new = new} e heap v limit group before after s l u n q keeps ends spent texts =
    let new_ends = findings_stay compare_ends e before.ends.items after.ends.items ends u.ends in
    let new_spent = findings_stay nat_cmp e before.spent.items after.spent.items spent u.spent in
    let new_texts = findings_stay piece_cmp e before.texts.items after.texts.items texts u.texts in
    record {
      underway = record {
        waiting = AreWaiting-placed p e heap v limit before.groups after.groups group u.waiting s.shaped (λ c t. record { runs = s.runs.inside c t; held = s.held c t; left = l c t }) q;
        ends = new_ends.0;
        spent = new_spent.0;
        texts = new_texts.0;
      };
      keeps = keeps;
      waits = λ c. waiting_at-placed e heap v before.groups after.groups group q c ∙ waits c (old.test (path_of group) c) (l c);
      ends = λ c. new_ends.1 c ∙ ends_at c (old.test (path_of group) c) (l c) (n.ends c);
      spent = λ c. new_spent.1 c ∙ spent_at c (old.test (path_of group) c) (l c) (n.spent c);
    }
  where
    waits : (c : List Bool) (b : Bool) → (b ≡ true → attempts_at old group c < limit) → (if b then Some (run_by old heap c (group_at old before.callers group c)) else waiting_at old heap before.callers before.groups c) ≡ put_if (waits_after limit (attempts_at old group c)) (if b then Some (Goes (state_at old heap before.callers group c)) else None) (waiting_at old heap before.callers before.groups c)
    waits c true h = rw (below_limit (attempts_at old group c) limit (h refl)) refl
    waits c false h = refl

    ends_at : (c : List Bool) (b : Bool) → (b ≡ true → attempts_at old group c < limit) → (b ≡ true → value_at old (leaves_of before.ends.items) c ≡ None) → value_at old (leaves_of before.ends.items) c ≡ put_if (end_after limit (attempts_at old group c)) (if b then Some (Goes (state_at old heap before.callers group c)) else None) (value_at old (leaves_of before.ends.items) c)
    ends_at c true h m = rw (below_limit (attempts_at old group c) limit (h refl)) (m refl)
    ends_at c false h m = refl

    spent_at : (c : List Bool) (b : Bool) → (b ≡ true → attempts_at old group c < limit) → (b ≡ true → value_at old (leaves_of before.spent.items) c ≡ None) → value_at old (leaves_of before.spent.items) c ≡ put_if (spent_after limit (attempts_at old group c)) (if b then Some (Goes (state_at old heap before.callers group c)) else None) (value_at old (leaves_of before.spent.items) c)
    spent_at c true h m = rw (below_limit (attempts_at old group c) limit (h refl)) (m refl)
    spent_at c false h m = refl
