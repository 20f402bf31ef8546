-- What is under way, where the space is extended and where one thing after the other takes its place.
use Rattle.std.proofs.Common.{◌≡◌, ℕ, Bool, true, false, List, refl, ◌∙◌, ap}
use Rattle.std.specs.Prelude.{Option, Some, None, if◌then◌else◌, is_some, unwrap_or}
use Rattle.std.specs.Option.{option_or}
use Rattle.std.specs.Ordering.{nat_cmp}
use Rattle.vx_space.specs.Sets.{Extends, IsKnown, Sets}
use Rattle.vx_cond.specs.Cond.{Conditional, IsCond, IsInside, cond_at}
use Rattle.vx_cond.specs.Leaves.{value_at}
use Rattle.vx_cond.proofs.LeafLaws.{AreLeaves-extends, value_at-extends}
use Rattle.vx_cond.proofs.SideLaws.{cond_at-covers}
use Rattle.vx_group.proofs.CallerLaws.{Keeps-refl, Keeps-trans}
use Rattle.vx_heap.specs.Heap.{HeapView, IsHeap}
use Rattle.vx_findings.specs.Orders.{piece_cmp}
use Rattle.vx_findings.specs.Shared.{leaves_of}
use Rattle.vx_java.specs.Machine.{Ends, Next}
use Rattle.vx_link.specs.declared.program.Program.{Program}
use Rattle.vx_value.specs.Ends.{compare_ends}
use Rattle.vx_value.specs.declared.end.End.{End}
use Rattle.vx_placing.specs.declared.round.Round.{Round}
use Rattle.vx_placing.specs.Placing.{IsEnded, IsPut, IsUnderway, IsVacant, MayEnd, leads_in, made_at, put_if}
use Rattle.vx_standing.specs.Waiting.{end_after, spent_after, waiting_at, waits_after}
use Rattle.vx_standing.proofs.Waiting.{AreWaiting-extends, no_group, none_waits, waiting_at-extends}

-- ---- a later space

pub IsUnderway-extends : {S I : Type 0} (p : Program) {old new : Sets I} → Extends old new → (heap : HeapView S I) → IsHeap old heap → (limit : ℕ) (round : Round S I) → IsUnderway p old heap limit round → IsUnderway p new heap limit round
IsUnderway-extends p e heap v limit round u = record {
  waiting = AreWaiting-extends p e heap v round.callers limit round.groups u.waiting;
  ends = AreLeaves-extends compare_ends e (leaves_of round.ends.items) u.ends;
  spent = AreLeaves-extends nat_cmp e (leaves_of round.spent.items) u.spent;
  texts = AreLeaves-extends piece_cmp e (leaves_of round.texts.items) u.texts;
}

-- told of an earlier space
pub IsPut-before : {S I : Type 0} (p : Program) {s0 s1 : Sets I} (s2 : Sets I) → Extends s0 s1 → (heap : HeapView S I) → IsHeap s0 heap → (limit : ℕ) (made : List Bool → ℕ) (leads : List Bool → Option Next) (before after : Round S I) → IsUnderway p s0 heap limit before → IsPut p s1 s2 heap limit made leads before after → IsPut p s0 s2 heap limit made leads before after
IsPut-before p s2 e heap v limit made leads before after u q = record {
  underway = q.underway;
  keeps = q.keeps;
  waits = λ c. q.waits c ∙ ap (λ o. put_if (waits_after limit (made c)) (leads c) o) (waiting_at-extends e heap v before.callers before.groups u.waiting.are_groups c);
  ends = λ c. q.ends c ∙ ap (λ o. put_if (end_after limit (made c)) (leads c) o) (value_at-extends compare_ends e (leaves_of before.ends.items) u.ends c);
  spent = λ c. q.spent c ∙ ap (λ o. put_if (spent_after limit (made c)) (leads c) o) (value_at-extends nat_cmp e (leaves_of before.spent.items) u.spent c);
}

-- ---- one after the other

pub then_put : {A B : Type 0} (f : A → Option B) (a b : Option A) (o : Option B) → put_if f b (put_if f a o) ≡ put_if f (option_or b a) o
then_put f a None o = refl
then_put f a (Some n) o = refl

pub IsPut-then : {S I : Type 0} (p : Program) (s0 s1 s2 : Sets I) (heap : HeapView S I) (limit : ℕ) (made : List Bool → ℕ) (a b : List Bool → Option Next) (before middle after : Round S I) → IsPut p s0 s1 heap limit made a before middle → IsPut p s1 s2 heap limit made b middle after → IsPut p s0 s2 heap limit made (λ c. option_or (b c) (a c)) before after
IsPut-then p s0 s1 s2 heap limit made a b before middle after x y = record {
  underway = y.underway;
  keeps = Keeps-trans x.keeps y.keeps;
  waits = λ c. y.waits c ∙ ap (λ o. put_if (waits_after limit (made c)) (b c) o) (x.waits c) ∙ then_put (waits_after limit (made c)) (a c) (b c) (waiting_at s0 heap before.callers before.groups c);
  ends = λ c. y.ends c ∙ ap (λ o. put_if (end_after limit (made c)) (b c) o) (x.ends c) ∙ then_put (end_after limit (made c)) (a c) (b c) (value_at s0 (leaves_of before.ends.items) c);
  spent = λ c. y.spent c ∙ ap (λ o. put_if (spent_after limit (made c)) (b c) o) (x.spent c) ∙ then_put (spent_after limit (made c)) (a c) (b c) (value_at s0 (leaves_of before.spent.items) c);
}

-- the same, said otherwise
pub IsPut-same : {S I : Type 0} (p : Program) (old new : Sets I) (heap : HeapView S I) (limit : ℕ) (m n : List Bool → ℕ) (a b : List Bool → Option Next) (before after : Round S I) → ((c : List Bool) → a c ≡ b c) → ((c : List Bool) (l : Next) → b c ≡ Some l → m c ≡ n c) → IsPut p old new heap limit m a before after → IsPut p old new heap limit n b before after
IsPut-same p old new heap limit m n a b before after e k q = record {
  underway = q.underway;
  keeps = q.keeps;
  waits = λ c. q.waits c ∙ ap (λ o. put_if (waits_after limit (m c)) o (waiting_at old heap before.callers before.groups c)) (e c) ∙ numbers (waits_after limit) (m c) (n c) (b c) (waiting_at old heap before.callers before.groups c) (k c);
  ends = λ c. q.ends c ∙ ap (λ o. put_if (end_after limit (m c)) o (value_at old (leaves_of before.ends.items) c)) (e c) ∙ numbers (end_after limit) (m c) (n c) (b c) (value_at old (leaves_of before.ends.items) c) (k c);
  spent = λ c. q.spent c ∙ ap (λ o. put_if (spent_after limit (m c)) o (value_at old (leaves_of before.spent.items) c)) (e c) ∙ numbers (spent_after limit) (m c) (n c) (b c) (value_at old (leaves_of before.spent.items) c) (k c);
}
  where
    numbers : {B : Type 0} (f : ℕ → Next → Option B) (x y : ℕ) (o : Option Next) (was : Option B) → ((l : Next) → o ≡ Some l → x ≡ y) → put_if (f x) o was ≡ put_if (f y) o was
    numbers f x y None was h = refl
    numbers f x y (Some l) was h = ap (λ i. f i l) (h l refl)

-- what is vacant stays so where nothing is put
pub IsVacant-put : {S I : Type 0} (p : Program) (old new : Sets I) (heap : HeapView S I) (limit : ℕ) (made : List Bool → ℕ) (leads : List Bool → Option Next) (before after : Round S I) (set : List Bool → Bool) → IsPut p old new heap limit made leads before after → IsVacant old before set → ((c : List Bool) → set c ≡ true → leads c ≡ None) → IsVacant new after set
IsVacant-put p old new heap limit made leads before after set q n h = record {
  groups = λ c t. none_waits new heap after.callers after.groups c (q.waits c ∙ rw (h c t) (no_group old heap before.callers before.groups c (n.groups c t)));
  ends = λ c t. q.ends c ∙ rw (h c t) (n.ends c t);
  spent = λ c t. q.spent c ∙ rw (h c t) (n.spent c t);
}

-- ---- runs that have ended

pub some_inside : {S I : Type 0} (sets : Sets I) (attempts : Conditional ℕ S I) (c : List Bool) → IsCond nat_cmp sets attempts → sets.test attempts.scope c ≡ true → cond_at sets attempts c ≡ Some (made_at sets attempts c)
some_inside sets attempts c v t = cases (cond_at sets attempts c) (cond_at-covers nat_cmp sets attempts v c ∙ t)
  where
    cases : (o : Option ℕ) → is_some o ≡ true → o ≡ Some (unwrap_or o 0)
    cases None h = cc
    cases (Some n) h = refl

pub IsPut-ended : {S I : Type 0} (p : Program) {old new : Sets I} → Extends old new → (heap : HeapView S I) → IsHeap old heap → (limit : ℕ) (attempts : Conditional ℕ S I) (condition : I) (end : End) (before after : Round S I) → IsUnderway p old heap limit before → IsVacant old before (old.test condition) → IsCond nat_cmp old attempts → IsInside old condition attempts.scope → IsEnded old new attempts condition end before after → IsPut p old new heap limit (made_at old attempts) (leads_in old condition (λ _. Ends end)) before after
IsPut-ended {S = S} {I = I} p {old = old} {new = new} e heap v limit attempts condition end before after u n k i q =
    let waiting = AreWaiting-extends p e heap v before.callers limit before.groups u.waiting in
    record {
      underway = record {
        waiting = rw (q.callers, q.groups) waiting;
        ends = q.ends.are_leaves;
        spent = q.spent.are_leaves;
        texts = rw q.texts (AreLeaves-extends piece_cmp e (leaves_of before.texts.items) u.texts);
      };
      keeps = rw q.callers (Keeps-refl before.callers);
      waits = λ c. ap (λ t. waiting_at new heap t after.groups c) q.callers ∙ ap (λ g. waiting_at new heap before.callers g c) q.groups ∙ waiting_at-extends e heap v before.callers before.groups u.waiting.are_groups c ∙ waits c (old.test condition c) (λ t. no_group old heap before.callers before.groups c (n.groups c t));
      ends = λ c. q.ends.values c ∙ ends_at c (old.test condition c);
      spent = λ c. q.spent.values c ∙ spent_at c (old.test condition c) (n.spent c) (λ t. some_inside old attempts c k (i.inside c t));
    }
  where
    waits : (c : List Bool) (b : Bool) → (b ≡ true → waiting_at old heap before.callers before.groups c ≡ None) → waiting_at old heap before.callers before.groups c ≡ put_if (waits_after limit (made_at old attempts c)) (if b then Some (Ends end) else None) (waiting_at old heap before.callers before.groups c)
    waits c true h = h refl
    waits c false h = refl

    ends_at : (c : List Bool) (b : Bool) → (if b then Some end else value_at old (leaves_of before.ends.items) c) ≡ put_if (end_after limit (made_at old attempts c)) (if b then Some (Ends end) else None) (value_at old (leaves_of before.ends.items) c)
    ends_at c true = refl
    ends_at c false = refl

    or_none : (o : Option ℕ) → option_or o None ≡ o
    or_none None = refl
    or_none (Some x) = refl

    spent_at : (c : List Bool) (b : Bool) → (b ≡ true → value_at old (leaves_of before.spent.items) c ≡ None) → (b ≡ true → cond_at old attempts c ≡ Some (made_at old attempts c)) → option_or (value_at old (leaves_of before.spent.items) c) (if b then cond_at old attempts c else None) ≡ put_if (spent_after limit (made_at old attempts c)) (if b then Some (Ends end) else None) (value_at old (leaves_of before.spent.items) c)
    spent_at c true h g = rw (h refl) (g refl)
    spent_at c false h g = or_none (value_at old (leaves_of before.spent.items) c)

-- conditions that are vacant are apart

-- runs at whose configurations nothing stands may come to an end
pub MayEnd-vacant : {S I : Type 0} (p : Program) (sets : Sets I) (heap : HeapView S I) (limit : ℕ) (round : Round S I) (attempts : Conditional ℕ S I) (condition : I) → IsUnderway p sets heap limit round → IsCond nat_cmp sets attempts → IsKnown sets condition → IsVacant sets round (sets.test condition) → MayEnd sets round attempts condition
MayEnd-vacant p sets heap limit round attempts condition u k n v = record {
  ends = u.ends;
  spent = u.spent;
  is_cond = k;
  known = n;
  ends_apart = record { none = v.ends };
  spent_apart = record { none = v.spent };
}
