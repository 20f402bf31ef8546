-- Conditional values that are answered one leaf after the other, where the heap may change in the condition of each leaf.
use Rattle.std.proofs.Common.{◌≡◌, ℕ, ◌+◌, ◌<◌, ◌≤◌, Bool, true, false, List, refl, sym, ◌∙◌, ap, take, get_or, length, subst}
use Rattle.std.proofs.lemmas.List.{take_all}
use Rattle.std.specs.Option.{option_or}
use Rattle.std.specs.Prelude.{Option, Some, None, is_some, if◌then◌else◌, unwrap_or}
use Rattle.std.specs.declared.cmp.Ordering.{Ordering}
use Rattle.vx_cond.proofs.CondLaws.{IsCond-of, cond_at-extends, cond_at-of}
use Rattle.vx_cond.proofs.LeafLoops.{IsNext, next_leaf}
use Rattle.vx_cond.proofs.SideLaws.{cond_at-covers}
use Rattle.vx_cond.specs.Cond.{AreDisjoint, Conditional, IsCond, IsCondOf, cond_at}
use Rattle.vx_cond.specs.Leaves.{first_of, value_at, value_within}
use Rattle.vx_cond.specs.declared.cond.Leaf.{Leaf}
use Rattle.vx_cells.proofs.Somewhere.{leaf_somewhere, somewhere_later}
use Rattle.vx_families.proofs.MoreTexts.{HasMoreTexts-refl, HasMoreTexts-trans}
use Rattle.vx_families.specs.Texts.{HasMoreTexts}
use Rattle.vx_group_states.proofs.Gathering.{AreLeaves-of, leaf_value}
use Rattle.vx_group_states.proofs.GrownStates.{Grows-refl, Grows-trans}
use Rattle.vx_group_states.specs.Answering.{answer_at}
use Rattle.vx_group_states.specs.Answers.{answer_cmp}
use Rattle.vx_group_states.specs.Sites.{IsSomewhere}
use Rattle.vx_group_states.specs.declared.answer.Answer.{Answer}
use Rattle.vx_group_states.specs.declared.answer.Answer.TheVariants as answer
use Rattle.vx_heap.proofs.HeapLaws.{globals_at-extends}
use Rattle.vx_heap.proofs.Known.{cond_known}
use Rattle.vx_heap.specs.Changing.{Grows}
use Rattle.vx_heap.specs.Heap.{HeapView, IsHeap, globals_at}
use Rattle.vx_space.proofs.Spaces.{Extends-refl, Extends-trans}
use Rattle.vx_space.specs.Sets.{Extends, IsLawful, IsSet, Sets}
use Rattle.vx_natives.specs.Doing.{AreTold, IsKept}
use Rattle.vx_natives.proofs.Keeping.{IsKept-later, IsKept-refl, IsKept-texts, IsKept-within}

-- a scope is the one set in which there is a value
scope_of : {T S I : Type 0} (cmp : T → T → Ordering) {sets : Sets I} → IsLawful sets → (cond : Conditional T S I) (scope : I) (set : List Bool → Bool) → IsCond cmp sets cond → IsSet sets scope set → ((c : List Bool) → is_some (cond_at sets cond c) ≡ set c) → cond.scope ≡ scope
unfolding IsCond
scope_of cmp {sets = sets} lawful cond scope set v s e = lawful.equal_sets cond.scope scope v.scope_known s.known (λ c. sym (v.covers c) ∙ e c ∙ sym (s.test c))

-- what is told stays, over a later space and a heap that grew and did not change at the configuration
pub record Stays {T S I : Type 0} (told : Sets I → HeapView S I → List Bool → T → Answer → Type 0) : Type 0 where
  pub stays : (s1 s2 : Sets I) → Extends s1 s2 → (now after : HeapView S I) → IsHeap s1 now → Grows now after → (c : List Bool) (x : T) (a : Answer) → globals_at s2 after c ≡ globals_at s1 now c → told s1 now c x a → told s2 after c x a

-- the next leaf, over the space and the heap so far: some configuration has it, and there nothing has changed yet
pub record IsLeaf {T S I : Type 0} (start sets : Sets I) (before now : HeapView S I) (values : Conditional T S I) (x : Leaf T S I) : Type 0 where
  pub known : sets.is_known x.condition ≡ true
  pub some : IsSomewhere sets x.condition
  pub inside : (c : List Bool) → sets.test x.condition c ≡ true → start.test values.scope c ≡ true
  pub is : (none : T) (c : List Bool) → sets.test x.condition c ≡ true → unwrap_or (cond_at start values c) none ≡ x.value
  pub same : (c : List Bool) → sets.test x.condition c ≡ true → globals_at sets now c ≡ globals_at start before c

-- the answers of the first leaves, over the heap so far
pub record IsDoing {T S I : Type 0} (told : Sets I → HeapView S I → List Bool → T → Answer → Type 0) (start sets : Sets I) (before now : HeapView S I) (values : Conditional T S I) (i : ℕ) (answers : Conditional Answer S I) : Type 0 where
  pub extends : Extends start sets
  pub kept : IsKept start sets before now (λ c. is_some (value_at start (take i values.leaves) c))
  pub is_cond : IsCond answer_cmp sets answers
  pub covers : (c : List Bool) → is_some (cond_at sets answers c) ≡ is_some (value_at start (take i values.leaves) c)
  pub at : (c : List Bool) (x : T) → value_at start (take i values.leaves) c ≡ Some x → told sets now c x (answer_at sets answers c)

pub IsDoing-start : {T S I : Type 0} (told : Sets I → HeapView S I → List Bool → T → Answer → Type 0) (sets : Sets I) → IsLawful sets → (heap : HeapView S I) (values : Conditional T S I) (none : Conditional Answer S I) → IsHeap sets heap → IsCondOf answer_cmp sets (value_within sets sets.never (λ _. Some answer.Illegal)) none → IsDoing told sets sets heap heap values 0 none
IsDoing-start told sets lawful heap values none h v = record {
  extends = Extends-refl sets;
  kept = IsKept-refl sets heap (λ c. is_some (value_at sets (take 0 values.leaves) c)) h;
  is_cond = IsCond-of answer_cmp sets (value_within sets sets.never (λ _. Some answer.Illegal)) none v;
  covers = λ c. ap is_some (cond_at-of answer_cmp sets (value_within sets sets.never (λ _. Some answer.Illegal)) none c v ∙ ap (λ b. if b then Some answer.Illegal else None) (lawful.never_test c));
  at = λ c x e. cc e;
}

module _ {T S I : Type 0} (cmp : T → T → Ordering) (told : Sets I → HeapView S I → List Bool → T → Answer → Type 0) (law : Stays told) {s0 s1 : Sets I} (before now : HeapView S I) (values : Conditional T S I) (i : ℕ) (x : Leaf T S I) (answers : Conditional Answer S I) (v : IsCond cmp s0 values) (l : i < length values.leaves) (q : x ≡ get_or values.leaves i x) (h : IsDoing told s0 s1 before now values i answers) where
  pub next : IsNext s0 values.leaves i x
  next = next_leaf cmp s0 values.leaves i x (AreLeaves-of cmp s0 values v) l q

  -- over the space so far the condition holds where it did
  pub condition_later : (c : List Bool) → s1.test x.condition c ≡ s0.test x.condition c
  condition_later c = h.extends.test x.condition c next.known

  absent : (o : Option T) → o ≡ None → is_some o ≡ false
  absent o e = ap is_some e

  -- the heap is there as it was
  pub unchanged_there : (c : List Bool) → s1.test x.condition c ≡ true → globals_at s1 now c ≡ globals_at s0 before c
  unchanged_there c t = h.kept.outside c (absent (value_at s0 (take i values.leaves) c) (next.before.none c (sym (condition_later c) ∙ t)))

  here : (c : List Bool) → s1.test x.condition c ≡ true → cond_at s0 values c ≡ Some x.value
  here c t = leaf_value cmp s0 values.leaves i x c (AreLeaves-of cmp s0 values v) l q (sym (condition_later c) ∙ t)

  pub leaf_ready : IsLawful s0 → IsLeaf s0 s1 before now values x
  leaf_ready lawful = record {
    known = h.extends.known x.condition next.known;
    some = somewhere_later h.extends x.condition next.known (leaf_somewhere cmp lawful values.leaves i x (AreLeaves-of cmp s0 values v) l q);
    inside = λ c t. sym (cond_at-covers cmp s0 values v c) ∙ ap is_some (here c t);
    is = λ none c t. ap (λ o. unwrap_or o none) (here c t);
    same = unchanged_there;
  }

  -- the value there is that of the leaf
  pub value_there : (c : List Bool) → s1.test x.condition c ≡ true → value_at s0 (take (i + 1) values.leaves) c ≡ Some x.value
  value_there c t = next.more c ∙ ap (λ b. if b then Some x.value else value_at s0 (take i values.leaves) c) (sym (condition_later c) ∙ t)

  -- the condition of the next leaf has no answer yet
  pub IsDoing-apart : {s2 : Sets I} → Extends s1 s2 → AreDisjoint s2 answers.scope x.condition
  IsDoing-apart {s2 = s2} e = record { apart = λ c t. outside c t (s2.test x.condition c) refl }
    where
      both : true ≡ false → ⊥
      both f = cc f

      later : (c : List Bool) → s2.test answers.scope c ≡ s1.test answers.scope c
      later c = e.test answers.scope c (cond_known answer_cmp s1 answers h.is_cond).0

      inside : (c : List Bool) → s2.test x.condition c ≡ s0.test x.condition c
      inside c = (Extends-trans h.extends e).test x.condition c next.known

      outside : (c : List Bool) → s2.test answers.scope c ≡ true → (b : Bool) → s2.test x.condition c ≡ b → s2.test x.condition c ≡ false
      outside c t true u =
          let none = next.before.none c (sym (inside c) ∙ u) in
          absurd (both (sym (cond_at-covers answer_cmp s1 answers h.is_cond c ∙ sym (later c) ∙ t) ∙ h.covers c ∙ ap is_some none))
      outside c t false u = u

  -- the leaf was answered in its condition, and its answers put beside the others
  pub IsDoing-step : {s2 s3 : Sets I} → Extends s1 s2 → Extends s2 s3 → (after : HeapView S I) (part made : Conditional Answer S I) → IsKept s1 s2 now after (s1.test x.condition) → IsCond answer_cmp s2 part → part.scope ≡ x.condition → ((c : List Bool) → s1.test x.condition c ≡ true → told s2 after c x.value (answer_at s2 part c)) → IsCondOf answer_cmp s3 (first_of (cond_at s2 answers) (cond_at s2 part)) made → IsDoing told s0 s3 before after values (i + 1) made
  IsDoing-step {s2 = s2} {s3 = s3} e f after part made k w scope t u = record {
    extends = Extends-trans h.extends (Extends-trans e f);
    kept = IsKept-later before after (λ c. is_some (value_at s0 (take (i + 1) values.leaves) c)) f (record {
      is_heap = k.is_heap;
      grows = Grows-trans before now after h.kept.grows k.grows;
      keeps = λ p q. k.keeps p (h.kept.keeps p q);
      outside = λ c z. k.outside c (condition_later c ∙ (parts c z).0) ∙ h.kept.outside c (parts c z).1;
    });
    is_cond = IsCond-of answer_cmp s3 (first_of (cond_at s2 answers) (cond_at s2 part)) made u;
    covers = λ c. ap is_some (value c) ∙ covered c (s0.test x.condition c) refl ∙ sym (ap is_some (next.more c));
    at = λ c y z. told_at c y (s0.test x.condition c) refl (sym (next.more c) ∙ z);
  }
    where
      -- a configuration with no value yet is in none of the conditions
      split : (b : Bool) (o : Option T) → is_some (if b then Some x.value else o) ≡ false → (b ≡ false) × (is_some o ≡ false)
      split true o z = cc z
      split false o z = (refl, z)

      parts : (c : List Bool) → is_some (value_at s0 (take (i + 1) values.leaves) c) ≡ false → (s0.test x.condition c ≡ false) × (is_some (value_at s0 (take i values.leaves) c) ≡ false)
      parts c z = split (s0.test x.condition c) (value_at s0 (take i values.leaves) c) (ap is_some (sym (next.more c)) ∙ z)

      -- the answers so far, and those of the leaf
      value : (c : List Bool) → cond_at s3 made c ≡ option_or (cond_at s1 answers c) (cond_at s2 part c)
      value c = cond_at-of answer_cmp s3 (first_of (cond_at s2 answers) (cond_at s2 part)) made c u ∙ ap (λ o. option_or o (cond_at s2 part c)) (cond_at-extends answer_cmp e answers h.is_cond c)

      in_part : (c : List Bool) → is_some (cond_at s2 part c) ≡ s0.test x.condition c
      in_part c = cond_at-covers answer_cmp s2 part w c ∙ ap (λ j. s2.test j c) scope ∙ (Extends-trans h.extends e).test x.condition c next.known

      none_of : {A : Type 0} (o : Option A) → is_some o ≡ false → o ≡ None
      none_of None z = refl
      none_of (Some y) z = cc z

      or_none : {A : Type 0} (o : Option A) → option_or o None ≡ o
      or_none None = refl
      or_none (Some y) = refl

      -- inside of the condition, and outside
      inside : (c : List Bool) → s0.test x.condition c ≡ true → cond_at s3 made c ≡ cond_at s2 part c
      inside c r = value c ∙ ap (λ o. option_or o (cond_at s2 part c)) (none_of (cond_at s1 answers c) (h.covers c ∙ ap is_some (next.before.none c r)))

      outside : (c : List Bool) → s0.test x.condition c ≡ false → cond_at s3 made c ≡ cond_at s1 answers c
      outside c r = value c ∙ ap (option_or (cond_at s1 answers c)) (none_of (cond_at s2 part c) (in_part c ∙ r)) ∙ or_none (cond_at s1 answers c)

      covered : (c : List Bool) (b : Bool) → s0.test x.condition c ≡ b → is_some (option_or (cond_at s1 answers c) (cond_at s2 part c)) ≡ is_some (if b then Some x.value else value_at s0 (take i values.leaves) c)
      covered c true r = ap is_some (sym (value c) ∙ inside c r) ∙ in_part c ∙ r
      covered c false r = ap is_some (sym (value c) ∙ outside c r) ∙ h.covers c

      same : (y z : T) → Some y ≡ Some z → y ≡ z
      same y z q = cc q

      told_at : (c : List Bool) (y : T) (b : Bool) → s0.test x.condition c ≡ b → (if b then Some x.value else value_at s0 (take i values.leaves) c) ≡ Some y → told s3 after c y (answer_at s3 made c)
      told_at c y true r z =
          let P : T → Type 0 = λ v. told s3 after c v (answer_at s2 part c) in
          let Q : Answer → Type 0 = λ v. told s3 after c y v in
          let there = t c (condition_later c ∙ r) in
          let later = law.stays s2 s3 f after after k.is_heap (Grows-refl after) c x.value (answer_at s2 part c) (globals_at-extends f after k.is_heap c) there in
          subst Q (sym (ap (λ o. unwrap_or o answer.Illegal) (inside c r))) (subst P (same x.value y z) later)
      told_at c y false r z =
          let Q : Answer → Type 0 = λ v. told s3 after c y v in
          let here = k.outside c (condition_later c ∙ r) in
          let later = law.stays s1 s2 e now after h.kept.is_heap k.grows c y (answer_at s1 answers c) here (h.at c y z) in
          let last = law.stays s2 s3 f after after k.is_heap (Grows-refl after) c y (answer_at s1 answers c) (globals_at-extends f after k.is_heap c) later in
          subst Q (sym (ap (λ o. unwrap_or o answer.Illegal) (outside c r))) last

pub IsDoing-end : {T S I : Type 0} (none : T) (cmp : T → T → Ordering) (told : Sets I → HeapView S I → List Bool → T → Answer → Type 0) {s0 s1 : Sets I} → IsLawful s1 → (before now : HeapView S I) (values : Conditional T S I) (i : ℕ) (answers : Conditional Answer S I) → IsCond cmp s0 values → length values.leaves ≤ i → IsDoing told s0 s1 before now values i answers → AreTold none told s0 s1 before now values answers
IsDoing-end {T = T} none cmp told {s0 = s0} {s1 = s1} lawful before now values i answers v l h = record {
  kept = IsKept-within s0 s1 before now (λ c. is_some (value_at s0 (take i values.leaves) c)) (s0.test values.scope) (λ c t. ap is_some (all c) ∙ cond_at-covers cmp s0 values v c ∙ t) h.kept;
  is_cond = h.is_cond;
  scope = scope_of answer_cmp lawful answers values.scope (s0.test values.scope) h.is_cond (record { known = h.extends.known values.scope known; test = λ c. h.extends.test values.scope c known }) (λ c. h.covers c ∙ ap is_some (all c) ∙ cond_at-covers cmp s0 values v c);
  at = λ c t. by c (cond_at s0 values c) refl (cond_at-covers cmp s0 values v c ∙ t);
}
  where
    known : s0.is_known values.scope ≡ true
    known = (cond_known cmp s0 values v).0

    all : (c : List Bool) → value_at s0 (take i values.leaves) c ≡ cond_at s0 values c
    all c = ap (λ ys. value_at s0 ys c) (take_all i values.leaves l)

    by : (c : List Bool) (o : Option T) → cond_at s0 values c ≡ o → is_some o ≡ true → told s1 now c (unwrap_or (cond_at s0 values c) none) (answer_at s1 answers c)
    by c None e t = cc t
    by c (Some x) e t =
        let P : T → Type 0 = λ r. told s1 now c r (answer_at s1 answers c) in
        subst P (sym (ap (λ o. unwrap_or o none) e)) (h.at c x (all c ∙ e))

-- ---- where only texts are put

pub record IsPutting {T S I : Type 0} (told : Sets I → HeapView S I → List Bool → T → Answer → Type 0) (start sets : Sets I) (before now : HeapView S I) (values : Conditional T S I) (i : ℕ) (answers : Conditional Answer S I) : Type 0 where
  pub doing : IsDoing told start sets before now values i answers
  pub more : HasMoreTexts before now

pub IsPutting-start : {T S I : Type 0} (told : Sets I → HeapView S I → List Bool → T → Answer → Type 0) (sets : Sets I) → IsLawful sets → (heap : HeapView S I) (values : Conditional T S I) (none : Conditional Answer S I) → IsHeap sets heap → IsCondOf answer_cmp sets (value_within sets sets.never (λ _. Some answer.Illegal)) none → IsPutting told sets sets heap heap values 0 none
IsPutting-start told sets lawful heap values none h v = record { doing = IsDoing-start told sets lawful heap values none h v; more = HasMoreTexts-refl heap }

pub IsPutting-step : {T S I : Type 0} (cmp : T → T → Ordering) (told : Sets I → HeapView S I → List Bool → T → Answer → Type 0) → Stays told → {s0 s1 s2 s3 : Sets I} (before now after : HeapView S I) (values : Conditional T S I) (i : ℕ) (x : Leaf T S I) (answers part made : Conditional Answer S I) → IsCond cmp s0 values → i < length values.leaves → x ≡ get_or values.leaves i x → IsPutting told s0 s1 before now values i answers → Extends s1 s2 → Extends s2 s3 → HasMoreTexts now after → IsCond answer_cmp s2 part → part.scope ≡ x.condition → ((c : List Bool) → s1.test x.condition c ≡ true → told s2 after c x.value (answer_at s2 part c)) → IsCondOf answer_cmp s3 (first_of (cond_at s2 answers) (cond_at s2 part)) made → IsPutting told s0 s3 before after values (i + 1) made
IsPutting-step cmp told law {s1 = s1} before now after values i x answers part made v l q h e f more w scope t u = record {
  doing = IsDoing-step cmp told law before now values i x answers v l q h.doing e f after part made (IsKept-later now after (s1.test x.condition) e (IsKept-texts s1 now after (s1.test x.condition) h.doing.kept.is_heap more)) w scope t u;
  more = HasMoreTexts-trans before now after h.more more;
}
