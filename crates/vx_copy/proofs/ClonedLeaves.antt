-- Receivers that are cloned, one leaf after the other.
use Rattle.std.proofs.Common.{◌≡◌, ℕ, ◌+◌, ◌<◌, ◌≤◌, Bool, true, false, List, [], ◌∷◌, refl, sym, ◌∙◌, ap, get_or, length, subst, take}
use Rattle.std.proofs.lemmas.List.{take_all}
use Rattle.std.specs.Prelude.{Option, Some, None, ◌||◌, if◌then◌else◌, is_some}
use Rattle.vx_cells.specs.Making.{AreAllMade, AreMade, Breaks, IsMadeInside, IsMakingAnswered, Making, Makes, Raises, with_made}
use Rattle.vx_cells.proofs.Making.{AreMade-all, AreMade-none, AreMade-one, AreMade-then, IsMadeInside-unmade}
use Rattle.vx_cells.proofs.Somewhere.{leaf_somewhere as some_configuration}
use Rattle.vx_cells.proofs.WrittenThrough.{reference_held}
use Rattle.vx_cond.specs.Cond.{AreDisjoint, Conditional, IsCond, IsCondOf, IsInside, cond_at}
use Rattle.vx_cond.specs.Leaves.{AreLeaves, value_at, value_under}
use Rattle.vx_cond.specs.Slots.{or_top, slot_at}
use Rattle.vx_cond.specs.declared.cond.Leaf.{Leaf}
use Rattle.vx_cond.proofs.LeafLoops.{IsNext, next_leaf}
use Rattle.vx_cond.proofs.SideLaws.{cond_at-covers}
use Rattle.vx_group_states.specs.Answers.{answer_cmp}
use Rattle.vx_group_states.specs.Sites.{IsSomewhere}
use Rattle.vx_group_states.specs.declared.answer.Answer.{Answer}
use Rattle.vx_group_states.specs.declared.answer.Answer.TheVariants.{Give, Illegal, Raise}
use Rattle.vx_group_states.proofs.Gathering.{AreLeaves-of, leaf_value}
use Rattle.vx_families.proofs.ChangeLaws.{changed_as}
use Rattle.vx_families.proofs.NameLaws.{new_name_is_next}
use Rattle.vx_heap.specs.Changing.{IsMadeAt, IsValueHeld, named_object, with_object}
use Rattle.vx_heap.specs.Heap.{Globals, HeapView, IsHeap, globals_at, is_held, name_at, object_in, objects_at, value_of}
use Rattle.vx_heap.proofs.Copying.{named_is}
use Rattle.vx_heap.proofs.Growing.{is_held-grown, value_of-grown}
use Rattle.vx_heap.proofs.Known.{cond_known}
use Rattle.vx_java.specs.Ids.{as_class}
use Rattle.vx_java.specs.Machine.{Object}
use Rattle.vx_link.specs.ClassNames.{core_class, is_array}
use Rattle.vx_link.specs.declared.program.Program.{Program}
use Rattle.vx_space.specs.Sets.{Extends, IsLawful, Sets}
use Rattle.vx_space.proofs.Spaces.{Extends-refl, Extends-trans}
use Rattle.vx_value.specs.Slot.{slot_cmp}
use Rattle.vx_value.specs.declared.ids.ClassId.{ClassId}
use Rattle.vx_value.specs.declared.slot.Slot.{Slot}
use Rattle.vx_value.specs.declared.slot.Slot.TheVariants.{Int, Long, Null, Ref, Text, Top}
use Rattle.vx_copy.specs.Cloning.{clone_made, clones_made, no_array}

-- ---- one condition

class_is : (x : ClassId) (n : ℕ) → x.0 ≡ n → x ≡ as_class n
class_is x n h = λ i. record { 0 = h i }

-- a receiver that is no object
pub IsMadeInside-no_array : {S I : Type 0} (p : Program) (sets : Sets I) (heap : HeapView S I) (condition : I) (null : ClassId) (receiver : Slot) (a : Answer) → IsHeap sets heap → null.0 ≡ core_class p "java/lang/NullPointerException" → ((r : ℕ) → receiver ≡ Ref r → ⊥) → a ≡ no_array null receiver → IsMadeInside (clones_made p sets heap (λ _. receiver)) sets sets heap heap condition a
IsMadeInside-no_array {S = S} {I = I} p sets heap condition null receiver a v n other is = cases receiver other is
  where
    unmade : (slot : Slot) (m : Making) → ((c : List Bool) → clone_made p (objects_at sets heap c) (value_of sets heap c slot) ≡ m) → ((g : Globals) → with_made m g ≡ g) → ((c : List Bool) → IsMakingAnswered sets heap c (length (globals_at sets heap c).objects) m a) → IsMadeInside (clones_made p sets heap (λ _. slot)) sets sets heap heap condition a
    unmade slot m same none said = IsMadeInside-unmade (clones_made p sets heap (λ _. slot)) m sets heap condition a v none (λ c t. same c) said

    cases : (slot : Slot) → ((r : ℕ) → slot ≡ Ref r → ⊥) → a ≡ no_array null slot → IsMadeInside (clones_made p sets heap (λ _. slot)) sets sets heap heap condition a
    cases Null f e = unmade Null (Raises (as_class (core_class p "java/lang/NullPointerException"))) (λ c. refl) (λ g. refl) (λ c. e ∙ ap (λ k. Raise k None) (class_is null (core_class p "java/lang/NullPointerException") n))
    cases (Ref r) f e = absurd (f r refl)
    cases Top f e = unmade Top Breaks (λ c. refl) (λ g. refl) (λ c. e)
    cases (Int i) f e = unmade (Int i) Breaks (λ c. refl) (λ g. refl) (λ c. e)
    cases (Long i) f e = unmade (Long i) Breaks (λ c. refl) (λ g. refl) (λ c. e)
    cases (Text i) f e = unmade (Text i) Breaks (λ c. refl) (λ g. refl) (λ c. e)

module _ {S I : Type 0} (p : Program) (s0 : Sets I) (before : HeapView S I) (condition : I) (receiver : Slot) (array : ℕ) (is_array_there : receiver ≡ Ref array) (held : (c : List Bool) → s0.test condition c ≡ true → is_held s0 before c receiver ≡ true) where
  there : (c : List Bool) → s0.test condition c ≡ true → (array < length before.objects) × (s0.test (object_in before array).presence c ≡ true)
  there c t = reference_held s0 before c array (ap (is_held s0 before c) (sym is_array_there) ∙ held c t)

  -- the object is there
  pub object_within : IsSomewhere s0 condition → array < length before.objects
  object_within some = (there some.config some.inside).0

  pub object_inside : IsInside s0 condition (object_in before array).presence
  object_inside = record { inside = λ c t. (there c t).1 }

  -- what its clone makes goes by its class
  by_class : (b : Bool) → is_array p (object_in before array).class.0 ≡ b → (c : List Bool) → s0.test condition c ≡ true → clones_made p s0 before (λ _. receiver) c ≡ (if b then Makes (λ first. named_object s0 before array c ∷ []) else Breaks)
  by_class b is c t =
      let is_there = there c t in
      ap (λ (slot : Slot). clone_made p (objects_at s0 before c) (value_of s0 before c slot)) is_array_there
      ∙ ap (λ (k : Bool). if k then Makes (λ first. named_object s0 before array c ∷ []) else Breaks) (ap (λ (o : Object). is_array p o.class) (named_is s0 before array c is_there.0 is_there.1) ∙ is)

  -- an object that is no array
  pub IsMadeInside-other : (class : ClassId) → class ≡ (object_in before array).class → is_array p class.0 ≡ false → IsHeap s0 before → IsMadeInside (clones_made p s0 before (λ _. receiver)) s0 s0 before before condition Illegal
  IsMadeInside-other class e is v = IsMadeInside-unmade (clones_made p s0 before (λ _. receiver)) Breaks s0 before condition Illegal v (λ g. refl) (by_class false (ap (λ (k : ClassId). is_array p k.0) (sym e) ∙ is)) (λ c. refl)

  -- an array
  pub IsMadeInside-copied : {s1 : Sets I} (after : HeapView S I) (class : ClassId) (copy : ℕ) → class ≡ (object_in before array).class → is_array p class.0 ≡ true → IsHeap s0 before → Extends s0 s1 → IsMadeAt s0 s1 before condition (named_object s0 before array) after copy → IsMadeInside (clones_made p s0 before (λ _. receiver)) s0 s1 before after condition (Give (Ref copy))
  IsMadeInside-copied {s1 = s1} after class copy e is v x made = record {
    changed = changed_as s0 s1 before after (s0.test condition) (λ c. with_object (named_object s0 before array c)) (λ c. with_made (clones_made p s0 before (λ _. receiver) c)) (λ c t. ap (λ m. with_made m (globals_at s0 before c)) (sym (making c t))) made.changed;
    at = λ c t.
        let P : Making → Type 0 = λ m. IsMakingAnswered s1 after c (length (globals_at s0 before c).objects) m (Give (Ref copy)) in
        subst P (sym (making c t)) (record {
          reference = copy;
          is = refl;
          name = ap (name_at s1 after.objects c) made.reference_is ∙ new_name_is_next s0 s1 before after x v made.changed.grows c;
          held = made.held c t;
        });
  }
    where
      making : (c : List Bool) → s0.test condition c ≡ true → clones_made p s0 before (λ _. receiver) c ≡ Makes (λ first. named_object s0 before array c ∷ [])
      making c t = by_class true (ap (λ (k : ClassId). is_array p k.0) (sym e) ∙ is) c t

-- ---- the loop over the leaves

pub record IsCloning {S I : Type 0} (p : Program) (start sets : Sets I) (before now : HeapView S I) (receivers : Conditional Slot S I) (i : ℕ) (none answers : Conditional Answer S I) : Type 0 where
  pub extends : Extends start sets
  pub made : AreMade (clones_made p start before (slot_at start receivers)) start sets before now (λ c. is_some (value_at start (take i receivers.leaves) c)) none answers

pub IsCloning-start : {S I : Type 0} (p : Program) (sets : Sets I) (heap : HeapView S I) (receivers : Conditional Slot S I) (none : Conditional Answer S I) → IsHeap sets heap → IsCond answer_cmp sets none → IsCloning p sets sets heap heap receivers 0 none none
IsCloning-start p sets heap receivers none v w = record {
  extends = Extends-refl sets;
  made = AreMade-none (clones_made p sets heap (slot_at sets receivers)) sets heap (λ c. is_some (value_at sets (take 0 receivers.leaves) c)) none v w (λ c. refl);
}

module _ {S I : Type 0} (p : Program) {s0 s1 : Sets I} (before now : HeapView S I) (receivers : Conditional Slot S I) (i : ℕ) (x : Leaf Slot S I) (none answers : Conditional Answer S I) (v : IsHeap s0 before) (w : IsCond slot_cmp s0 receivers) (held : IsValueHeld s0 before receivers) (l : i < length receivers.leaves) (q : x ≡ get_or receivers.leaves i x) (h : IsCloning p s0 s1 before now receivers i none answers) where
  are_leaves : AreLeaves slot_cmp s0 receivers.leaves
  are_leaves = AreLeaves-of slot_cmp s0 receivers w

  next : IsNext s0 receivers.leaves i x
  next = next_leaf slot_cmp s0 receivers.leaves i x are_leaves l q

  here : (c : List Bool) → s1.test x.condition c ≡ s0.test x.condition c
  here c = h.extends.test x.condition c next.known

  pub leaf_known : s1.is_known x.condition ≡ true
  leaf_known = h.extends.known x.condition next.known

  pub leaf_somewhere : IsLawful s0 → IsSomewhere s1 x.condition
  leaf_somewhere lawful =
      let some = some_configuration slot_cmp lawful receivers.leaves i x are_leaves l q in
      record { config = some.config; inside = here some.config ∙ some.inside }

  -- its value is the receiver
  value_is : (c : List Bool) → s0.test x.condition c ≡ true → cond_at s0 receivers c ≡ Some x.value
  value_is c t = leaf_value slot_cmp s0 receivers.leaves i x c are_leaves l q t

  held_before : (c : List Bool) → s0.test x.condition c ≡ true → is_held s0 before c x.value ≡ true
  held_before c t =
      let inside = sym (cond_at-covers slot_cmp s0 receivers w c) ∙ ap is_some (value_is c t) in
      ap (is_held s0 before c) (sym (ap or_top (value_is c t))) ∙ held.held c inside

  pub leaf_held : (c : List Bool) → s1.test x.condition c ≡ true → is_held s1 now c x.value ≡ true
  leaf_held c t = is_held-grown h.extends before now v h.made.changed.grows c x.value (held_before c (sym (here c) ∙ t))

  -- none of its configurations has an answer yet
  unanswered : (c : List Bool) → s1.test x.condition c ≡ true → is_some (value_at s0 (take i receivers.leaves) c) ≡ false
  unanswered c t = ap is_some (next.before.none c (sym (here c) ∙ t))

  pub leaf_apart : {s2 : Sets I} → IsLawful s0 → Extends s1 s2 → none.scope ≡ s0.never → AreDisjoint s2 answers.scope x.condition
  leaf_apart {s2 = s2} lawful e n = record {
    apart = λ c t.
        let answered : (s0.test none.scope c || is_some (value_at s0 (take i receivers.leaves) c)) ≡ true = sym (e.test answers.scope c (cond_known answer_cmp s1 answers h.made.is_cond).0 ∙ h.made.scope c) ∙ t in
        let some : is_some (value_at s0 (take i receivers.leaves) c) ≡ true = ap (λ b. b || is_some (value_at s0 (take i receivers.leaves) c)) (sym (ap (λ j. s0.test j c) n ∙ lawful.never_test c)) ∙ answered in
        e.test x.condition c leaf_known ∙ outside c some (s1.test x.condition c) refl;
  }
    where
      outside : (c : List Bool) → is_some (value_at s0 (take i receivers.leaves) c) ≡ true → (b : Bool) → s1.test x.condition c ≡ b → b ≡ false
      outside c some true t =
          let f = unanswered c t in
          cc (some, f)
      outside c some false t = refl

  -- it was cloned
  pub IsCloning-step : {s2 s3 : Sets I} → Extends s1 s2 → Extends s2 s3 → (after : HeapView S I) (a : Answer) (made : Conditional Answer S I) → IsMadeInside (clones_made p s1 now (λ _. x.value)) s1 s2 now after x.condition a → IsCondOf answer_cmp s3 (value_under s2 x.condition a (cond_at s2 answers)) made → IsCloning p s0 s3 before after receivers (i + 1) none made
  IsCloning-step {s2 = s2} {s3 = s3} e f after a made inside m = record {
    extends = Extends-trans h.extends (Extends-trans e f);
    made = AreMade-then (clones_made p s0 before (slot_at s0 receivers)) (clones_made p s1 now (λ _. x.value)) (Extends-trans e f) before now after
        (λ c. is_some (value_at s0 (take i receivers.leaves) c)) (s1.test x.condition) (λ c. is_some (value_at s0 (take (i + 1) receivers.leaves) c))
        none answers made unanswered agree union h.made
        (AreMade-one (clones_made p s1 now (λ _. x.value)) e f now after x.condition answers made a h.made.is_cond leaf_known inside m);
  }
    where
      agree : (c : List Bool) → s1.test x.condition c ≡ true → clones_made p s1 now (λ _. x.value) c ≡ clones_made p s0 before (slot_at s0 receivers) c
      agree c t =
          let objects : objects_at s1 now c ≡ objects_at s0 before c = ap (λ (g : Globals). g.objects) (h.made.changed.outside c (unanswered c t)) in
          let there = sym (here c) ∙ t in
          let value : value_of s1 now c x.value ≡ value_of s0 before c (slot_at s0 receivers c) = value_of-grown h.extends before now v h.made.changed.grows c x.value (held_before c there) ∙ ap (value_of s0 before c) (sym (ap or_top (value_is c there))) in
          λ j. clone_made p (objects j) (value j)

      cases : (b : Bool) (o : Option Slot) → is_some (if b then Some x.value else o) ≡ (is_some o || b)
      cases true None = refl
      cases true (Some y) = refl
      cases false None = refl
      cases false (Some y) = refl

      union : (c : List Bool) → is_some (value_at s0 (take (i + 1) receivers.leaves) c) ≡ (is_some (value_at s0 (take i receivers.leaves) c) || s1.test x.condition c)
      union c =
          ap is_some (next.more c)
          ∙ cases (s0.test x.condition c) (value_at s0 (take i receivers.leaves) c)
          ∙ ap (λ b. is_some (value_at s0 (take i receivers.leaves) c) || b) (sym (here c))

-- after the last leaf
pub IsCloning-end : {S I : Type 0} (p : Program) {s0 s1 : Sets I} → IsLawful s0 → IsLawful s1 → (before now : HeapView S I) (receivers : Conditional Slot S I) (i : ℕ) (none answers : Conditional Answer S I) → IsCond slot_cmp s0 receivers → none.scope ≡ s0.never → length receivers.leaves ≤ i → IsCloning p s0 s1 before now receivers i none answers → AreAllMade (clones_made p s0 before (slot_at s0 receivers)) s0 s1 before now receivers.scope answers
IsCloning-end p {s0 = s0} {s1 = s1} l0 l1 before now receivers i none answers w n l h =
    let P : (List Bool → Bool) → Type 0 = λ set. AreMade (clones_made p s0 before (slot_at s0 receivers)) s0 s1 before now set none answers in
    AreMade-all (clones_made p s0 before (slot_at s0 receivers)) l0 l1 h.extends before now receivers.scope none answers (cond_known slot_cmp s0 receivers w).0 n (subst P (λ j c. same c j) h.made)
  where
    same : (c : List Bool) → is_some (value_at s0 (take i receivers.leaves) c) ≡ s0.test receivers.scope c
    same c = ap (λ ys. is_some (value_at s0 ys c)) (take_all i receivers.leaves l) ∙ cond_at-covers slot_cmp s0 receivers w c
