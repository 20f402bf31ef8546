-- Object is above each class, and interfaces stand where they may.
use Rattle.std.proofs.Common.{Bool, List, None, Option, Some, [], ap, arith, false, inl, inr, length, refl, slice_get, subst, suc, sym, true, zero, ℕ, ◌<◌, ◌⊎◌, ◌∙◌, ◌∷◌, ◌≡◌}
use Rattle.std.proofs.lemmas.Bool.Decides.{Decides-eqb}
use Rattle.std.proofs.lemmas.List.Folds.{list_any-append}
use Rattle.std.specs.List.{flat_map, list_all, list_any}
use Rattle.std.specs.Prelude.{nat_eq, not}
use Rattle.vx_class.specs.declared.class_file.ClassFile.{ClassFile}
use Rattle.vx_pool.specs.Holding.{and_true}
use Rattle.vx_link.specs.ClassNames.{class_of_name, object_class}
use Rattle.vx_link.specs.Faults.{is_interface_file, name_of}
use Rattle.vx_link.specs.Hierarchy.{chain_within, interfaces_below, interfaces_of, interfaces_within, is_among, superclass_of, superclasses, superinterfaces}
use Rattle.vx_link.specs.Parts.{class_at, class_count, is_interface}
use Rattle.vx_link.specs.declared.program.Program.{Program}
use Rattle.vx_sound.specs.Sound.{HasHierarchy}
use Rattle.vx_sound_classes.proofs.Linked.{IsOf, class_is, count_is, interface_is, interfaces_are, object_is, place_is, root_is, top, up}
use Rattle.vx_sound_classes.proofs.Ranks.{AreApart, above_within, no_chain, ranks, walk}
use Rattle.vx_types.proofs.Ranks.{ranks_are_ranked}
use Rattle.vx_types.proofs.Tests.{either, or_first, or_second}
use Rattle.vx_types.specs.Ranked.{HasRanks, IsRanked}

-- ---- a class that is there

file_at : (all : List ClassFile) (k : ℕ) → k < length all → (c : ClassFile) × (slice_get all k ≡ Some c)
file_at [] k less = absurd (omega (arith, less))
file_at (c ∷ all) zero less = (c, refl)
file_at (c ∷ all) (suc k) less = file_at all k (omega (arith, less))

pub file_of : (p : Program) (all : List ClassFile) → IsOf p all → (k : ℕ) → k < class_count p → (c : ClassFile) × (slice_get all k ≡ Some c)
file_of p all of k less = let counted = count_is p all of in file_at all k (omega (arith, counted, less))

-- what stands above a class by a step is above it
pub further : (p : Program) (c d a : ℕ) → superclass_of p c ≡ Some d → 1 < class_count p → IsRanked p → is_among a (superclasses p d) ≡ true → is_among a (superclasses p c) ≡ true
further p c d a is more ranked h = ranked.through c d a (by (class_count p) more) h
  where
    by : (n : ℕ) → 1 < n → is_among d (chain_within p n (Some c)) ≡ true
    by zero more = absurd (omega (arith, more))
    by (suc zero) more = absurd (omega (arith, more))
    by (suc (suc n)) more =
        or_second (nat_eq d c) (is_among d (chain_within p (suc n) (superclass_of p c)))
        (ap (λ o. is_among d (chain_within p (suc n) o)) is ∙ or_first (nat_eq d d) (is_among d (chain_within p n (superclass_of p d))) ((Decides-eqb d d).1 refl))

-- Object is above a class, by its rank
object_above : (p : Program) (all : List ClassFile) → IsOf p all → (has : HasRanks p) → IsRanked p → (most c : ℕ) → has.rank c < most → c < class_count p
    → is_among (object_class p) (superclasses p c) ≡ true
object_above p all of has ranked zero c low less = absurd (omega (arith, low))
object_above p all of has ranked (suc most) c low less =
    by (superclass_of p c) refl (λ d low less. object_above p all of has ranked most d low less)
  where
    by : (o : Option ℕ) → superclass_of p c ≡ o → ((d : ℕ) → has.rank d < most → d < class_count p → is_among (object_class p) (superclasses p d) ≡ true)
        → is_among (object_class p) (superclasses p c) ≡ true
    by None e later =
        let file = file_of p all of c less in
        let same : object_class p ≡ c = object_is p all of c file.0 file.1 (top p all of c file.0 file.1 e) in
        subst (λ k. is_among (object_class p) (superclasses p k) ≡ true) same (ranked.itself (object_class p))
    by (Some d) e later =
        let fall = has.falls c d e in
        let few = has.few c in
        further p c d (object_class p) e (omega (arith, fall, few)) ranked (later d (omega (arith, fall, low)) (above_within p all of c d e))

-- ---- superclasses

-- what is above a class is it, or above its superclass
above : (p : Program) (c d : ℕ) → is_among d (superclasses p c) ≡ true → (d ≡ c) ⊎ ((n : ℕ) × (is_among d (chain_within p n (superclass_of p c)) ≡ true))
above p c d h = by (class_count p) h
  where
    by : (n : ℕ) → is_among d (chain_within p n (Some c)) ≡ true → (d ≡ c) ⊎ ((n : ℕ) × (is_among d (chain_within p n (superclass_of p c)) ≡ true))
    by zero h = cc
    by (suc n) h = elim (either (nat_eq d c) (is_among d (chain_within p n (superclass_of p c))) h) [
      | inl same ↦ inl ((Decides-eqb d c).0 same)
      | inr more ↦ inr (n, more)
    ]

not_true : (b : Bool) → not b ≡ true → b ≡ false
not_true true h = cc
not_true false h = refl

plain_above : (p : Program) (all : List ClassFile) → IsOf p all → (k d : ℕ) → superclass_of p k ≡ Some d → is_interface p d ≡ false
plain_above p all of k d is =
    let u = up p all of k d is in
    interface_is p all of d u.above u.there ∙ not_true (is_interface_file u.above) u.plain

no_item : true ≡ false → ⊥
no_item h = cc

-- what is above an interface is Object
root_above : (p : Program) (all : List ClassFile) → IsOf p all → (c d n : ℕ) → is_interface p c ≡ true → is_among d (chain_within p n (superclass_of p c)) ≡ true → d ≡ object_class p
root_above p all of c d zero interface h = cc
root_above p all of c d (suc n) interface h = by (superclass_of p c) refl h
  where
    by : (o : Option ℕ) → superclass_of p c ≡ o → is_among d (chain_within p (suc n) o) ≡ true → d ≡ object_class p
    by None e h = cc
    by (Some e) is h =
        let u = up p all of c e is in
        let object : object_class p ≡ e = object_is p all of e u.above u.there (u.root (sym (interface_is p all of c u.class u.at) ∙ interface)) in
        let none : chain_within p n (superclass_of p e) ≡ [] =
        ap (λ k. chain_within p n (superclass_of p k)) (sym object) ∙ ap (chain_within p n) (root_is p all of).top ∙ no_chain p n in
        elim (either (nat_eq d e) (is_among d (chain_within p n (superclass_of p e))) h) [
          | inl same ↦ (Decides-eqb d e).0 same ∙ sym object
          | inr more ↦ absurd (no_item (sym more ∙ ap (is_among d) none))
        ]

-- ---- superinterfaces

-- what holds of what each item gives
any_of : {A : Type 0} (test : ℕ → Bool) (f : A → List ℕ) (given : A → Bool) (Q : Type 0) → ((x : A) → given x ≡ true → list_any test (f x) ≡ true → Q) → (xs : List A)
    → list_all given xs ≡ true → list_any test (flat_map f xs) ≡ true → Q
any_of test f given Q law [] all h = cc
any_of test f given Q law (x ∷ xs) all h = elim (either (list_any test (f x)) (list_any test (flat_map f xs)) (sym (list_any-append test (f x) (flat_map f xs)) ∙ h)) [
  | inl here ↦ law x (and_true _ _ all).0 here
  | inr more ↦ any_of test f given Q law xs (and_true _ _ all).1 more
]

all_true : (xs : List ℕ) → list_all (λ x. true) xs ≡ true
all_true [] = refl
all_true (x ∷ xs) = all_true xs

interfaces_within_are : (p : Program) (all : List ClassFile) → IsOf p all → (n c i : ℕ) → is_among i (interfaces_within p n c) ≡ true → is_interface p i ≡ true
interfaces_within_are p all of zero c i h = cc
interfaces_within_are p all of (suc n) c i h =
    any_of (nat_eq i) (λ j. j ∷ interfaces_within p n j) (is_interface p) (is_interface p i ≡ true)
    (λ j is h. by j is (interfaces_within_are p all of n j i) h)
    (interfaces_of p c)
    (interfaces_are p all of c)
    h
  where
    by : (j : ℕ) → is_interface p j ≡ true → (is_among i (interfaces_within p n j) ≡ true → is_interface p i ≡ true) → is_among i (j ∷ interfaces_within p n j) ≡ true → is_interface p i ≡ true
    by j is later h = elim (either (nat_eq i j) (is_among i (interfaces_within p n j)) h) [
      | inl same ↦ ap (is_interface p) ((Decides-eqb i j).0 same) ∙ is
      | inr more ↦ later more
    ]

superinterfaces_are : (p : Program) (all : List ClassFile) → IsOf p all → (c i : ℕ) → is_among i (superinterfaces p c) ≡ true → is_interface p i ≡ true
superinterfaces_are p all of c i h =
    any_of (nat_eq i) (interfaces_below p) (λ x. true) (is_interface p i ≡ true) (λ d is h. interfaces_within_are p all of (class_count p) d i h) (superclasses p c) (all_true (superclasses p c)) h

-- ---- the whole

pub hierarchy : (p : Program) (all : List ClassFile) → IsOf p all → AreApart p → HasHierarchy p
hierarchy p all of apart =
    record {
      ranked = ranked;
      names = names;
      root = root;
      object = λ c less. object_above p all of has ranked (suc (has.rank c)) c (omega arith) less;
      within = within;
      interfaces = superinterfaces_are p all of;
      classes = classes;
      roots = roots;
    }
  where
    has : HasRanks p
    has = ranks p all of apart

    ranked : IsRanked p
    ranked = ranks_are_ranked p has

    root : object_class p < class_count p
    root = let counted = count_is p all of in let less = (root_is p all of).within in omega (arith, counted, less)

    names : (c : ℕ) → c < class_count p → class_of_name p (class_at p c).name ≡ Some c
    names c less =
        let file = file_of p all of c less in
        let there = class_is p all of c file.0 file.1 in
        ap (λ l. class_of_name p l.name) there.is ∙ place_is p all of (name_of file.0) ∙ of.own c file.0 file.1

    within : (c d : ℕ) → c < class_count p → is_among d (superclasses p c) ≡ true → d < class_count p
    within c d less h = elim (above p c d h) [
      | inl same ↦ subst (λ (k : ℕ). k < class_count p) (sym same) less
      | inr more ↦ walk p (λ k. k < class_count p) (above_within p all of) more.0 c d more.1
    ]

    classes : (c d : ℕ) → is_among d (superclasses p c) ≡ true → ¬ (d ≡ c) → is_interface p d ≡ false
    classes c d h other = elim (above p c d h) [
      | inl same ↦ absurd (other same)
      | inr more ↦ walk p (λ k. is_interface p k ≡ false) (plain_above p all of) more.0 c d more.1
    ]

    roots : (c d : ℕ) → is_interface p c ≡ true → is_among d (superclasses p c) ≡ true → ¬ (d ≡ c) → d ≡ object_class p
    roots c d interface h other = elim (above p c d h) [
      | inl same ↦ absurd (other same)
      | inr more ↦ root_above p all of c d more.0 interface more.1
    ]
