-- A class has a number above that of its superclass: how many classes are above it. No class is above itself, so these are fewer than all classes.
use Rattle.std.proofs.Common.{Bool, List, None, Option, Some, [], ap, arith, false, inl, inr, length, refl, slice_get, subst, suc, sym, true, zero, ℕ, ◌<◌, ◌≤◌, ◌∙◌, ◌∷◌, ◌≡◌, ◌||◌}
use Rattle.std.proofs.lemmas.Bool.Decides.{Decides-eqb}
use Rattle.std.proofs.lemmas.Map.Steps.{length-le_from_distinct_below}
use Rattle.std.proofs.lemmas.Option.{slice_get_within}
use Rattle.std.specs.List.{AllByRecursion, IsDistinct, list_any}
use Rattle.std.specs.Prelude.{nat_eq}
use Rattle.vx_class.specs.declared.class_file.ClassFile.{ClassFile}
use Rattle.vx_link.specs.Hierarchy.{chain_within, is_among, superclass_of}
use Rattle.vx_link.specs.Parts.{class_count}
use Rattle.vx_link.specs.declared.program.Program.{Program}
use Rattle.vx_sound_classes.proofs.Linked.{IsOf, count_is, no_superclass, root_is, up}
use Rattle.vx_types.proofs.Tests.{either}
use Rattle.vx_types.specs.Ranked.{HasRanks}

-- ---- a walk up

-- what holds of each superclass holds of each class above one
pub walk : (p : Program) (P : ℕ → Type 0) → ((k d : ℕ) → superclass_of p k ≡ Some d → P d) → (n c a : ℕ) → is_among a (chain_within p n (superclass_of p c)) ≡ true → P a
walk p P step zero c a h = cc
walk p P step (suc n) c a h = by (superclass_of p c) refl h (λ d more. walk p P step n d a more)
  where
    by : (o : Option ℕ) → superclass_of p c ≡ o → is_among a (chain_within p (suc n) o) ≡ true → ((d : ℕ) → is_among a (chain_within p n (superclass_of p d)) ≡ true → P a) → P a
    by None e h later = cc
    by (Some d) e h later = elim (either (nat_eq a d) (is_among a (chain_within p n (superclass_of p d))) h) [
      | inl same ↦ subst P (sym ((Decides-eqb a d).0 same)) (step c d e)
      | inr more ↦ later d more
    ]

-- ---- chains

pub no_chain : (p : Program) (n : ℕ) → chain_within p n None ≡ []
no_chain p zero = refl
no_chain p (suc n) = refl

-- a chain that is no longer than some number ends there
whole : (p : Program) (n : ℕ) (o : Option ℕ) → length (chain_within p (suc n) o) ≤ n → chain_within p (suc n) o ≡ chain_within p n o
whole p n None few = sym (no_chain p n)
whole p zero (Some c) few = absurd (omega (arith, few))
whole p (suc n) (Some c) few = ap (λ cs. c ∷ cs) (whole p n (superclass_of p c) (omega (arith, few)))

or_none : (a b : Bool) → (a || b) ≡ false → (a ≡ false) × (b ≡ false)
or_none true b h = cc
or_none false b h = (refl, h)

none_among : (x : ℕ) (ys : List ℕ) → is_among x ys ≡ false → AllByRecursion (λ y. nat_eq x y ≡ false) ys
none_among x [] h = tt
none_among x (y ∷ ys) h = let parts = or_none (nat_eq x y) (is_among x ys) h in (parts.0, none_among x ys parts.1)

-- no class is above itself, in as many steps as there are classes
abbrev pub AreApart : Program → Type 0
AreApart p = (k n : ℕ) → n ≤ class_count p → is_among k (chain_within p n (superclass_of p k)) ≡ false

distinct : (p : Program) → AreApart p → (n : ℕ) → n ≤ suc (class_count p) → (o : Option ℕ) → IsDistinct nat_eq (chain_within p n o)
unfolding IsDistinct
distinct p apart zero few o = tt
distinct p apart (suc n) few None = tt
distinct p apart (suc n) few (Some c) =
    (none_among c (chain_within p n (superclass_of p c)) (apart c n (omega (arith, few))), distinct p apart n (omega (arith, few)) (superclass_of p c))

-- ---- ranks

-- how many classes are above one
abbrev pub rank : Program → ℕ → ℕ
rank p c = length (chain_within p (class_count p) (superclass_of p c))

pub above_within : (p : Program) (all : List ClassFile) → IsOf p all → (k d : ℕ) → superclass_of p k ≡ Some d → d < class_count p
above_within p all of k d is =
    let u = up p all of k d is in
    let counted = count_is p all of in
    let less = slice_get_within all d u.above u.there in
    omega (arith, counted, less)

-- a class with all that are above it are no more than all classes
few_above : (p : Program) (all : List ClassFile) → IsOf p all → AreApart p → (c : ℕ) → c < class_count p → length (chain_within p (suc (class_count p)) (Some c)) ≤ class_count p
few_above p all of apart c less =
    length-le_from_distinct_below (chain_within p (suc (class_count p)) (Some c)) (class_count p) (distinct p apart (suc (class_count p)) (omega arith) (Some c)) below
  where
    below : (q : ℕ) → list_any (nat_eq q) (chain_within p (suc (class_count p)) (Some c)) ≡ true → q < class_count p
    below q h = elim (either (nat_eq q c) (is_among q (chain_within p (class_count p) (superclass_of p c))) h) [
      | inl same ↦ subst (λ (k : ℕ). k < class_count p) (sym ((Decides-eqb q c).0 same)) less
      | inr more ↦ walk p (λ k. k < class_count p) (above_within p all of) (class_count p) c q more
    ]

falls : (p : Program) (all : List ClassFile) → IsOf p all → AreApart p → (c d : ℕ) → superclass_of p c ≡ Some d → rank p d < rank p c
falls p all of apart c d is = by (class_count p) refl
  where
    less : d < class_count p
    less = above_within p all of c d is

    few : length (chain_within p (suc (class_count p)) (Some d)) ≤ class_count p
    few = few_above p all of apart d less

    by : (n : ℕ) → class_count p ≡ n → length (chain_within p n (superclass_of p d)) < length (chain_within p n (superclass_of p c))
    by zero e = absurd (omega (arith, less, e))
    by (suc n) e =
        let short : length (chain_within p (suc n) (superclass_of p d)) ≤ n =
        (let k : suc (length (chain_within p (suc n) (superclass_of p d))) ≤ suc n = subst (λ (m : ℕ). suc (length (chain_within p m (superclass_of p d))) ≤ m) e few in omega (arith, k)) in
        let here : length (chain_within p (suc n) (superclass_of p c)) ≡ suc (length (chain_within p n (superclass_of p d))) = ap (λ o. length (chain_within p (suc n) o)) is in
        let there : length (chain_within p (suc n) (superclass_of p d)) ≡ length (chain_within p n (superclass_of p d)) = ap length (whole p n (superclass_of p d) short) in
        omega (arith, here, there)

few_of : (p : Program) (all : List ClassFile) → IsOf p all → AreApart p → (c : ℕ) → rank p c < class_count p
few_of p all of apart c = by (superclass_of p c) refl
  where
    some : 0 < class_count p
    some = let counted = count_is p all of in let root = (root_is p all of).within in omega (arith, counted, root)

    by : (o : Option ℕ) → superclass_of p c ≡ o → rank p c < class_count p
    by None e =
        let none : rank p c ≡ 0 = ap (λ o. length (chain_within p (class_count p) o)) e ∙ ap length (no_chain p (class_count p)) in
        omega (arith, none, some)
    by (Some d) e = by_file (slice_get all c) refl
      where
        by_file : (o : Option ClassFile) → slice_get all c ≡ o → rank p c < class_count p
        by_file None at = cc (sym e ∙ no_superclass p all of c at)
        by_file (Some file) at =
            let counted = count_is p all of in
            let inside = slice_get_within all c file at in
            let few = few_above p all of apart c (omega (arith, counted, inside)) in
            omega (arith, few)

pub ranks : (p : Program) (all : List ClassFile) → IsOf p all → AreApart p → HasRanks p
ranks p all of apart = record {
  rank = rank p;
  falls = falls p all of apart;
  few = few_of p all of apart;
  root = (root_is p all of).top;
}
