-- The superclasses of a class, and the first of them that another class has above it.
use Rattle.std.proofs.Common.{Bool, List, None, Option, Some, [], ap, arith, false, inl, inr, refl, subst, suc, sym, true, zero, ℕ, ◌≤◌, ◌∷◌, ◌≡◌}
use Rattle.std.proofs.lemmas.Bool.Decides.{Decides-eqb}
use Rattle.std.specs.Prelude.{cond, find, nat_eq}
use Rattle.vx_link.specs.Hierarchy.{chain_within, is_among, superclass_of, superclasses}
use Rattle.vx_link.specs.Parts.{class_count}
use Rattle.vx_link.specs.declared.program.Program.{Program}
use Rattle.vx_types.proofs.Tests.{either, not_both, or_first, or_second}

-- what passes a test, and is found, is among these
pub found_passes : (test : ℕ → Bool) (xs : List ℕ) (a : ℕ) → find test xs ≡ Some a → (is_among a xs ≡ true) × (test a ≡ true)
found_passes test [] a e = absurd cc
found_passes test (x ∷ xs) a e = by (λ k. found_passes test xs a k) (test x) refl e
  where
    by : (find test xs ≡ Some a → (is_among a xs ≡ true) × (test a ≡ true)) → (b : Bool) → test x ≡ b → cond b (Some x) (find test xs) ≡ Some a
        → (is_among a (x ∷ xs) ≡ true) × (test a ≡ true)
    by others true t e =
        let same : x ≡ a = cc in
        (or_first (nat_eq a x) (is_among a xs) ((Decides-eqb a x).1 (sym same)), subst (λ n. test n ≡ true) same t)
    by others false t e = let later = others e in (or_second (nat_eq a x) (is_among a xs) later.0, later.1)

-- where none is found, none passes
pub none_passes : (test : ℕ → Bool) (xs : List ℕ) (g : ℕ) → find test xs ≡ None → is_among g xs ≡ true → test g ≡ false
none_passes test [] g e among = absurd cc
none_passes test (x ∷ xs) g e among = by (λ k l. none_passes test xs g k l) (test x) refl e
  where
    by : (◌≡◌ {A = Option ℕ} (find test xs) None → is_among g xs ≡ true → test g ≡ false) → (b : Bool) → test x ≡ b → ◌≡◌ {A = Option ℕ} (cond b (Some x) (find test xs)) None
        → test g ≡ false
    by others true t e = absurd cc
    by others false t e = elim (either (nat_eq g x) (is_among g xs) among) [
      | inl same ↦ subst (λ n. test n ≡ false) (sym ((Decides-eqb g x).0 same)) t
      | inr later ↦ others e later
    ]

-- what does not pass is not found
pub found_later : (test : ℕ → Bool) (x : ℕ) (xs : List ℕ) → test x ≡ false → find test (x ∷ xs) ≡ find test xs
found_later test x xs h = ap (λ b. cond b (Some x) (find test xs)) h

-- a longer chain has all that a shorter one has
pub chain_more : (p : Program) (m n : ℕ) (o : Option ℕ) (g : ℕ) → m ≤ n → is_among g (chain_within p m o) ≡ true → is_among g (chain_within p n o) ≡ true
chain_more p zero n o g l h = absurd cc
chain_more p (suc m) zero o g l h = absurd (omega arith)
chain_more p (suc m) (suc n) None g l h = absurd cc
chain_more p (suc m) (suc n) (Some c) g l h = elim (either (nat_eq g c) (is_among g (chain_within p m (superclass_of p c))) h) [
  | inl same ↦ or_first (nat_eq g c) (is_among g (chain_within p n (superclass_of p c))) same
  | inr later ↦ or_second (nat_eq g c) (is_among g (chain_within p n (superclass_of p c))) (chain_more p m n (superclass_of p c) g (omega arith) later)
]

-- what passes a test and is in a chain is the first such, or above it
pub first_below : (p : Program) (test : ℕ → Bool) (n : ℕ) (o : Option ℕ) (a g : ℕ) → n ≤ class_count p → find test (chain_within p n o) ≡ Some a
    → is_among g (chain_within p n o) ≡ true → test g ≡ true → is_among g (superclasses p a) ≡ true
first_below p test zero o a g l e among passes = absurd cc
first_below p test (suc n) None a g l e among passes = absurd cc
first_below p test (suc n) (Some c) a g l e among passes = by (λ k m. first_below p test n (superclass_of p c) a g (omega (arith, l)) k m passes) (test c) refl e
  where
    by : (find test (chain_within p n (superclass_of p c)) ≡ Some a → is_among g (chain_within p n (superclass_of p c)) ≡ true → is_among g (superclasses p a) ≡ true)
        → (b : Bool) → test c ≡ b → cond b (Some c) (find test (chain_within p n (superclass_of p c))) ≡ Some a → is_among g (superclasses p a) ≡ true
    by others true t e =
        let same : c ≡ a = cc in
        subst (λ d. is_among g (superclasses p d) ≡ true) same (chain_more p (suc n) (class_count p) (Some c) g l among)
    by others false t e = elim (either (nat_eq g c) (is_among g (chain_within p n (superclass_of p c))) among) [
      | inl same ↦ not_both (test c) (subst (λ d. test d ≡ true) ((Decides-eqb g c).0 same) passes) t
      | inr later ↦ others e later
    ]
