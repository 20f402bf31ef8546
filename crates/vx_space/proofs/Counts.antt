-- The number of the sets that a space knows.
use Rattle.std.proofs.Common.{◌≡◌, ◌⊎◌, ℕ, ◌<◌, Bool, true, List, [], ◌∷◌, length, map, refl, sym, ◌∙◌, ap, subst, arith, zero, suc, inl, inr}
use Rattle.std.specs.Prelude.{Contains, slice_index_or}
use Rattle.std.proofs.lemmas.List.{length-map}
use Rattle.vx_space.specs.Under.{Under, AreDifferent, IsNumberUnder}
use Rattle.vx_space.specs.Sets.{Sets, IsLawful, IsJustUnder, AreDistinct}

-- an element of a list is its first or a later one
first_or_later : {A : Type 0} (x y : A) (xs : List A) → Contains (x ∷ xs) y → (x ≡ y) ⊎ Contains xs y
first_or_later {A = A} x y xs p = at p.0 p.1 p.2
  where
    at : (k : ℕ) → k < length (x ∷ xs) → slice_index_or (x ∷ xs) k y ≡ y → (x ≡ y) ⊎ Contains xs y
    at zero l e = inl e
    at (suc k) l e = inr (k, omega (arith, l), e)

later : {A : Type 0} (x y : A) (xs : List A) → Contains xs y → Contains (x ∷ xs) y
later x y xs p = (suc p.0, omega (arith, p.1), p.2)

-- elements of a mapped list
to_map : {A B : Type 0} (f : A → B) (xs : List A) (x : A) → Contains xs x → Contains (map f xs) (f x)
to_map f [] x p = absurd (omega (arith, p.1))
to_map f (y ∷ xs) x p = elim (first_or_later y x xs p) [
  | inl e ↦ (0, omega arith, ap f e)
  | inr q ↦ later (f y) (f x) (map f xs) (to_map f xs x q)
]

from_map : {A B : Type 0} (f : A → B) (xs : List A) (y : B) → Contains (map f xs) y → (x : A) × Contains xs x × (f x ≡ y)
from_map f [] y p = absurd (omega (arith, p.1))
from_map f (x ∷ xs) y p = elim (first_or_later (f x) y (map f xs) p) [
  | inl e ↦ (x, (0, omega arith, refl), e)
  | inr q ↦
      let rest = from_map f xs y q in
      (rest.0, later x rest.0 xs rest.1, rest.2)
]

-- the sets of different known ids are different
different : {I : Type 0} {sets : Sets I} → IsLawful sets → (ids : List I) → AreDistinct ids → ((id : I) → Contains ids id → sets.is_known id ≡ true) → AreDifferent (map sets.test ids)
different lawful [] d k = tt
different {sets = sets} lawful (id ∷ ids) d k = (
  λ other p same.
      let there = from_map sets.test ids other p in
      let equal : id ≡ there.0 = lawful.equal_sets id there.0 (k id (0, omega arith, refl)) (k there.0 (later id there.0 ids there.1)) (λ c. same c ∙ sym (ap (λ f. f c) there.2)) in
      d.0 (subst (Contains ids) (sym equal) there.1),
  different lawful ids d.1 (λ x p. k x (later id x ids p)),
)

-- a space that counts its sets and knows just those under some roots counts them
pub IsNumberUnder-count : {I : Type 0} {sets : Sets I} → IsLawful sets → (roots : List (List Bool → Bool)) → sets.counts ≡ true → IsJustUnder sets roots → IsNumberUnder roots sets.count
IsNumberUnder-count {I = I} {sets = sets} lawful roots counts h =
    let n = lawful.counted counts in
    record {
      sets = map sets.test n.ids;
      number = length-map n.ids sets.test ∙ n.number;
      different = different lawful n.ids n.distinct n.known;
      under = λ set p.
          let there = from_map sets.test n.ids set p in
          subst (Under roots) there.2 (h.sound there.0 (n.known there.0 there.1));
      all = λ set u.
          let there = h.complete set u in
          (sets.test there.0, to_map sets.test n.ids there.0 (n.all there.0 there.1.known), λ c. sym (there.1.test c));
    }
