-- The one attribute of a kind, among those that are read.
use Rattle.std.proofs.Common.{◌≡◌, ℕ, zero, suc, List, [], ◌∷◌, length, Bool, true, false, Option, Some, None, Ok, filter, ◌⊎◌, inl, inr, refl, sym, ap, subst, arith}
use Rattle.std.proofs.lemmas.List.Concat.{flat_map-cons}
use Rattle.std.specs.List.{flat_map, AllByRecursion}
use Rattle.vx_pool.specs.Place.{Place, IsBytes}
use Rattle.vx_pool.specs.Reading.{Read, steps}
use Rattle.vx_pool.specs.Took.{bind_ok, Took, Took-then}
use Rattle.vx_class.specs.Spelling.{Attribute, attribute_bytes, One, IsOneAmong}
use Rattle.vx_class.proofs.Took.{at_end}

-- what a clause says of the one attribute, by its parts
pub one_first : {B : Type 0} (H K : B → List ℕ → Type 0) (attributes : List Attribute) (found : Option B) → One (λ b c. H b c × K b c) attributes found → One H attributes found
one_first H K [] None h = tt
one_first H K [] (Some b) h = h
one_first H K (a ∷ []) None h = h
one_first H K (a ∷ []) (Some b) h = h.0
one_first H K (a ∷ c ∷ others) None h = h
one_first H K (a ∷ c ∷ others) (Some b) h = h

pub one_second : {B : Type 0} (H : B → List ℕ → Type 0) (P : B → Type 0) (attributes : List Attribute) (b : B) → One (λ b c. H b c × P b) attributes (Some b) → P b
one_second H P [] b h = absurd h
one_second H P (a ∷ []) b h = h.1
one_second H P (a ∷ c ∷ others) b h = absurd h

abbrev pub Steps : {B : Type 0} → (Attribute → Bool) → (B → List ℕ → Type 0) → Option B → Attribute → Option B → Type 0
Steps {B} mine Holds found a next =
    ((mine a ≡ true) × (found ≡ None) × (b : B) × (next ≡ Some b) × Holds b a.content) ⊎ ((mine a ≡ false) × (next ≡ found))

-- after one was found there is no other
abbrev pub From : {B : Type 0} → (Attribute → Bool) → (B → List ℕ → Type 0) → Option B → List Attribute → Option B → Type 0
From mine Holds None attributes last = IsOneAmong mine Holds attributes last
From mine Holds (Some b) attributes last = (filter mine attributes ≡ []) × (last ≡ Some b)

after_mine : {B : Type 0} (mine : Attribute → Bool) (Holds : B → List ℕ → Type 0) (b : B) (a : Attribute) (others : List Attribute) (last : Option B)
    → mine a ≡ true → Holds b a.content → From mine Holds (Some b) others last → IsOneAmong mine Holds (a ∷ others) last
after_mine mine Holds b a others last m h from = rw (m, from.0, from.1) h

after_other : {B : Type 0} (mine : Attribute → Bool) (Holds : B → List ℕ → Type 0) (found : Option B) (a : Attribute) (others : List Attribute) (last : Option B)
    → mine a ≡ false → From mine Holds found others last → From mine Holds found (a ∷ others) last
after_other mine Holds None a others last m from = rw m from
after_other mine Holds (Some b) a others last m from = (rw m from.0, from.1)

pub among_took : {B : Type 0} (Named : Attribute → Type 0) (mine : Attribute → Bool) (Holds : B → List ℕ → Type 0) (step : Option B → Place → Read (Option B))
    → ((found next : Option B) (s t : Place) → IsBytes s.rest → step found s ≡ Ok (next, t) → (a : Attribute) × Took s (attribute_bytes a) t × Named a × Steps mine Holds found a next)
    → (n : ℕ) (found last : Option B) (s t : Place) → IsBytes s.rest → steps step found n s ≡ Ok (last, t)
    → (attributes : List Attribute) × Took s (flat_map attribute_bytes attributes) t × (length attributes ≡ n) × From mine Holds found attributes last × AllByRecursion Named attributes
unfolding steps
among_took {B = B} Named mine Holds step took zero found last s t fits e = (
  [],
  at_end (λ (w : Option B) z. Took s [] z) found last s t e (record { parts = refl; at = omega arith; rest_fits = fits }),
  refl,
  at_end (λ (w : Option B) z. From mine Holds found [] w) found last s t e (begins found),
  tt,
)
  where
    begins : (f : Option B) → From mine Holds f [] f
    begins None = tt
    begins (Some b) = (refl, refl)
among_took {B = B} Named mine Holds step took (suc n) found last s t fits e =
    let first = bind_ok (step found s) (λ y. steps step y.0 n y.1) (last, t) e in
    let one = took found first.0.0 s first.0.1 fits first.1 in
    let others = among_took Named mine Holds step took n first.0.0 last first.0.1 t one.1.rest_fits first.2 in (
      one.0 ∷ others.0,
      rw flat_map-cons (Took-then s first.0.1 t (attribute_bytes one.0) (flat_map attribute_bytes others.0) one.1 others.1),
      ap suc others.2,
      follows first.0.0 one.0 others.0 one.3 others.3,
      (one.2, others.4),
    )
  where
    follows : (next : Option B) (a : Attribute) (rest : List Attribute) → Steps mine Holds found a next → From mine Holds next rest last → From mine Holds found (a ∷ rest) last
    follows next a rest (inl p) from =
        subst (λ (f : Option B). From mine Holds f (a ∷ rest) last) (sym p.1)
        (after_mine mine Holds p.2 a rest last p.0 p.4 (subst (λ (f : Option B). From mine Holds f rest last) p.3 from))
    follows next a rest (inr p) from = after_other mine Holds found a rest last p.0 (subst (λ (f : Option B). From mine Holds f rest last) p.1 from)
