-- A reduced table is a lawful space.
use Rattle.std.specs.Prelude.{◌≡◌, ℕ, ◌+◌, ◌<◌, ◌≤◌, true, List, [], ◌∷◌, Option, Some, None, is_some, count_by, zero, suc, if◌then◌else◌, length, Contains, refl, nat_eq}
use Rattle.std.proofs.Common.{sym, ap, arith, inl, inr, zero-add}
use Rattle.std.proofs.lemmas.List.Sums.{sum_by-cons}
use Rattle.slab.proofs.SlabLemmas.{Contains-cons, Contains-cons_cases}
use Rattle.vx_space.specs.Sets.{IsLawful, AreDistinct}
use Rattle.vx_bdd.specs.declared.node.Node.{Node}
use Rattle.vx_bdd.specs.Diagram.{is_stored, IsReduced}
use Rattle.vx_bdd.specs.Canonical.{canonical, walk-end, walk-options}
use Rattle.vx_bdd.specs.Space.{sets_of, stored_from}

length-stored_from : (id : ℕ) (slots : List (Option Node)) → length (stored_from id slots) ≡ count_by is_some slots
length-stored_from id [] = refl
length-stored_from id (None ∷ rest) = omega (arith, length-stored_from (suc id) rest, sum_by-cons (λ o. if is_some o then 1 else 0) None rest)
length-stored_from id (Some node ∷ rest) = omega (arith, length-stored_from (suc id) rest, sum_by-cons (λ o. if is_some o then 1 else 0) (Some node) rest)

stored_from-later : (id : ℕ) (slots : List (Option Node)) (x : ℕ) → Contains (stored_from id slots) x → id ≤ x
stored_from-later id [] x p = absurd (omega (arith, p.1))
stored_from-later id (None ∷ rest) x p = omega (arith, stored_from-later (suc id) rest x p)
stored_from-later id (Some node ∷ rest) x p = elim (Contains-cons_cases id x (stored_from (suc id) rest) p) [
  | inl e ↦ omega (arith, e)
  | inr q ↦ omega (arith, stored_from-later (suc id) rest x q)
]

stored_from-distinct : (id : ℕ) (slots : List (Option Node)) → AreDistinct (stored_from id slots)
stored_from-distinct id [] = tt
stored_from-distinct id (None ∷ rest) = stored_from-distinct (suc id) rest
stored_from-distinct id (Some node ∷ rest) = (λ p. omega (arith, stored_from-later (suc id) rest id p), stored_from-distinct (suc id) rest)

stored_from-known : (id : ℕ) (slots : List (Option Node)) (x : ℕ) → Contains (stored_from id slots) (id + x) → is_stored slots x ≡ true
stored_from-known id [] x p = absurd (omega (arith, p.1))
stored_from-known id (None ∷ rest) zero p = absurd (omega (arith, stored_from-later (suc id) rest (id + 0) p))
stored_from-known id (Some node ∷ rest) zero p = refl
stored_from-known id (None ∷ rest) (suc x) p =
    let same : id + suc x ≡ suc id + x = omega arith in
    stored_from-known (suc id) rest x (rw same at p)
stored_from-known id (Some node ∷ rest) (suc x) p =
    let same : id + suc x ≡ suc id + x = omega arith in
    elim (Contains-cons_cases id (id + suc x) (stored_from (suc id) rest) p) [
      | inl e ↦ absurd (omega (arith, e))
      | inr q ↦ stored_from-known (suc id) rest x (rw same at q)
    ]

stored_from-all : (id : ℕ) (slots : List (Option Node)) (x : ℕ) → is_stored slots x ≡ true → Contains (stored_from id slots) (id + x)
stored_from-all id [] x s = cc
stored_from-all id (None ∷ rest) zero s = cc
stored_from-all id (Some node ∷ rest) zero s = (0, omega arith, omega arith)
stored_from-all id (None ∷ rest) (suc x) s =
    let same : suc id + x ≡ id + suc x = omega arith in
    rw same at (stored_from-all (suc id) rest x s)
stored_from-all id (Some node ∷ rest) (suc x) s =
    let same : suc id + x ≡ id + suc x = omega arith in
    Contains-cons id (id + suc x) (stored_from (suc id) rest) (rw same at (stored_from-all (suc id) rest x s))

pub lawful_sets : (options : ℕ) (slots : List (Option Node)) (base : ℕ) → options < 65 → IsReduced options slots → IsLawful (sets_of options slots base)
lawful_sets options slots base few r = record {
  at_most_64 = few;
  never_known = r.never;
  never_test = λ c. ap (λ w. nat_eq w 1) (walk-end slots options 0 c refl);
  always_known = r.always;
  always_test = λ c. ap (λ w. nat_eq w 1) (walk-end slots options 1 c refl);
  equal_sets = λ a b s t h. canonical r options a b (omega arith) (omega arith) s t (record { same = h });
  options_alone = λ a c d s h. ap (λ w. nat_eq w 1) (walk-options r options a c d h);
  counted = λ _. record {
    ids = stored_from 0 slots;
    number = length-stored_from 0 slots;
    distinct = stored_from-distinct 0 slots;
    known = λ id p. stored_from-known 0 slots id (rw (sym (zero-add id)) at p);
    all = λ id s. rw (zero-add id) at (stored_from-all 0 slots id s);
  };
}
