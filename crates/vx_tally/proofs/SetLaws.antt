-- Sets with one option off, and with it on.
use Rattle.std.proofs.Common.{◌≡◌, ◌≢◌, ◌⊎◌, ℕ, ◌+◌, ◌<◌, ◌≤◌, Bool, true, false, List, refl, sym, ◌∙◌, ap, subst, arith, inl, inr}
use Rattle.std.proofs.lemmas.Bool.{cases_eq}
use Rattle.vx_space.specs.Config.{value_of, with_option}
use Rattle.vx_space.specs.Under.{IsFree}
use Rattle.vx_space.specs.Sets.{Sets, IsLawful, IsTop}
use Rattle.vx_space.proofs.Configs.{value_of-same, value_of-other}
use Rattle.vx_space.proofs.Differences.{some_difference}
use Rattle.vx_bdd_tools.specs.Steps.{IsFreeBelow}
use Rattle.vx_bdd_tools.proofs.Walks.{part_here}
use Rattle.vx_bdd_tools.proofs.NumberingSteps.{IsFreeBelow-low, IsFreeBelow-high, first_at_most}
use Rattle.vx_tally.specs.Parts.{IsHalf, IsLeastOfBoth}

-- never and always depend on no option
pub free-never : {I : Type 0} {sets : Sets I} → IsLawful sets → (id : I) (i : ℕ) → id ≡ sets.never → IsFreeBelow sets id i
free-never {sets = sets} lawful id i e = record { free = λ j l c. ap (λ x. sets.test x (with_option c j true)) e ∙ lawful.never_test (with_option c j true) ∙ sym (ap (λ x. sets.test x (with_option c j false)) e ∙ lawful.never_test (with_option c j false)) }

pub free-always : {I : Type 0} {sets : Sets I} → IsLawful sets → (id : I) (i : ℕ) → id ≡ sets.always → IsFreeBelow sets id i
free-always {sets = sets} lawful id i e = record { free = λ j l c. ap (λ x. sets.test x (with_option c j true)) e ∙ lawful.always_test (with_option c j true) ∙ sym (ap (λ x. sets.test x (with_option c j false)) e ∙ lawful.always_test (with_option c j false)) }

pub free-end : {I : Type 0} {sets : Sets I} → IsLawful sets → (id : I) (i : ℕ) → (id ≡ sets.never) ⊎ (id ≡ sets.always) → IsFreeBelow sets id i
free-end lawful id i (inl e) = free-never lawful id i e
free-end lawful id i (inr e) = free-always lawful id i e

pub free-top : {I : Type 0} {sets : Sets I} (id low high : I) (i : ℕ) → IsTop sets id i low high → IsFreeBelow sets id i
free-top id low high i t = record { free = t.least.free_below }

pub free-less : {I : Type 0} {sets : Sets I} (id : I) (j i : ℕ) → j ≤ i → IsFreeBelow sets id i → IsFreeBelow sets id j
free-less id j i l f = record { free = λ k m. f.free k (omega (arith, m, l)) }

-- a set stays whatever an option is on which it doesn't depend
pub test-free : {I : Type 0} {sets : Sets I} → IsLawful sets → (id : I) → sets.is_known id ≡ true → (i : ℕ) (value : Bool) (c : List Bool) → IsFree (sets.test id) i → sets.test id (with_option c i value) ≡ sets.test id c
test-free {sets = sets} lawful id known i value c free = both value (value_of c i) refl
  where
    same : (b : Bool) → value_of c i ≡ b → sets.test id (with_option c i b) ≡ sets.test id c
    same b e = lawful.options_alone id (with_option c i b) c known (λ j l. elim (cases_eq i j) [
      | inl q ↦ ap (value_of (with_option c i b)) (sym q) ∙ value_of-same c i b ∙ sym e ∙ ap (value_of c) q
      | inr n ↦ value_of-other c i j b n
    ])

    both : (v b : Bool) → value_of c i ≡ b → sets.test id (with_option c i v) ≡ sets.test id c
    both true true e = same true e
    both false false e = same false e
    both true false e = free c ∙ same false e
    both false true e = sym (free c) ∙ same true e

-- the halves by the least option, and of a set that doesn't depend on the option
pub half-low : {I : Type 0} {sets : Sets I} → IsLawful sets → (id low high : I) (i option : ℕ) → sets.is_known id ≡ true → IsTop sets id i low high → i ≡ option → IsHalf sets id option false low
half-low {sets = sets} lawful id low high i option k t e =
    let P : ℕ → Type 0 = λ x. IsHalf sets id x false low in
    subst P e (record {
      known = t.off.known;
      free = IsFreeBelow-low lawful id low high i k t;
      test = λ c e. part_here lawful id low i false k t.off c e;
    })

pub half-high : {I : Type 0} {sets : Sets I} → IsLawful sets → (id low high : I) (i option : ℕ) → sets.is_known id ≡ true → IsTop sets id i low high → i ≡ option → IsHalf sets id option true high
half-high {sets = sets} lawful id low high i option k t e =
    let P : ℕ → Type 0 = λ x. IsHalf sets id x true high in
    subst P e (record {
      known = t.on.known;
      free = IsFreeBelow-high lawful id low high i k t;
      test = λ c e. part_here lawful id high i true k t.on c e;
    })

pub half-same : {I : Type 0} {sets : Sets I} (id : I) (i : ℕ) (value : Bool) → sets.is_known id ≡ true → IsFreeBelow sets id (i + 1) → IsHalf sets id i value id
half-same id i value k f = record { known = k; free = f; test = λ c e. refl }

-- a set whose least option is another one doesn't depend on one that isn't after it
pub free-next : {I : Type 0} {sets : Sets I} (id low high : I) (least i : ℕ) → IsFreeBelow sets id i → IsTop sets id least low high → least ≢ i → IsFreeBelow sets id (i + 1)
free-next id low high least i f t n =
    let m = first_at_most id low high i least f t in
    free-less id (i + 1) least (omega (arith, m, n)) (free-top id low high least t)

-- a half stays whatever the option is
pub half-free : {I : Type 0} {sets : Sets I} → IsLawful sets → (id half : I) (i : ℕ) (value : Bool) (v : Bool) (c : List Bool) → IsHalf sets id i value half → sets.test half (with_option c i v) ≡ sets.test half c
half-free lawful id half i value v c h = test-free lawful half h.known i v c (h.free.free i (omega arith))

-- a configuration of the half is one of the set, with the option at its value
pub half-in : {I : Type 0} {sets : Sets I} → IsLawful sets → (id half : I) (i : ℕ) (value : Bool) (c : List Bool) → IsHalf sets id i value half → sets.test half c ≡ true → sets.test id (with_option c i value) ≡ true
half-in lawful id half i value c h t = h.test (with_option c i value) (value_of-same c i value) ∙ half-free lawful id half i value value c h ∙ t

-- a set that isn't never has a configuration
pub some_in : {I : Type 0} {sets : Sets I} → IsLawful sets → (id : I) → sets.is_known id ≡ true → id ≢ sets.never → (c : List Bool) × (sets.test id c ≡ true)
some_in {sets = sets} lawful id k n =
    let d = some_difference lawful id sets.never k lawful.never_known n in
    (d.0, yes (sets.test id d.0) (sets.test sets.never d.0) (lawful.never_test d.0) d.1)
  where
    yes : (a b : Bool) → b ≡ false → a ≢ b → a ≡ true
    yes true b e m = refl
    yes false b e m = absurd (m (sym e))

-- nothing is in never
pub none_in : {I : Type 0} {sets : Sets I} → IsLawful sets → (id : I) (c : List Bool) → id ≡ sets.never → sets.test id c ≡ false
none_in {sets = sets} lawful id c e = ap (λ x. sets.test x c) e ∙ lawful.never_test c

pub all_in : {I : Type 0} {sets : Sets I} → IsLawful sets → (id : I) (c : List Bool) → id ≡ sets.always → sets.test id c ≡ true
all_in {sets = sets} lawful id c e = ap (λ x. sets.test x c) e ∙ lawful.always_test c
