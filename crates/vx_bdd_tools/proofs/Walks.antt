-- Going down from a set by its least option.
use Rattle.std.proofs.Common.{◌≡◌, ◌≢◌, ◌⊎◌, ℕ, ◌+◌, ◌<◌, ◌≤◌, Bool, true, false, List, [], ◌∷◌, refl, sym, ◌∙◌, ap, arith, zero, suc, inl, inr, length, set}
use Rattle.std.proofs.lemmas.Bool.{cases_eq}
use Rattle.std.proofs.lemmas.List.{length-set}
use Rattle.vx_space.specs.Config.{value_of, with_option, AgreeBelow}
use Rattle.vx_space.specs.Under.{IsFree, fixed}
use Rattle.vx_space.specs.Sets.{Sets, IsSet, IsLawful, IsTop}
use Rattle.vx_space.proofs.Configs.{value_of-same, value_of-other}
use Rattle.vx_bdd_tools.specs.Members.{IsMember, IsChosen}

-- the set of `at` is that of `id` in each configuration with these first k values, and depends on none of these options
pub record IsDescent {I : Type 0} (sets : Sets I) (id at : I) (k : ℕ) (values : List Bool) : Type 0 where
  pub known : sets.is_known at ≡ true
  pub nonempty : at ≢ sets.never
  pub free : (j : ℕ) → j < k → IsFree (sets.test at) j
  pub same : (c : List Bool) → AgreeBelow k c values → sets.test id c ≡ sets.test at c
  pub number : length values ≡ sets.options

pub IsDescent-start : {I : Type 0} (sets : Sets I) (id : I) (values : List Bool) → sets.is_known id ≡ true → id ≢ sets.never → length values ≡ sets.options → IsDescent sets id id 0 values
IsDescent-start sets id values k n e = record { known = k; nonempty = n; free = λ j l. absurd (omega (arith, l)); same = λ c h. refl; number = e }

-- the least option isn't among those
pub least_later : {I : Type 0} (sets : Sets I) (id at low high : I) (k i : ℕ) (values : List Bool) → IsDescent sets id at k values → IsTop sets at i low high → k ≤ i
least_later sets id at low high k i values d t = cases (order i k)
  where
    order : (a b : ℕ) → (a < b) ⊎ (b ≤ a)
    order zero zero = inr (omega arith)
    order zero (suc b) = inl (omega arith)
    order (suc a) zero = inr (omega arith)
    order (suc a) (suc b) = ⊎_map (order a b)
      where
        ⊎_map : (a < b) ⊎ (b ≤ a) → (suc a < suc b) ⊎ (suc b ≤ suc a)
        ⊎_map (inl l) = inl (omega (arith, l))
        ⊎_map (inr l) = inr (omega (arith, l))

    cases : (i < k) ⊎ (k ≤ i) → k ≤ i
    cases (inl l) = absurd (t.least.depends.1 (d.free i l t.least.depends.0))
    cases (inr l) = l

-- a part, in a configuration that takes it
pub part_here : {I : Type 0} {sets : Sets I} → IsLawful sets → (at part : I) (i : ℕ) (b : Bool) → sets.is_known at ≡ true → IsSet sets part (fixed (sets.test at) i b) → (c : List Bool) → value_of c i ≡ b → sets.test at c ≡ sets.test part c
part_here lawful at part i b k s c e = sym (s.test c ∙ lawful.options_alone at (with_option c i b) c k (λ j l. elim (cases_eq i j) [
  | inl q ↦ ap (value_of (with_option c i b)) (sym q) ∙ value_of-same c i b ∙ sym e ∙ ap (value_of c) q
  | inr n ↦ value_of-other c i j b n
]))

-- the order in which two options are set doesn't matter
pub swap_values : (c : List Bool) (i j m : ℕ) (b v : Bool) → j ≢ i → value_of (with_option (with_option c j v) i b) m ≡ value_of (with_option (with_option c i b) j v) m
swap_values c i j m b v n = cases (cases_eq i m) (cases_eq j m)
  where
    cases : (i ≡ m) ⊎ (i ≢ m) → (j ≡ m) ⊎ (j ≢ m) → value_of (with_option (with_option c j v) i b) m ≡ value_of (with_option (with_option c i b) j v) m
    cases (inl e) (inl f) = absurd (n (f ∙ sym e))
    cases (inl e) (inr f) = ap (value_of (with_option (with_option c j v) i b)) (sym e) ∙ value_of-same (with_option c j v) i b ∙ sym (value_of-same c i b) ∙ ap (value_of (with_option c i b)) e ∙ sym (value_of-other (with_option c i b) j m v f)
    cases (inr e) (inl f) = value_of-other (with_option c j v) i m b e ∙ ap (value_of (with_option c j v)) (sym f) ∙ value_of-same c j v ∙ sym (value_of-same (with_option c i b) j v) ∙ ap (value_of (with_option (with_option c i b) j v)) f
    cases (inr e) (inr f) = value_of-other (with_option c j v) i m b e ∙ value_of-other c j m v f ∙ sym (value_of-other c i m b e) ∙ sym (value_of-other (with_option c i b) j m v f)

-- a part depends neither on the option that is fixed nor on those on which the whole doesn't
pub part_free : {I : Type 0} {sets : Sets I} → IsLawful sets → (at part : I) (i : ℕ) (b : Bool) → sets.is_known at ≡ true → IsSet sets part (fixed (sets.test at) i b) → ((j : ℕ) → j < i → IsFree (sets.test at) j) → (j : ℕ) → j < i + 1 → IsFree (sets.test part) j
part_free {sets = sets} lawful at part i b k s f j l c = elim (cases_eq j i) [
  | inl q ↦ s.test (with_option c j true) ∙ lawful.options_alone at (with_option (with_option c j true) i b) (with_option (with_option c j false) i b) k (λ m n. twice m (cases_eq i m) q) ∙ sym (s.test (with_option c j false))
  | inr n ↦
      let less : j < i = omega (arith, l, n) in
      s.test (with_option c j true) ∙ swap n true ∙ f j less (with_option c i b) ∙ sym (swap n false) ∙ sym (s.test (with_option c j false))
]
  where
    twice : (m : ℕ) → (i ≡ m) ⊎ (i ≢ m) → j ≡ i → value_of (with_option (with_option c j true) i b) m ≡ value_of (with_option (with_option c j false) i b) m
    twice m (inl e) q = ap (value_of (with_option (with_option c j true) i b)) (sym e) ∙ value_of-same (with_option c j true) i b ∙ sym (value_of-same (with_option c j false) i b) ∙ ap (value_of (with_option (with_option c j false) i b)) e
    twice m (inr n) q =
        let other : j ≢ m = λ e. n (sym q ∙ e) in
        value_of-other (with_option c j true) i m b n ∙ value_of-other c j m true other ∙ sym (value_of-other c j m false other) ∙ sym (value_of-other (with_option c j false) i m b n)

    swap : j ≢ i → (v : Bool) → sets.test at (with_option (with_option c j v) i b) ≡ sets.test at (with_option (with_option c i b) j v)
    swap n v = lawful.options_alone at (with_option (with_option c j v) i b) (with_option (with_option c i b) j v) k (λ m _. swap_values c i j m b v n)

-- the values read as a list that is written
value_of-set_same : (values : List Bool) (i : ℕ) (b : Bool) → i < length values → value_of (set values i b) i ≡ b
value_of-set_same [] i b l = absurd (omega (arith, l))
value_of-set_same (v ∷ values) zero b l = refl
value_of-set_same (v ∷ values) (suc i) b l = value_of-set_same values i b (omega (arith, l))

value_of-set_other : (values : List Bool) (i j : ℕ) (b : Bool) → i ≢ j → value_of (set values i b) j ≡ value_of values j
value_of-set_other [] i j b n = refl
value_of-set_other (v ∷ values) zero zero b n = absurd (n refl)
value_of-set_other (v ∷ values) zero (suc j) b n = refl
value_of-set_other (v ∷ values) (suc i) zero b n = refl
value_of-set_other (v ∷ values) (suc i) (suc j) b n = value_of-set_other values i j b (λ e. n (ap suc e))

-- one option further down
pub IsDescent-step : {I : Type 0} {sets : Sets I} → IsLawful sets → (id at part low high : I) (k i : ℕ) (b : Bool) (values : List Bool) → IsDescent sets id at k values → IsTop sets at i low high → IsSet sets part (fixed (sets.test at) i b) → part ≢ sets.never → IsDescent sets id part (i + 1) (set values i b)
IsDescent-step {sets = sets} lawful id at part low high k i b values d t s n =
    let later = least_later sets id at low high k i values d t in
    record {
      known = s.known;
      nonempty = n;
      free = part_free lawful at part i b d.known s t.least.free_below;
      same = λ c h.
          d.same c (λ j l. h j (omega (arith, l, later)) ∙ value_of-set_other values i j b (omega (arith, l, later)))
          ∙ part_here lawful at part i b d.known s c (h i (omega arith) ∙ value_of-set_same values i b (omega (arith, t.in_range, d.number)));
      number = length-set values i b ∙ d.number;
    }

pub IsDescent-end : {I : Type 0} {sets : Sets I} → IsLawful sets → (id at : I) (k : ℕ) (values : List Bool) → IsDescent sets id at k values → (at ≡ sets.never) ⊎ (at ≡ sets.always) → IsMember sets id values
IsDescent-end {sets = sets} lawful id at k values d (inl e) = absurd (d.nonempty e)
IsDescent-end {sets = sets} lawful id at k values d (inr e) = record {
  member = d.same values (λ j l. refl) ∙ ap (λ x. sets.test x values) e ∙ lawful.always_test values;
  values = d.number;
}

-- where the part without the option is never, the other isn't
pub other_part : {I : Type 0} {sets : Sets I} → IsLawful sets → (id at low high : I) (k i : ℕ) (values : List Bool) → IsDescent sets id at k values → IsTop sets at i low high → low ≡ sets.never → high ≢ sets.never
other_part {sets = sets} lawful id at low high k i values d t e f =
    let none : (c : List Bool) → sets.test at c ≡ false = λ c. by_value c (value_of c i) refl in
    d.nonempty (lawful.equal_sets at sets.never d.known lawful.never_known (λ c. none c ∙ sym (lawful.never_test c)))
  where
    by_value : (c : List Bool) (b : Bool) → value_of c i ≡ b → sets.test at c ≡ false
    by_value c true v = part_here lawful at high i true d.known t.on c v ∙ ap (λ x. sets.test x c) f ∙ lawful.never_test c
    by_value c false v = part_here lawful at low i false d.known t.off c v ∙ ap (λ x. sets.test x c) e ∙ lawful.never_test c

pub IsDescent-chosen : {I : Type 0} {sets : Sets I} → IsLawful sets → (id at part low high : I) (k i : ℕ) (on : Bool) (values : List Bool) → IsDescent sets id at k values → IsTop sets at i low high → IsChosen sets low high part on → IsDescent sets id part (i + 1) (set values i on)
IsDescent-chosen {sets = sets} lawful id at part low high k i true values d t c = rw c.1 (IsDescent-step lawful id at high low high k i true values d t t.on (other_part lawful id at low high k i values d t c.0))
IsDescent-chosen {sets = sets} lawful id at part low high k i false values d t c = rw c.1 (IsDescent-step lawful id at low low high k i false values d t t.off c.0)
