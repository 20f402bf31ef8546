-- All configurations of so many options: each list of just so many values is one of them, each nonempty set holds one, and sums over them.
use Rattle.std.proofs.Common.{◌≡◌, ◌≢◌, ℕ, zero, suc, ◌<◌, ◌≤◌, Bool, true, false, List, [], ◌∷◌, length, map, refl, sym, subst, ap, ◌∙◌, arith}
use Rattle.std.proofs.Math.ListN.{get_or-map}
use Rattle.std.proofs.lemmas.List.{length-map}
use Rattle.std.proofs.lemmas.List.Elements.{Contains-append_left, Contains-append_right}
use Rattle.std.proofs.lemmas.List.Sums.{sum-map, sum_by-cons, sum_by-le-sum_by}
use Rattle.std.specs.Prelude.{Contains, slice_index_or, sum}
use Rattle.std.specs.List.{sum_by}
use Rattle.vx_space.proofs.Differences.{some_difference, firsts, value_of-firsts}
use Rattle.vx_space.specs.Mask.{tail_of}
use Rattle.vx_space.specs.Config.{value_of}
use Rattle.vx_space.specs.Sets.{IsLawful, Sets}
use Rattle.vx_standing.specs.State.{configurations}

-- ---- elements of lists

pub Contains-here : {A : Type 0} (x : A) (xs : List A) → Contains (x ∷ xs) x
Contains-here x xs = (0, omega arith, refl)

pub Contains-next : {A : Type 0} (y : A) (xs : List A) (x : A) → Contains xs x → Contains (y ∷ xs) x
Contains-next y xs x h = let within = h.1 in (suc h.0, omega arith, h.2)

Contains-map : {A B : Type 0} (f : A → B) (xs : List A) (x : A) → Contains xs x → Contains (map f xs) (f x)
Contains-map f xs x h = let within = h.1 in (h.0, rw length-map within, get_or-map f xs h.0 x ∙ ap f h.2)

-- ---- configurations of just so many options

of_length : (c : List Bool) → Contains (configurations (length c)) c
of_length [] = Contains-here [] []
of_length (false ∷ c) =
    let rest = configurations (length c) in
    Contains-append_left (map (λ d. false ∷ d) rest) (map (λ d. true ∷ d) rest) (false ∷ c) (Contains-map (λ d. false ∷ d) rest c (of_length c))
of_length (true ∷ c) =
    let rest = configurations (length c) in
    Contains-append_right (map (λ d. false ∷ d) rest) (map (λ d. true ∷ d) rest) (true ∷ c) (Contains-map (λ d. true ∷ d) rest c (of_length c))

-- each list of just so many values is one of them
pub Contains-configurations : (n : ℕ) (c : List Bool) → length c ≡ n → Contains (configurations n) c
Contains-configurations n c e = subst (λ m. Contains (configurations m) c) e (of_length c)

-- ---- nonempty sets

length-firsts : (n : ℕ) (c : List Bool) → length (firsts n c) ≡ n
length-firsts zero c = refl
length-firsts (suc n) c = ap suc (length-firsts n (tail_of c))

-- a configuration of just the options of a space
pub record IsIn {I : Type 0} (sets : Sets I) (id : I) : Type 0 where
  pub config : List Bool
  pub whole : length config ≡ sets.options
  pub holds : sets.test id config ≡ true

-- a nonempty set holds one
pub member_of : {I : Type 0} {sets : Sets I} → IsLawful sets → (id : I) → sets.is_known id ≡ true → id ≢ sets.never → IsIn sets id
member_of {sets = sets} lawful id known some =
    let d = some_difference lawful id sets.never known lawful.never_known some in
    record {
      config = firsts sets.options d.0;
      whole = length-firsts sets.options d.0;
      holds = lawful.options_alone id (firsts sets.options d.0) d.0 known (value_of-firsts sets.options d.0) ∙ not_false (sets.test id d.0) (λ e. d.1 (e ∙ sym (lawful.never_test d.0)));
    }
  where
    not_false : (b : Bool) → b ≢ false → b ≡ true
    not_false true h = refl
    not_false false h = absurd (h refl)

-- ---- sums

sum_by_falls : {A : Type 0} (f g : A → ℕ) → ((x : A) → f x ≤ g x) → (xs : List A) (k : ℕ) (x : A) → k < length xs → slice_index_or xs k x ≡ x → f x < g x → sum_by f xs < sum_by g xs
sum_by_falls f g all [] k x l e h = absurd (omega (arith, l))
sum_by_falls f g all (y ∷ xs) zero x l e h =
    let rest = sum_by-le-sum_by f g xs all in
    let less : f y < g y = rw e h in
    rw (sum_by-cons f y xs, sum_by-cons g y xs) (omega (arith, rest, less))
sum_by_falls f g all (y ∷ xs) (suc k) x l e h =
    let rest = sum_by_falls f g all xs k x (omega (arith, l)) e h in
    let first = all y in
    rw (sum_by-cons f y xs, sum_by-cons g y xs) (omega (arith, rest, first))

-- a sum falls where a term falls and none rises
pub sum_falls : {A : Type 0} (f g : A → ℕ) → ((x : A) → f x ≤ g x) → (xs : List A) (x : A) → Contains xs x → f x < g x → sum (map f xs) < sum (map g xs)
sum_falls f g all xs x h less = rw (sum-map f xs, sum-map g xs) (sum_by_falls f g all xs h.0 x h.1 h.2 less)
