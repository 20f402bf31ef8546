-- The cells of arrays by their lengths, counted up to a greatest number.
use Rattle.std.proofs.Common.{◌≡◌, ℕ, ℤ, zero, suc, ◌+◌, ◌-◌, ◌*◌, ◌<◌, ◌≤◌, Bool, List, [], ◌∷◌, ◌||◌, refl, sym, ◌∙◌, ap, arith, drop, length, map, min, nat_lt, get_or}
use Rattle.std.proofs.Math.Logic.{⊎_elim}
use Rattle.std.proofs.Math.Nat.{suc-mul, zero-min, zero-mul}
use Rattle.std.proofs.Math.Seq.{drop-cons}
use Rattle.std.proofs.lemmas.Bool.{cases_lt, lt-ltb}
use Rattle.std.proofs.lemmas.List.{drop_all}
use Rattle.std.specs.List.{list_any}
use Rattle.vx_java.specs.Arrays.{grid_cells}
use Rattle.vx_java.specs.Machine.{length_bound}
use Rattle.vx_value.specs.Arithmetic.{natural}

-- a product that is counted up to a number
min-mul : (n t m : ℕ) → min (n * min t m) m ≡ min (n * t) m
min-mul zero t m = ap (λ k. min k m) (zero-mul (min t m) ∙ sym (zero-mul t))
min-mul (suc n) t m =
    let first : suc n * m ≡ n * m + m = suc-mul n m in
    let second : suc n * t ≡ n * t + t = suc-mul n t in
    ⊎_elim
    (λ (more : m < t).
    let all : min t m ≡ m = omega (arith, more) in
    ap (λ k. min (suc n * k) m) all ∙ omega (arith, first, second, more))
    (λ (few : t ≤ m).
    let all : min t m ≡ t = omega (arith, few) in
    ap (λ k. min (suc n * k) m) all)
    (cases_lt m t)

counted : (n t m : ℕ) → min (n + min (n * min t m) m) m ≡ min (n + n * t) m
counted n t m = ap (λ k. min (n + k) m) (min-mul n t m) ∙ omega arith

-- what the loop over the lengths has made of those behind a place
pub none_yet : (xs : List ℤ) (n m : ℕ) → n ≡ length xs → 0 ≡ min (grid_cells (map natural (drop (n - 0) xs))) m
none_yet xs n m count =
    let none : drop (n - 0) xs ≡ [] = drop_all (n - 0) xs (omega (arith, count)) in
    sym (ap (λ ys. min (grid_cells (map natural ys)) m) none ∙ zero-min m)

pub one_more : (xs : List ℤ) (n i y total next m : ℕ) (d : ℤ) → n ≡ length xs → i < n → y ≡ natural (get_or xs (n - 1 - i) d) → total ≡ min (grid_cells (map natural (drop (n - i) xs))) m → next ≡ min (y + min (y * total) m) m → next ≡ min (grid_cells (map natural (drop (n - (i + 1)) xs))) m
one_more xs n i y total next m d count inside is before made =
    let j = n - 1 - i in
    let here : n - (i + 1) ≡ j = omega arith in
    let behind : n - i ≡ suc j = omega (arith, inside) in
    let split = drop-cons xs j d (omega (arith, count, inside)) in
    let rest = grid_cells (map natural (drop (suc j) xs)) in
    made
    ∙ ap (λ t. min (y + min (y * t) m) m) (before ∙ ap (λ k. min (grid_cells (map natural (drop k xs))) m) behind)
    ∙ counted y rest m
    ∙ ap (λ k. min (k + k * rest) m) is
    ∙ ap (λ ys. min (grid_cells (map natural ys)) m) (sym split)
    ∙ ap (λ k. min (grid_cells (map natural (drop k xs))) m) (sym here)

below_min : (b x m : ℕ) → b < m → nat_lt b (min x m) ≡ nat_lt b x
below_min b x m h =
    ⊎_elim
    (λ (more : m < x).
    let all : min x m ≡ m = omega (arith, more) in
    ap (nat_lt b) all ∙ lt-ltb b m h ∙ sym (lt-ltb b x (omega (arith, more, h))))
    (λ (few : x ≤ m).
    let all : min x m ≡ x = omega (arith, few) in
    ap (nat_lt b) all)
    (cases_lt m x)

pub all_counted : (xs : List ℤ) (n i total m : ℕ) → n ≤ i → length_bound < m → total ≡ min (grid_cells (map natural (drop (n - i) xs))) m → nat_lt length_bound total ≡ nat_lt length_bound (grid_cells (map natural xs))
all_counted xs n i total m done above made =
    let none : n - i ≡ 0 = omega (arith, done) in
    ap (nat_lt length_bound) (made ∙ ap (λ k. min (grid_cells (map natural (drop k xs))) m) none) ∙ below_min length_bound (grid_cells (map natural xs)) m above

-- a test of what is made of the items
pub any_map : (f : ℤ → ℕ) (test : ℕ → Bool) (xs : List ℤ) → list_any (λ x. test (f x)) xs ≡ list_any test (map f xs)
any_map f test [] = refl
any_map f test (x ∷ xs) = ap (λ b. test (f x) || b) (any_map f test xs)
