-- Checking items one after the other, as a loop does.
use Rattle.std.proofs.Common.{◌≡◌, ℕ, suc, ◌+◌, ◌≤◌, ◌<◌, List, ◌∷◌, length, get_or, drop, sum_by, Result, Ok, Err, refl, sym, ap, ◌∙◌, add-one, drop-cons, arith}
use Rattle.std.proofs.lemmas.List.{drop_all}
use Rattle.std.proofs.lemmas.List.Sums.{sum_by-cons}
use Rattle.vx_pool.specs.declared.fault.ClassFault.{ClassFault}
use Rattle.vx_pool.specs.declared.fault.ClassFault.TheVariants as fault
use Rattle.vx_pool.specs.Reading.{Fault, Fails}
use Rattle.vx_pool.specs.Checks.{each}

pub item_first : {A : Type 0} (xs : List A) (i : ℕ) (x : A) → i < length xs → x ≡ get_or xs i x → drop i xs ≡ x ∷ drop (i + 1) xs
item_first xs i x lt is = rw add-one (drop-cons xs i x lt ∙ ap (λ y. y ∷ drop (suc i) xs) (sym is))

pub value_first : {A : Type 0} (xs : List A) (i : ℕ) (d : A) → i < length xs → drop i xs ≡ get_or xs i d ∷ drop (i + 1) xs
value_first xs i d lt = rw add-one (drop-cons xs i d lt)

pub each-goes_on : {A : Type 0} (test : A → ℕ → Result (Unit {0}) Fault) (size : A → ℕ) (xs : List A) (i at : ℕ) (x : A) (total : Result (Unit {0}) Fault) → drop i xs ≡ x ∷ drop (i + 1) xs → test x at ≡ Ok tt
    → each test size (drop i xs) at ≡ total → each test size (drop (i + 1) xs) (at + size x) ≡ total
unfolding each
each-goes_on test size xs i at x total d passes so_far =
    let one : each test size (drop i xs) at ≡ each test size (drop (i + 1) xs) (at + size x) = rw (d, passes) refl in
    sym one ∙ so_far

pub each-ends : {A : Type 0} (f : ClassFault) (test : A → ℕ → Result (Unit {0}) Fault) (size : A → ℕ) (xs : List A) (i at : ℕ) (x : A) (total : Result (Unit {0}) Fault) → drop i xs ≡ x ∷ drop (i + 1) xs → Fails f (test x at)
    → each test size (drop i xs) at ≡ total → Fails f total
unfolding each
each-ends fault.NoMemory test size xs i at x total d fails so_far = tt
each-ends (fault.Bad place reason) test size xs i at x total d fails so_far =
    let one : each test size (drop i xs) at ≡ Err (record { at = place; reason = reason }) = rw (d, fails) refl in
    sym so_far ∙ one

pub each-all : {A : Type 0} (test : A → ℕ → Result (Unit {0}) Fault) (size : A → ℕ) (xs : List A) (i at : ℕ) (total : Result (Unit {0}) Fault) → length xs ≤ i
    → each test size (drop i xs) at ≡ total → total ≡ Ok tt
unfolding each
each-all test size xs i at total le so_far =
    let one : each test size (drop i xs) at ≡ Ok tt = rw (drop_all i xs le) refl in
    sym so_far ∙ one

pub sum_on : {A : Type 0} (size : A → ℕ) (xs : List A) (i at start : ℕ) (x : A) → i < length xs → x ≡ get_or xs i x → at + sum_by size (drop i xs) ≡ start + sum_by size xs
    → at + size x + sum_by size (drop (i + 1) xs) ≡ start + sum_by size xs
sum_on size xs i at start x lt is so_far =
    let d = ap (sum_by size) (item_first xs i x lt is) in
    let step = sum_by-cons size x (drop (i + 1) xs) in
    omega (arith, d, step, so_far)
