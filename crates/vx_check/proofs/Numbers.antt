-- A number of settings is 0 just where no configuration is among them.
use Rattle.std.proofs.Common.{◌≡◌, ℕ, ◌+◌, zero, suc, Bool, true, false, List, [], ◌∷◌, length, refl, sym, ap, ◌∙◌, arith}
use Rattle.std.specs.Prelude.{nat_eq, filter, if◌then◌else◌}
use Rattle.std.proofs.lemmas.Bool.Decides.{nat_tests}
use Rattle.vx_report.specs.declared.report.Report.{Report}
use Rattle.vx_count.specs.Settings.{number}
use Rattle.vx_count.proofs.Halves.{number-suc}
use Rattle.vx_check.specs.Failing.{NoneFails, SomeFails, failing, fails}
use Rattle.vx_check.specs.declared.expected.Expectation.{Expectation}

-- the one setting of no options
number_one : (test : List Bool → Bool) → number 0 test ≡ (if test [] then 1 else 0)
number_one test = by (test []) refl
  where
    by : (t : Bool) → test [] ≡ t → number 0 test ≡ (if t then 1 else 0)
    by true e = rw e refl
    by false e = rw e refl

zero_of : (options : ℕ) (test : List Bool → Bool) → number options test ≡ 0 → (c : List Bool) → length c ≡ options → test c ≡ false
zero_of zero test e [] l = by (test []) (sym (number_one test) ∙ e)
  where
    by : (t : Bool) → (if t then suc zero else zero) ≡ zero → t ≡ false
    by true e = absurd (omega (arith, e))
    by false e = refl
zero_of zero test e (v ∷ c) l = absurd (omega (arith, l))
zero_of (suc n) test e [] l = absurd (omega (arith, l))
zero_of (suc n) test e (false ∷ c) l =
    let off : number n (λ d. test (false ∷ d)) ≡ 0 = omega (arith, e, number-suc n test) in
    zero_of n (λ d. test (false ∷ d)) off c (omega (arith, l))
zero_of (suc n) test e (true ∷ c) l =
    let on : number n (λ d. test (true ∷ d)) ≡ 0 = omega (arith, e, number-suc n test) in
    zero_of n (λ d. test (true ∷ d)) on c (omega (arith, l))

pub none_of : (options : ℕ) (test : List Bool → Bool) → nat_eq (number options test) 0 ≡ true → (c : List Bool) → length c ≡ options → test c ≡ false
none_of options test e c l = zero_of options test zero_there c l
  where
    zero_there : number options test ≡ 0
    zero_there = grind (arith, nat_tests, e)

-- a configuration with a value for each of so many options passes a test
abbrev pub IsSome : ℕ → (List Bool → Bool) → Type 0
IsSome options test = (c : List Bool) × (length c ≡ options) × (test c ≡ true)

pub some_of : (options : ℕ) (test : List Bool → Bool) → nat_eq (number options test) 0 ≡ false → IsSome options test
some_of zero test e = by (test []) refl (sym (ap (λ n. nat_eq n 0) (number_one test)) ∙ e)
  where
    by : (t : Bool) → test [] ≡ t → nat_eq (if t then 1 else 0) 0 ≡ false → IsSome 0 test
    by true is e = ([], refl, is)
    by false is e = cc (e)
some_of (suc n) test e = by (nat_eq (number n (λ d. test (false ∷ d))) 0) refl (some_of n (λ d. test (false ∷ d))) (some_of n (λ d. test (true ∷ d)))
  where
    by : (t : Bool) → nat_eq (number n (λ d. test (false ∷ d))) 0 ≡ t → (nat_eq (number n (λ d. test (false ∷ d))) 0 ≡ false → IsSome n (λ d. test (false ∷ d))) → (nat_eq (number n (λ d. test (true ∷ d))) 0 ≡ false → IsSome n (λ d. test (true ∷ d))) → IsSome (suc n) test
    by false is off on = let found = off is in (false ∷ found.0, ap suc found.1, found.2)
    by true is off on =
        let some : nat_eq (number n (λ d. test (true ∷ d))) 0 ≡ false = grind (arith, nat_tests, is, e, number-suc n test) in
        let found = on some in
        (true ∷ found.0, ap suc found.1, found.2)

pub no_failing : (r : Report) (expected : List Expectation) → nat_eq (failing r expected) 0 ≡ true → NoneFails r expected
no_failing r expected e c l = none_of (length r.options) (fails r expected) e c l

pub some_failing : (r : Report) (expected : List Expectation) → nat_eq (failing r expected) 0 ≡ false → SomeFails r expected
some_failing r expected e = some_of (length r.options) (fails r expected) e
