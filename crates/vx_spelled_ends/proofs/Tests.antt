-- Tests of texts, of numbers and of lists.
use Rattle.std.proofs.Common.{Bool, List, [], arith, refl, true, ℕ, ◌&&◌, ◌++◌, ◌∙◌, ◌∷◌, ◌≡◌}
use Rattle.std.proofs.lemmas.Bool.Decides.{nat_tests}
use Rattle.std.proofs.lemmas.List.Folds.{list_all-append}
use Rattle.std.specs.Cmp.Derive.{both_true}
use Rattle.std.specs.List.{list_all}
use Rattle.std.specs.Prelude.{nat_le, ◌==◌}
use Rattle.vx_pool.specs.Holding.{and_true}
use Rattle.vx_named_classes.specs.Named.{is_given}

pub same_test : (i j : ℕ) → i ≡ j → (i == j) ≡ true
same_test i j e = grind (arith, nat_tests)

pub tests_same : (i j : ℕ) → (i == j) ≡ true → i ≡ j
tests_same i j e = grind (arith, nat_tests)

-- one of the first four kinds is one of the eight
pub few_kinds : (word : ℕ) → (nat_le 1 word && nat_le word 4) ≡ true → (nat_le 1 word && nat_le word 8) ≡ true
few_kinds word e =
    let parts = and_true (nat_le 1 word) (nat_le word 4) e in
    let first = parts.0 in
    rw (first, wider word parts.1) refl
  where
    wider : (w : ℕ) → nat_le w 4 ≡ true → nat_le w 8 ≡ true
    wider w h = grind (arith, nat_tests)

-- ---- texts

pub given_behind : (xs ys : List ℕ) → is_given ys ≡ true → is_given (xs ++ ys) ≡ true
given_behind [] ys e = e
given_behind (x ∷ xs) ys e = refl

-- ---- lists

pub all_append : {A : Type 0} (test : A → Bool) (xs ys : List A) → list_all test xs ≡ true → list_all test ys ≡ true → list_all test (xs ++ ys) ≡ true
all_append test xs ys e f = list_all-append test xs ys ∙ both_true e f
