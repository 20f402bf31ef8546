-- The rule of some terms is true just where one of them holds.
use Rattle.std.proofs.Common.{◌≡◌, ℕ, ◌≤◌, zero, suc, Bool, true, false, List, [], ◌∷◌, length, map, take, refl, sym, ◌∙◌, ap, arith}
use Rattle.std.specs.Prelude.{None, Option, filter, slice_get, nat_eq, ◌&&◌, ◌||◌, not, if◌then◌else◌}
use Rattle.std.proofs.lemmas.Bool.Decides.{nat_tests}
use Rattle.vx_space.specs.Config.{value_of}
use Rattle.vx_model.specs.Formula.{Formula, formulas}
use Rattle.vx_model.specs.Formula as tree
use Rattle.vx_model.specs.Grammar.{conjunction, disjunction}
use Rattle.vx_model.specs.Truth.{truth, all_true, any_true}
use Rattle.vx_explain.specs.declared.literal.Literal.{Literal}
use Rattle.vx_explain.specs.Rules.{denial, formula_of, literal_holds, literal_rule, only, opposite, rule_holds, rule_of, some_term_holds, term_holds, term_rule}
use Rattle.vx_explain.specs.declared.rule.Rule.{Rule}
use Rattle.vx_explain.specs.declared.rule.Rule.TheVariants.{AnyOf, NoneOf}

literal_true : (l : Literal) (c : List Bool) → truth (literal_rule l) c ≡ literal_holds l c
literal_true l c = by l.on l.option
  where
    by : (b : Bool) (o : ℕ) → truth (if b then tree.Named o else tree.Not (tree.Named o)) c ≡ (if b then value_of c o else not (value_of c o))
    by true o = refl
    by false o = refl

and_true : (b : Bool) → (b && true) ≡ b
and_true true = refl
and_true false = refl

or_false : (b : Bool) → (b || false) ≡ b
or_false true = refl
or_false false = refl

conjunction_true : (fs : List Formula) (c : List Bool) → truth (conjunction fs) c ≡ all_true (formulas fs) c
conjunction_true [] c = refl
conjunction_true (f ∷ []) c = sym (and_true (truth f c))
conjunction_true (f ∷ g ∷ fs) c = refl

disjunction_true : (fs : List Formula) (c : List Bool) → truth (disjunction fs) c ≡ any_true (formulas fs) c
disjunction_true [] c = refl
disjunction_true (f ∷ []) c = sym (or_false (truth f c))
disjunction_true (f ∷ g ∷ fs) c = refl

literals_true : (term : List Literal) (c : List Bool) → all_true (formulas (map literal_rule term)) c ≡ term_holds term c
literals_true [] c = refl
literals_true (l ∷ ls) c = rw (literal_true l c, literals_true ls c) refl

term_true : (term : List Literal) (c : List Bool) → truth (term_rule term) c ≡ term_holds term c
term_true term c = conjunction_true (map literal_rule term) c ∙ literals_true term c

terms_true : (terms : List (List Literal)) (c : List Bool) → any_true (formulas (map term_rule terms)) c ≡ some_term_holds terms c
terms_true [] c = refl
terms_true (t ∷ ts) c = rw (term_true t c, terms_true ts c) refl

rule_true : (terms : List (List Literal)) (c : List Bool) → truth (rule_of terms) c ≡ some_term_holds terms c
rule_true terms c = disjunction_true (map term_rule terms) c ∙ terms_true terms c

pub opposite_holds : (l : Literal) (c : List Bool) → literal_holds (opposite l) c ≡ not (literal_holds l c)
opposite_holds l c = by l.on (value_of c l.option)
  where
    by : (on v : Bool) → (if not on then v else not v) ≡ not (if on then v else not v)
    by true v = refl
    by false true = refl
    by false false = refl

-- the first item, where there is one alone
pub only_is : {A : Type 0} (xs : List A) → only xs ≡ (if nat_eq (length xs) 1 then slice_get xs 0 else None)
only_is [] = refl
only_is (x ∷ []) = refl
only_is (x ∷ y ∷ ys) = rw (more (length ys)) refl
  where
    more : (n : ℕ) → nat_eq (suc (suc n)) 1 ≡ false
    more n = grind (arith, nat_tests)

denial_true : (term : List Literal) (c : List Bool) → truth (denial term) c ≡ not (term_holds term c)
denial_true [] c = refl
denial_true (l ∷ []) c = literal_true (opposite l) c ∙ opposite_holds l c ∙ ap not (sym (and_true (literal_holds l c)))
denial_true (l ∷ m ∷ ls) c = ap not (term_true (l ∷ m ∷ ls) c)

denials_true : (terms : List (List Literal)) (c : List Bool) → all_true (formulas (map denial terms)) c ≡ not (some_term_holds terms c)
denials_true [] c = refl
denials_true (t ∷ ts) c = (λ i. denial_true t c i && denials_true ts c i) ∙ neither (term_holds t c) (some_term_holds ts c)
  where
    neither : (a b : Bool) → (not a && not b) ≡ not (a || b)
    neither true b = refl
    neither false b = refl

-- a rule, as one of a model, is true just where it holds
pub formula_true : (rule : Rule) (c : List Bool) → truth (formula_of rule) c ≡ rule_holds rule c
formula_true (AnyOf terms) c = rule_true terms c
formula_true (NoneOf terms) c = conjunction_true (map denial terms) c ∙ denials_true terms c

-- as many pass a test among the first ones as they are, at most
pub passed_most : {A : Type 0} (test : A → Bool) (xs : List A) (i : ℕ) → length (filter test (take i xs)) ≤ i
passed_most test xs zero = omega arith
passed_most test [] (suc i) = omega arith
passed_most test (x ∷ xs) (suc i) = by (test x) (passed_most test xs i)
  where
    by : (t : Bool) → length (filter test (take i xs)) ≤ i → length (if t then x ∷ filter test (take i xs) else filter test (take i xs)) ≤ suc i
    by true l = omega (arith, l)
    by false l = omega (arith, l)
