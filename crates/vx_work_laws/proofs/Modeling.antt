-- The model of the workload: its options have different names and fields, and there are at most 64.
use Prim.Native.String.{String}
use Rattle.std.proofs.Common.{Bool, List, Some, [], ap, append_assoc, append-nil, arith, codes, false, length, map, not, refl, subst, suc, sym, take, true, zero, ℕ, ◌++◌, ◌+◌, ◌<◌, ◌≢◌, ◌∙◌, ◌∷◌, ◌≡◌, ◌||◌}
use Rattle.std.proofs.Math.Bool.{or-true}
use Rattle.std.proofs.lemmas.Bool.{false≢true}
use Rattle.std.proofs.lemmas.List.{length-map, take-map}
use Rattle.std.proofs.lemmas.List.Folds.{list_any-append}
use Rattle.std.proofs.lemmas.Option.{same_Some}
use Rattle.std.proofs.lemmas.Slice.Eq.{bytes_eq-Decides}
use Rattle.std.specs.List.{list_all, list_any, slice_get, slice_index_or}
use Rattle.std.specs.Cmp.Derive.{both_true}
use Rattle.std.specs.Prelude.{bytes_eq}
use Rattle.vx_pool.specs.Holding.{and_true}
use Rattle.vx_work_laws.proofs.MainPool.{AreGood, are_apart}
use Rattle.vx_gen.specs.Workload.{names_of, option_names, work_model, work_option}
use Rattle.vx_model.specs.Models.{AllApart, ApartFromAll, HasOptionNames, IsModel}
use Rattle.vx_words.specs.Names.{AreNew, AreOptionNames, is_name}

not_true : (b : Bool) → not b ≡ true → b ≡ false
not_true true e = cc
not_true false e = refl

either_false : (a b : Bool) → (a || b) ≡ false → (a ≡ false) × (b ≡ false)
either_false true b e = cc
either_false false b e = (refl, e)

differ : (a b : List ℕ) → bytes_eq a b ≡ false → a ≢ b
differ a b other same = let equal = (bytes_eq-Decides a b).1 same in cc

-- ---- apart

-- a name among those before
among_before : (a : String) (front back : List String) (name : List ℕ) → list_any (λ b. bytes_eq (codes b) name) (front ++ a ∷ back) ≡ false → bytes_eq (codes a) name ≡ false
among_before a front back name other =
    (either_false (bytes_eq (codes a) name) _ (either_false _ _ (sym (list_any-append (λ b. bytes_eq (codes b) name) front (a ∷ back)) ∙ other)).1).0

apart_from : (a : String) (front back names : List String) → are_apart (front ++ a ∷ back) names ≡ true → ApartFromAll (work_option a) (map work_option names)
apart_from a front back [] apart = tt
apart_from a front back (n ∷ names) apart =
    let both = and_true _ _ apart in
    let other = differ (codes a) (codes n) (among_before a front back (codes n) (not_true _ both.0)) in
    let further : (front ++ a ∷ back) ++ n ∷ [] ≡ front ++ a ∷ (back ++ n ∷ []) = append_assoc front (a ∷ back) (n ∷ []) in
    ((other, λ same. other (ap (λ place. place.field) same)), apart_from a front (back ++ n ∷ []) names (subst (λ before. are_apart before names ≡ true) further both.1))

all_apart : (before names : List String) → are_apart before names ≡ true → AllApart (map work_option names)
all_apart before [] apart = tt
all_apart before (n ∷ names) apart =
    let both = and_true _ _ apart in
    (apart_from n before [] names both.1, all_apart (before ++ n ∷ []) names both.1)

pub is_model : (names : List String) → AreGood names → IsModel (work_model names)
is_model names are = record {
  at_most_64 = let count = length-map names work_option in let few = are.few in omega (arith, count, few);
  apart = all_apart [] names are.apart;
  named = tt;
}

-- ---- names

-- no name equals one of those before it
new_there : (before names : List String) → are_apart before names ≡ true → (place : ℕ) (name : List ℕ) → slice_get (map codes names) place ≡ Some name
    → list_any (λ b. bytes_eq (codes b) name) (before ++ take place names) ≡ false
new_there before [] apart place name there = cc
new_there before (n ∷ names) apart zero name there =
    let here : codes n ≡ name = same_Some (codes n) name there in
    ap (list_any (λ b. bytes_eq (codes b) name)) (append-nil before)
    ∙ subst (λ text. list_any (λ b. bytes_eq (codes b) text) before ≡ false) here (not_true _ (and_true _ _ apart).0)
new_there before (n ∷ names) apart (suc place) name there =
    ap (list_any (λ b. bytes_eq (codes b) name)) (sym (append_assoc before (n ∷ []) (take place names))) ∙ new_there (before ++ n ∷ []) names (and_true _ _ apart).1 place name there

contained : (xs : List (List ℕ)) (k : ℕ) (name : List ℕ) → k < length xs → slice_index_or xs k name ≡ name → list_any (λ b. bytes_eq b name) xs ≡ true
contained [] k name lt is = absurd (omega (arith, lt))
contained (x ∷ xs) zero name lt is = ap (λ t. t || list_any (λ b. bytes_eq b name) xs) ((bytes_eq-Decides x name).1 is)
contained (x ∷ xs) (suc k) name lt is = ap (λ t. bytes_eq x name || t) (contained xs k name (omega (arith, lt)) is) ∙ or-true (bytes_eq x name)

any_of_texts : (test : List ℕ → Bool) (names : List String) → list_any test (map codes names) ≡ list_any (λ b. test (codes b)) names
any_of_texts test [] = refl
any_of_texts test (n ∷ names) = ap (λ t. test (codes n) || t) (any_of_texts test names)

are_new : (names : List String) → are_apart [] names ≡ true → AreNew (map codes names)
are_new names apart place name there among =
    let found = contained (take place (map codes names)) among.0 name among.1 among.2 in
    let none = new_there [] names apart place name there in
    let same = ap (list_any (λ b. bytes_eq b name)) (take-map codes place names) ∙ any_of_texts (λ b. bytes_eq b name) (take place names) in
    false≢true (sym none ∙ sym same ∙ found)

all_are_names : list_all (λ name. is_name (codes name)) option_names ≡ true
unfolding is_name
all_are_names = refl

first_names : (names : List String) (count : ℕ) → list_all (λ name. is_name (codes name)) names ≡ true → list_all is_name (map codes (take count names)) ≡ true
first_names [] zero all = refl
first_names [] (suc count) all = refl
first_names (n ∷ names) zero all = refl
first_names (n ∷ names) (suc count) all = both_true (and_true _ _ all).0 (first_names names count (and_true _ _ all).1)

names_are : (names : List String) → map (λ o. o.name) (map work_option names) ≡ map codes names
names_are [] = refl
names_are (n ∷ names) = ap (λ rest. codes n ∷ rest) (names_are names)

pub has_names : (count : ℕ) → AreGood (names_of count) → HasOptionNames (work_model (names_of count))
has_names count are =
    let names = names_of count in
    subst AreOptionNames (sym (names_are names))
    (record {
      named = first_names option_names count all_are_names;
      distinct = are_new names are.apart;
      few = let counted = length-map names codes in let few = are.few in omega (arith, counted, few);
    })
