-- The settings of some options, and what sets have of them.
use Rattle.std.proofs.Common.{◌≡◌, ◌≢◌, ℕ, zero, suc, ◌<◌, Bool, true, false, List, [], ◌∷◌, ◌++◌, length, map, refl, sym, ◌∙◌, ap, arith}
use Rattle.std.proofs.lemmas.List.Folds.{list_any-append}
use Rattle.std.specs.List.{list_any}
use Rattle.std.specs.Prelude.{◌||◌}
use Rattle.vx_space.specs.Sets.{Sets, IsLawful}
use Rattle.vx_space.specs.Mask.{tail_of}
use Rattle.vx_space.proofs.Differences.{firsts, some_difference, value_of-firsts}
use Rattle.vx_count.specs.Settings.{settings}

any_map : {A B : Type 0} (p : B → Bool) (f : A → B) (xs : List A) → list_any p (map f xs) ≡ list_any (λ x. p (f x)) xs
any_map p f [] = refl
any_map p f (x ∷ xs) = ap (λ b. p (f x) || b) (any_map p f xs)

or_true : (b : Bool) → (b || true) ≡ true
or_true true = refl
or_true false = refl

true_or : (b rest : Bool) → b ≡ true → (b || rest) ≡ true
true_or true rest e = refl
true_or false rest e = cc

-- what holds at a setting holds at one of all
pub some_setting : (n : ℕ) (p : List Bool → Bool) (c : List Bool) → length c ≡ n → p c ≡ true → list_any p (settings n) ≡ true
some_setting zero p [] e t = true_or (p []) false t
some_setting zero p (b ∷ c) e t = absurd (omega (arith, e))
some_setting (suc n) p [] e t = absurd (omega (arith, e))
some_setting (suc n) p (false ∷ c) e t =
    let rest = some_setting n (λ d. p (false ∷ d)) c (omega (arith, e)) t in
    list_any-append p (map (λ d. false ∷ d) (settings n)) (map (λ d. true ∷ d) (settings n))
    ∙ true_or (list_any p (map (λ d. false ∷ d) (settings n))) (list_any p (map (λ d. true ∷ d) (settings n))) (any_map p (λ d. false ∷ d) (settings n) ∙ rest)
some_setting (suc n) p (true ∷ c) e t =
    let rest = some_setting n (λ d. p (true ∷ d)) c (omega (arith, e)) t in
    list_any-append p (map (λ d. false ∷ d) (settings n)) (map (λ d. true ∷ d) (settings n))
    ∙ ap (λ b. list_any p (map (λ d. false ∷ d) (settings n)) || b) (any_map p (λ d. true ∷ d) (settings n) ∙ rest)
    ∙ or_true (list_any p (map (λ d. false ∷ d) (settings n)))

-- what holds nowhere holds at none
pub no_setting : (p : List Bool → Bool) (list : List (List Bool)) → ((c : List Bool) → p c ≡ false) → list_any p list ≡ false
no_setting p [] none = refl
no_setting p (c ∷ list) none = ap (λ b. b || list_any p list) (none c) ∙ no_setting p list none

pub length_firsts : (n : ℕ) (c : List Bool) → length (firsts n c) ≡ n
length_firsts zero c = refl
length_firsts (suc n) c = ap suc (length_firsts n (tail_of c))

-- a setting of a set
pub record IsIn {I : Type 0} (sets : Sets I) (id : I) : Type 0 where
  pub config : List Bool
  pub whole : length config ≡ sets.options
  pub holds : sets.test id config ≡ true

-- a set that isn't never has one
pub member_of : {I : Type 0} {sets : Sets I} → IsLawful sets → (id : I) → sets.is_known id ≡ true → id ≢ sets.never → IsIn sets id
member_of {sets = sets} lawful id known some =
    let d = some_difference lawful id sets.never known lawful.never_known some in
    record {
      config = firsts sets.options d.0;
      whole = length_firsts sets.options d.0;
      holds = lawful.options_alone id (firsts sets.options d.0) d.0 known (value_of-firsts sets.options d.0) ∙ not_false (sets.test id d.0) (λ e. d.1 (e ∙ sym (lawful.never_test d.0)));
    }
  where
    not_false : (b : Bool) → b ≢ false → b ≡ true
    not_false true h = refl
    not_false false h = absurd (h refl)
