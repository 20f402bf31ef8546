-- The terms for a set of which only the configurations in a scope count, so that it may be chosen between a least and a greatest set. A set is a test of a configuration.
use Rattle.std.specs.Prelude.{◌≡◌, ◌⊎◌, ℕ, ◌+◌, ◌-◌, ◌<◌, zero, suc, Bool, true, false, not, ◌&&◌, ◌||◌, List, [], ◌∷◌, ◌++◌, length, map, Option, Some, None, nat_le, if◌then◌else◌}
use Rattle.vx_space.specs.Sets.{Sets, IsSet}
use Rattle.vx_space.specs.Under.{Depends, fixed}
use Rattle.vx_bdd_tools.specs.Steps.{IsFreeBelow}
use Rattle.vx_explain.specs.declared.literal.Literal.{Literal}
use Rattle.vx_explain.specs.Rules.{some_term_holds}

-- each term with one literal more, at its front
abbrev pub with_literal : ℕ → Bool → List (List Literal) → List (List Literal)
with_literal option on terms = map (λ term. record { option = option; on = on } ∷ term) terms

-- what a set has outside of another
abbrev pub outside : (List Bool → Bool) → (List Bool → Bool) → List Bool → Bool
outside set other c = set c && not (other c)

-- The terms of Minato (1992) and Morreale (1970) by so many options from one on: those that need the option off, for what the least set has there and the greatest one forbids where it is on; those that need it on, likewise; and those that don't ask it, for what is then left.
unfoldable pub terms_between : ℕ → ℕ → (List Bool → Bool) → (List Bool → Bool) → List (List Literal)
terms_between zero option least most = if least [] then [] ∷ [] else []
terms_between (suc later) option least most =
    let off = terms_between later (option + 1) (outside (fixed least option false) (fixed most option true)) (fixed most option false) in
    let on = terms_between later (option + 1) (outside (fixed least option true) (fixed most option false)) (fixed most option true) in
    let rest = terms_between later (option + 1) (λ c. outside (fixed least option false) (some_term_holds off) c || outside (fixed least option true) (some_term_holds on) c) (λ c. fixed most option false c && fixed most option true c) in
    with_literal option false off ++ with_literal option true on ++ rest

-- the terms, if there are at most 32
abbrev pub if_few : List (List Literal) → Option (List (List Literal))
if_few terms = if nat_le (length terms) 32 then Some terms else None

-- those that all options from one on give for two sets
abbrev pub terms_from : {I : Type 0} → Sets I → ℕ → I → I → List (List Literal)
terms_from sets option least most = terms_between (sets.options - option) option (sets.test least) (sets.test most)

-- the same where the least set is what a set has outside of another
abbrev pub side_terms_from : {I : Type 0} → Sets I → ℕ → I → I → I → List (List Literal)
side_terms_from sets option least other most = terms_between (sets.options - option) option (outside (sets.test least) (sets.test other)) (sets.test most)

-- the configurations of one set are all in another
abbrev pub IsWithin : {I : Type 0} → Sets I → I → I → Type 0
IsWithin sets inner outer = (c : List Bool) → sets.test inner c ≡ true → sets.test outer c ≡ true

-- the least option on which one of two sets depends
pub record IsFirst {I : Type 0} (sets : Sets I) (least most : I) (option : ℕ) : Type 0 where
  pub in_range : option < sets.options
  pub asked : Depends (sets.test least) option ⊎ Depends (sets.test most) option
  pub of_least : IsFreeBelow sets least option
  pub of_most : IsFreeBelow sets most option

-- a set with an option off, and with it on
pub record AreParts {I : Type 0} (sets : Sets I) (set : I) (option : ℕ) (low high : I) : Type 0 where
  pub off : IsSet sets low (fixed (sets.test set) option false)
  pub on : IsSet sets high (fixed (sets.test set) option true)

-- the terms were put behind others, each with a path before it, and one of them holds just at the configurations of a set
pub record ArePut {I : Type 0} (sets : Sets I) (path : List Literal) (terms : List (List Literal)) (old new : List (List Literal)) (set : I) : Type 0 where
  pub set_is : IsSet sets set (some_term_holds terms)
  pub more : new ≡ old ++ map (λ term. path ++ term) terms

-- with the terms there would be more than there may be
abbrev pub AreMany : List (List Literal) → List (List Literal) → Type 0
AreMany terms old = 32 < length old + length terms
