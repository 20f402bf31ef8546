-- Literals first: single literals that hold nowhere outside of what is allowed, and terms for what they leave. A set is a test of a configuration.
use Rattle.std.specs.Prelude.{◌≡◌, ℕ, ◌+◌, zero, suc, Bool, true, false, not, ◌&&◌, ◌||◌, List, [], ◌∷◌, ◌++◌, map, if◌then◌else◌}
use Rattle.vx_space.specs.Sets.{Sets, IsSet}
use Rattle.vx_space.specs.Under.{fixed}
use Rattle.vx_explain.specs.declared.literal.Literal.{Literal}
use Rattle.vx_explain.specs.Between.{terms_between}
use Rattle.vx_explain.specs.Rules.{literal_holds, some_literal_holds}

-- a configuration is in the set, by the values of so many options from one on
unfoldable pub is_some : ℕ → ℕ → (List Bool → Bool) → Bool
is_some zero option set = set []
is_some (suc later) option set = is_some later (option + 1) (fixed set option false) || is_some later (option + 1) (fixed set option true)

-- what literals leave of a set
abbrev pub left_by : List Literal → (List Bool → Bool) → List Bool → Bool
left_by literals set c = set c && not (some_literal_holds literals c)

-- each option on, or off, by so many options from one on
unfoldable pub literals_of : Bool → ℕ → ℕ → List Literal
literals_of on zero option = []
literals_of on (suc later) option = record { option = option; on = on } ∷ literals_of on later (option + 1)

-- names before negations
abbrev pub all_literals : ℕ → List Literal
all_literals options = literals_of true options 0 ++ literals_of false options 0

-- a configuration of what is left is in the set, and none of the set is outside of the greatest one
abbrev pub is_useful : ℕ → (List Bool → Bool) → (List Bool → Bool) → (List Bool → Bool) → Bool
is_useful options rest most set = is_some options 0 (λ c. rest c && set c) && not (is_some options 0 (λ c. set c && not (most c)))

-- a literal is taken where its set is
abbrev pub is_taken : ℕ → (List Bool → Bool) → (List Bool → Bool) → Literal → Bool
is_taken options rest most l = is_useful options rest most (literal_holds l)

-- literals that are taken one after the other, each of what those before it leave
unfoldable pub taking : ℕ → (List Bool → Bool) → (List Bool → Bool) → List Literal → List Literal → List Literal
taking options most rest taken [] = taken
taking options most rest taken (l ∷ ls) = if is_taken options rest most l then taking options most (λ c. rest c && not (literal_holds l c)) (taken ++ l ∷ []) ls else taking options most rest taken ls

-- what a literal has of a set is all in others
abbrev pub is_covered : ℕ → (List Bool → Bool) → Literal → List Literal → Bool
is_covered options least l others = not (is_some options 0 (left_by others (λ c. least c && literal_holds l c)))

-- literals that are kept one after the other: those that the others, which are kept or still to come, don't cover
unfoldable pub keeping : ℕ → (List Bool → Bool) → List Literal → List Literal → List Literal
keeping options least kept [] = kept
keeping options least kept (l ∷ ls) = if is_covered options least l (kept ++ ls) then keeping options least kept ls else keeping options least (kept ++ l ∷ []) ls

abbrev pub first_literals : ℕ → (List Bool → Bool) → (List Bool → Bool) → List Literal
first_literals options least most = keeping options least [] (taking options most least [] (all_literals options))

-- each literal as a term, and terms behind them
abbrev pub with_terms : List Literal → List (List Literal) → List (List Literal)
with_terms literals terms = map (λ l. l ∷ []) literals ++ terms

-- terms for what some literals leave
abbrev pub terms_behind : ℕ → (List Bool → Bool) → (List Bool → Bool) → List Literal → List (List Literal)
terms_behind options least most literals = with_terms literals (terms_between options 0 (left_by literals least) most)

unfoldable pub literals_first : ℕ → (List Bool → Bool) → (List Bool → Bool) → List (List Literal)
literals_first options least most = terms_behind options least most (first_literals options least most)

-- a configuration has the literal and is not in the set
abbrev pub LeavesOut : {I : Type 0} → Sets I → I → Literal → Type 0
LeavesOut sets id l = (c : List Bool) × (literal_holds l c ≡ true) × (sets.test id c ≡ false)

-- a literal was taken, or it wasn't, and this is what is left
pub record TakesOne {I : Type 0} (old new : Sets I) (most : I) (l : Literal) (rest : I) (before after : List Literal) (left : I) : Type 0 where
  pub taken : after ≡ (if is_taken old.options (old.test rest) (old.test most) l then before ++ l ∷ [] else before)
  pub set : IsSet new left (if is_taken old.options (old.test rest) (old.test most) l then (λ c. old.test rest c && not (literal_holds l c)) else old.test rest)
