-- What the search for terms answers, from what its calls answer.
use Rattle.std.proofs.Common.{◌≡◌, ◌≢◌, ◌⊎◌, ℕ, ◌+◌, ◌-◌, ◌≤◌, Bool, true, false, List, [], ◌∷◌, ◌++◌, length, map, refl, ◌∙◌, ap, subst, arith}
use Rattle.std.specs.Prelude.{Option, Some, None, ◌&&◌, not, nat_le, IfOk, MatchOption, if◌then◌else◌}
use Rattle.std.proofs.lemmas.Bool.Decides.{nat_tests}
use Rattle.std.specs.declared.result.Result.{Result}
use Rattle.vx_space.specs.Sets.{Sets, IsLawful, IsSet, Extends}
use Rattle.vx_bdd_tools.specs.Steps.{IsFreeBelow}
use Rattle.vx_explain.specs.declared.literal.Literal.{Literal}
use Rattle.vx_explain.specs.Between.{AreMany, ArePut, IsFirst, IsWithin, if_few, side_terms_from, terms_between, terms_from}
use Rattle.vx_explain.proofs.TermSets.{ArePut-whole, from_first, many-whole, side_same}

-- the terms of a side are those of what the least set has outside of the other side
pub by_side : {I E : Type 0} {s0 s1 : Sets I} → Extends s0 s1 → (s2 : Sets I) (path : List Literal) (l : Literal) (longer : List Literal) (least only most other : I) (old new : List (List Literal)) (found : Result (Option I) E) → longer ≡ path ++ l ∷ [] → s0.is_known most ≡ true → IsSet s1 only (λ c. s0.test least c && not (s0.test other c))
    → IfOk found (λ r. MatchOption r (AreMany (terms_from s1 (l.option + 1) only most) old) (ArePut s2 longer (terms_from s1 (l.option + 1) only most) old new))
    → IfOk found (λ r. MatchOption r (AreMany (side_terms_from s0 (l.option + 1) least other most) old) (ArePut s2 (path ++ l ∷ []) (side_terms_from s0 (l.option + 1) least other most) old new))
by_side {I} {E} {s0} {s1} x s2 path l longer least only most other old new found e k o h =
    subst (λ p. IfOk found (λ r. MatchOption r (AreMany (side_terms_from s0 (l.option + 1) least other most) old) (ArePut s2 p (side_terms_from s0 (l.option + 1) least other most) old new))) e
    (subst (λ ts. IfOk found (λ r. MatchOption r (AreMany ts old) (ArePut s2 longer ts old new))) (side_same x (l.option + 1) least other only most k o) h)

-- the terms from the first option that is asked are all
pub by_first : {I E : Type 0} {s : Sets I} → IsLawful s → (s' : Sets I) (path : List Literal) (first option : ℕ) (least most : I) (old new : List (List Literal)) (found : Result (Option I) E) → s.is_known least ≡ true → s.is_known most ≡ true → IsFreeBelow s least first → IsFreeBelow s most first → IsWithin s least most → IsFirst s least most option
    → IfOk found (λ r. MatchOption r (AreMany (terms_from s option least most) old) (ArePut s' path (terms_from s option least most) old new))
    → IfOk found (λ r. MatchOption r (AreMany (terms_from s first least most) old) (ArePut s' path (terms_from s first least most) old new))
by_first {I} {E} {s} lawful s' path first option least most old new found kl km fl fm w h o =
    subst (λ ts. IfOk found (λ r. MatchOption r (AreMany ts old) (ArePut s' path ts old new))) (from_first lawful first option least most kl km fl fm w h) o

-- where no option is asked, there is one term
pub by_whole : {I : Type 0} {s : Sets I} → IsLawful s → (path : List Literal) (first : ℕ) (least most : I) (old new : List (List Literal)) (found : Option I) → first ≤ s.options → s.is_known least ≡ true → IsFreeBelow s least first → least ≢ s.never → IsWithin s least most → (most ≡ s.never) ⊎ (most ≡ s.always)
    → MatchOption found (32 ≤ length old) (λ id. (id ≡ s.always) × (new ≡ old ++ path ∷ [])) → MatchOption found (AreMany (terms_from s first least most) old) (ArePut s path (terms_from s first least most) old new)
by_whole lawful path first least most old new None l k f n w e h = many-whole lawful first least most old l k f n w e h
by_whole lawful path first least most old new (Some id) l k f n w e h = ArePut-whole lawful path first least most id old new l k f n w e h.0 h.1

map_same : {A : Type 0} (xs : List A) → map (λ x. x) xs ≡ xs
map_same [] = refl
map_same (x ∷ xs) = ap (λ ys. x ∷ ys) (map_same xs)

-- all terms, put behind none, which are few
pub few_of : {I : Type 0} (s : Sets I) {s' : Sets I} (least most set : I) (old new found : List (List Literal)) → old ≡ [] → found ≡ new → length new ≤ 32 → ArePut s' [] (terms_from s 0 least most) old new set → Some found ≡ if_few (terms_between s.options 0 (s.test least) (s.test most))
few_of s least most set old new found none is few put = ap Some (is ∙ same) ∙ by (nat_le (length terms) 32) refl
  where
    terms : List (List Literal)
    terms = terms_between s.options 0 (s.test least) (s.test most)

    options : s.options - 0 ≡ s.options
    options = omega arith

    same : new ≡ terms_between s.options 0 (s.test least) (s.test most)
    same = put.more ∙ ap (λ ts. ts ++ map (λ term. [] ++ term) (terms_from s 0 least most)) none ∙ map_same (terms_from s 0 least most) ∙ ap (λ n. terms_between n 0 (s.test least) (s.test most)) options

    small : length terms ≤ 32
    small = let size : length new ≡ length terms = ap (λ (ts : List (List Literal)). length ts) same in omega (arith, few, size)

    by : (t : Bool) → nat_le (length terms) 32 ≡ t → Some terms ≡ (if t then Some terms else None)
    by true e = refl
    by false e = let l = small in absurd (grind (arith, nat_tests))
