-- Choosing one option more.
use Rattle.std.proofs.Common.{◌≡◌, ◌<◌, ◌≤◌, ◌+◌, ℕ, zero, suc, Bool, true, false, List, [], ◌∷◌, ◌++◌, length, take, get_or, set, refl, sym, ap, subst, ◌∙◌, arith, add-one, replicate}
use Rattle.std.specs.Prelude.{◌&&◌, MatchOption, Option, Some, None, filter, slice_get}
use Rattle.std.specs.List.{list_all}
use Rattle.vx_cut.specs.Choices.{chosen_count}

-- an option among the first ones that isn't chosen, or all of them are
abbrev pub IsOpenBelow : List Bool → ℕ → Option ℕ → Type 0
IsOpenBelow chosen n place = MatchOption place (list_all (λ b. b) (take n chosen) ≡ true) (λ i. slice_get chosen i ≡ Some false)

all_more : (chosen : List Bool) (n : ℕ) (d : Bool) → n < length chosen → list_all (λ b. b) (take n chosen) ≡ true → get_or chosen n d ≡ true → list_all (λ b. b) (take (suc n) chosen) ≡ true
all_more [] n d l h e = absurd (omega (arith, l))
all_more (x ∷ xs) zero d l h e = rw e refl
all_more (true ∷ xs) (suc n) d l h e = all_more xs n d (omega (arith, l)) h e
all_more (false ∷ xs) (suc n) d l h e = cc (h)

pub open_kept : (chosen : List Bool) (n : ℕ) (d : Bool) (place : Option ℕ) → n < length chosen → get_or chosen n d ≡ true → IsOpenBelow chosen n place → IsOpenBelow chosen (n + 1) place
open_kept chosen n d None l e h = ap (λ k. list_all (λ b. b) (take k chosen)) (add-one n) ∙ all_more chosen n d l h e
open_kept chosen n d (Some i) l e h = h

-- an option that isn't better than one before it
pub open_other : (chosen : List Bool) (n : ℕ) (place : Option ℕ) (better : Bool) → (place ≡ None → better ≡ true) → better ≡ false → IsOpenBelow chosen n place → IsOpenBelow chosen (n + 1) place
open_other chosen n None better first e h = let wrong : true ≡ false = sym (first refl) ∙ e in cc (wrong)
open_other chosen n (Some i) better first e h = h

pub open_there : (chosen : List Bool) (n : ℕ) (d : Bool) → n < length chosen → get_or chosen n d ≡ false → slice_get chosen n ≡ Some false
open_there [] n d l e = absurd (omega (arith, l))
open_there (x ∷ xs) zero d l e = ap Some e
open_there (x ∷ xs) (suc n) d l e = open_there xs n d (omega (arith, l)) e

-- ---- how many are chosen

pub all_counted : (chosen : List Bool) → list_all (λ b. b) chosen ≡ true → chosen_count chosen ≡ length chosen
all_counted [] h = refl
all_counted (true ∷ xs) h = ap suc (all_counted xs h)
all_counted (false ∷ xs) h = cc (h)

pub one_more : (chosen : List Bool) (i : ℕ) → slice_get chosen i ≡ Some false → chosen_count (set chosen i true) ≡ chosen_count chosen + 1
one_more [] i e = cc (e)
one_more (true ∷ xs) zero e = cc (e)
one_more (false ∷ xs) zero e = omega arith
one_more (true ∷ xs) (suc i) e = omega (arith, one_more xs i e)
one_more (false ∷ xs) (suc i) e = one_more xs i e

pub place_below : (chosen : List Bool) (i : ℕ) (b : Bool) → slice_get chosen i ≡ Some b → i < length chosen
place_below [] i b e = cc (e)
place_below (x ∷ xs) zero b e = omega arith
place_below (x ∷ xs) (suc i) b e = omega (arith, place_below xs i b e)

pub none_chosen : (n : ℕ) → chosen_count (replicate n false) ≡ 0
none_chosen zero = refl
none_chosen (suc n) = none_chosen n
