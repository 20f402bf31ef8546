-- Units of a text as elements of an array.
use Rattle.std.proofs.Common.{◌≡◌, ℕ, ◌+◌, ◌<◌, Bool, true, List, [], ◌∷◌, ◌++◌, refl, ◌∙◌, ap, get_or, length, map, take}
use Rattle.std.proofs.lemmas.List.{map-append, take_more}
use Rattle.std.specs.List.{list_all}
use Rattle.vx_initial_heap.specs.First.{is_among, value_in}
use Rattle.vx_java.specs.Machine.{Int as IntValue}
use Rattle.std.specs.Prelude.{pos}
use Rattle.vx_effects.specs.Elements.{char_slot}

-- they name nothing
pub elements_plain : (texts : ℕ) (units : List ℕ) → list_all (is_among 0 texts) (map char_slot units) ≡ true
elements_plain texts [] = refl
elements_plain texts (u ∷ units) = elements_plain texts units

-- and stand for ints
pub elements_are : (texts : List (List ℕ)) (units : List ℕ) → map (value_in texts) (map char_slot units) ≡ map (λ u. IntValue (pos u)) units
elements_are texts [] = refl
elements_are texts (u ∷ units) = λ i. IntValue (pos u) ∷ elements_are texts units i

-- one more
pub elements_more : (units : List ℕ) (i : ℕ) → i < length units → map char_slot (take (i + 1) units) ≡ map char_slot (take i units) ++ char_slot (get_or units i 0) ∷ []
elements_more units i l = ap (map char_slot) (take_more units i 0 l) ∙ map-append char_slot (take i units) (get_or units i 0 ∷ [])
