-- Arrays of chars and texts by what native methods of the ordinary machine say of them.
use Rattle.std.proofs.Common.{◌≡◌, ℕ, pos, suc, List, [], ◌∷◌, length, refl, ap, ◌∙◌}
use Rattle.std.specs.Prelude.{map}
use Rattle.vx_java.specs.Machine as machine
use Rattle.vx_java.specs.Machine.{Here}
use Rattle.vx_java.specs.Texts.{char_array, unit_of}
use Rattle.vx_link.specs.ClassNames.{array_class, char_element}
use Rattle.vx_plain.specs.Views.{value_of, values_of}
use Rattle.vx_plain.specs.declared.value.Value.{Value}
use Rattle.vx_plain_strings.specs.Texts.{char_value}

-- ---- arrays of chars

pub units_there : (cells : List Value) (there : List machine.Value) → values_of cells ≡ there → map (λ cell. unit_of (value_of cell)) cells ≡ map unit_of there
units_there cells there e = each cells ∙ ap (map unit_of) e
  where
    each : (cells : List Value) → map (λ cell. unit_of (value_of cell)) cells ≡ map unit_of (values_of cells)
    each [] = refl
    each (cell ∷ cells) = ap (λ rest. unit_of (value_of cell) ∷ rest) (each cells)

elements_there : (units : List ℕ) → values_of (map char_value units) ≡ map (λ u. machine.Int (pos u)) units
elements_there [] = refl
elements_there (u ∷ units) = ap (λ rest. machine.Int (pos u) ∷ rest) (elements_there units)

as_many : (units : List ℕ) → length (map char_value units) ≡ length units
as_many [] = refl
as_many (u ∷ units) = ap suc (as_many units)

pub chars_made : (h : Here) (class : ℕ) (cells : List Value) (units : List ℕ) → class ≡ array_class h.program 1 char_element → cells ≡ map char_value units
    → record { class = class; size = length cells; cells = values_of cells } ≡ char_array h units
chars_made h class cells units is_class made =
    λ i. record { class = is_class i; size = (ap length made ∙ as_many units) i; cells = (ap values_of made ∙ elements_there units) i }
