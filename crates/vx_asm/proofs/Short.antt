-- A lawful descriptor is short, and a source has no more lines than bytes.
use Rattle.std.proofs.Common.{◌≡◌, ℕ, suc, ◌<◌, ◌≤◌, ◌^◌, List, [], ◌∷◌, length, Bool, true, false, ◌-◌, take, drop, length-drop, subst, sym, arith}
use Rattle.std.specs.Prelude.{◌&&◌, if◌then◌else◌}
use Rattle.std.proofs.lemmas.List.{length-map, take_all}
use Rattle.vx_source.specs.Lines.{source_of}
use Rattle.vx_source.specs.declared.lines.Source.{Source}
use Rattle.vx_words.specs.Lines.{with_first, parts, lines, is_line_feed, without_return}
use Rattle.vx_class_parts.specs.Rules.{is_short, is_lawful_field, is_lawful_method}

-- the second of four tests
second_of_four : (a b c d : Bool) → (a && b && c && d) ≡ true → b ≡ true
second_of_four true b true true h = grind (arith, h)
second_of_four a b c d h = grind (arith, h)

short_when : (xs : List ℕ) → is_short xs ≡ true → length xs < 2 ^ 16
short_when xs h = grind (arith, h)

pub field_is_short : (name descriptor : List ℕ) → is_lawful_field name descriptor ≡ true → length descriptor < 2 ^ 16
unfolding is_lawful_field
field_is_short name descriptor h = short_when descriptor (second_of_four _ _ _ _ h)

pub method_is_short : (name descriptor : List ℕ) → is_lawful_method name descriptor ≡ true → length descriptor < 2 ^ 16
unfolding is_lawful_method
method_is_short name descriptor h = short_when descriptor (second_of_four _ _ _ _ h)

first_few : {A : Type 0} (x : A) (ps : List (List A)) (n : ℕ) → length ps ≤ n → length (with_first x ps) ≤ suc n
first_few x [] n le = omega arith
first_few x (p ∷ ps) n le = omega arith

few_parts : {A : Type 0} (ends : A → Bool) (xs : List A) → length (parts ends xs) ≤ length xs
few_parts ends [] = omega arith
few_parts ends (x ∷ xs) = by_test (ends x) (few_parts ends xs)
  where
    by_test : (b : Bool) → length (parts ends xs) ≤ length xs → length (if b then [] ∷ parts ends xs else with_first x (parts ends xs)) ≤ suc (length xs)
    by_test true le = omega arith
    by_test false le = first_few x (parts ends xs) (length xs) le

pub few_lines : (bytes : List ℕ) → length (lines bytes) ≤ length bytes
few_lines bytes = omega (arith, length-map (parts is_line_feed bytes) without_return, few_parts is_line_feed bytes)

pub few_in_source : (bytes : List ℕ) (source : Source) → source ≡ source_of bytes → source.count ≤ length bytes
few_in_source bytes source e = subst (λ (s : Source). s.count ≤ length bytes) (sym e) (few_lines bytes)

-- all items behind some
pub items_behind : {A : Type 0} (xs : List A) (k : ℕ) → take (length xs - k) (drop k xs) ≡ drop k xs
items_behind xs k = take_all (length xs - k) (drop k xs) (omega (arith, length-drop k xs))
