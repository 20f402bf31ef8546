-- Array classes by their numbers: their dimensions, their elements and their components.
use Rattle.std.proofs.Common.{Bool, List, None, Some, ap, arith, false, length, not, refl, suc, sym, true, zero, ℕ, ◌%◌, ◌*◌, ◌+◌, ◌-◌, ◌/◌, ◌<◌, ◌∙◌, ◌∷◌, ◌≡◌, ◌≤◌, []}
use Rattle.std.proofs.lemmas.Bool.{lt-ltb, ltb-false, ltb-true}
use Rattle.std.proofs.lemmas.List.Quantifiers.{position-Some}
use Rattle.std.proofs.lemmas.Nat.{div-add-mod', div-mul-add, mod-mul-add, mod_below}
use Rattle.std.specs.Prelude.{bytes_eq, if◌then◌else◌, nat_lt, option_map}
use Rattle.vx_link.specs.ClassNames.{array_class, class_element, class_of_name, dimensions_of, element_of, is_array}
use Rattle.vx_link.specs.Hierarchy.{superclass_of}
use Rattle.vx_class.specs.Members.{INTERFACE}
use Rattle.vx_link.specs.Parts.{class_at, class_count, has, is_interface, no_class}
use Rattle.vx_link.specs.declared.program.LinkedClass.{LinkedClass}
use Rattle.vx_link.specs.declared.program.Program.{Program}
use Rattle.vx_list.specs.Places.{item_or}
use Rattle.vx_verify.proofs.Following.{not_below}

-- ---- which numbers are those of arrays

pub array_past : (p : Program) (c : ℕ) → is_array p c ≡ true → class_count p ≤ c
array_past p c = by (nat_lt c (class_count p)) refl
  where
    by : (b : Bool) → nat_lt c (class_count p) ≡ b → not b ≡ true → class_count p ≤ c
    by true e h = absurd cc
    by false e h = ltb-false c (class_count p) e

pub class_below : (p : Program) (c : ℕ) → is_array p c ≡ false → c < class_count p
class_below p c = by (nat_lt c (class_count p)) refl
  where
    by : (b : Bool) → nat_lt c (class_count p) ≡ b → not b ≡ false → c < class_count p
    by true e h = ltb-true c (class_count p) e
    by false e h = absurd cc

pub plain_class : (p : Program) (c : ℕ) → c < class_count p → is_array p c ≡ false
plain_class p c less = ap not (lt-ltb c (class_count p) less)

-- no class stands past the last one
pub item_past : {A : Type 0} (xs : List A) (i : ℕ) (d : A) → length xs ≤ i → item_or xs i d ≡ d
item_past [] i d l = refl
item_past (x ∷ xs) zero d l = absurd (omega (arith, l))
item_past (x ∷ xs) (suc i) d l = item_past xs i d (omega (arith, l))

pub array_is_no_class : (p : Program) (c : ℕ) → is_array p c ≡ true → class_at p c ≡ no_class
array_is_no_class p c array = item_past p.classes c no_class (array_past p c array)

pub array_no_interface : (p : Program) (c : ℕ) → is_array p c ≡ true → is_interface p c ≡ false
array_no_interface p c array = ap (λ (x : LinkedClass). has INTERFACE x.flags) (array_is_no_class p c array)

pub array_root : (p : Program) (c : ℕ) → is_array p c ≡ true → superclass_of p c ≡ None
array_root p c array = ap (λ (x : LinkedClass). option_map (λ s. s.0) x.superclass) (array_is_no_class p c array)

-- ---- the parts of a number

number_of_parts : (n c q r d e : ℕ) → n ≤ c → q * (n + 8) + r ≡ c - n → d ≡ q + 1 → e ≡ r → c ≡ n + (d - 1) * (n + 8) + e
number_of_parts n c q r d e past parts is_d is_e =
    let one_less : q ≡ d - 1 = omega (arith, is_d) in
    let whole : c ≡ n + q * (n + 8) + r = omega (arith, past, parts) in
    whole ∙ ap (λ k. n + k * (n + 8) + r) one_less ∙ ap (λ k. n + (d - 1) * (n + 8) + k) (sym is_e)

module _ (p : Program) (c : ℕ) (array : is_array p c ≡ true) where
  pub dimensions_are : dimensions_of p c ≡ (c - class_count p) / (class_count p + 8) + 1
  dimensions_are = ap (λ b. if b then (c - class_count p) / (class_count p + 8) + 1 else 0) array

  pub element_is : element_of p c ≡ (c - class_count p) % (class_count p + 8)
  element_is = ap (λ b. if b then (c - class_count p) % (class_count p + 8) else class_element c) array

  -- an array class is that of its dimensions and its element
  pub array_is : c ≡ array_class p (dimensions_of p c) (element_of p c)
  array_is =
      number_of_parts (class_count p) c ((c - class_count p) / (class_count p + 8)) ((c - class_count p) % (class_count p + 8)) (dimensions_of p c) (element_of p c)
      (array_past p c array) (div-add-mod' (c - class_count p) (class_count p + 8)) dimensions_are element_is

  pub some_dimensions : 1 ≤ dimensions_of p c
  some_dimensions = let are = dimensions_are in omega (arith, are)

  pub element_below : element_of p c < class_count p + 8
  element_below =
      let below = mod_below (c - class_count p) (class_count p + 8) (omega arith) in
      let is = element_is in
      omega (arith, below, is)

-- ---- the class of dimensions and an element

module _ (p : Program) (d e : ℕ) (some : 1 ≤ d) (below : e < class_count p + 8) where
  behind_classes : array_class p d e - class_count p ≡ (d - 1) * (class_count p + 8) + e
  behind_classes = omega arith

  pub array_there : is_array p (array_class p d e) ≡ true
  array_there = ap not (not_below (array_class p d e) (class_count p) (omega arith))

  pub dimensions_there : dimensions_of p (array_class p d e) ≡ d
  dimensions_there =
      let quotient : (array_class p d e - class_count p) / (class_count p + 8) ≡ d - 1 =
      ap (λ k. k / (class_count p + 8)) behind_classes ∙ div-mul-add (d - 1) (class_count p + 8) e below in
      let are = dimensions_are p (array_class p d e) array_there in
      omega (arith, are, quotient, some)

  pub element_there : element_of p (array_class p d e) ≡ e
  element_there =
      element_is p (array_class p d e) array_there
      ∙ ap (λ k. k % (class_count p + 8)) behind_classes
      ∙ mod-mul-add (d - 1) (class_count p + 8) e below

-- ---- classes by name

pub named_below : (p : Program) (name : List ℕ) (c : ℕ) → class_of_name p name ≡ Some c → c < class_count p
named_below p name c e = (position-Some (λ x. bytes_eq x.name name) p.classes c no_class e).0
