-- Each field of an object has a cell of its own, which begins with the default of its type.
use Rattle.std.proofs.Common.{Bool, List, None, Option, Some, [], ap, arith, drop, false, filter, inl, inr, length, length-append, map, not, refl, slice_get, subst, suc, sym, true, unwrap_or, zero, ℕ, ◌++◌, ◌+◌, ◌<◌, ◌⊎◌, ◌∙◌, ◌∷◌, ◌≡◌, ◌≤◌}
use Rattle.std.proofs.lemmas.Bool.Decides.{Decides-eqb}
use Rattle.std.proofs.lemmas.Option.{same_Some, slice_get-map}
use Rattle.std.specs.List.{range_with_len}
use Rattle.std.specs.Option.{option_map}
use Rattle.std.specs.Prelude.{nat_eq, nat_lt}
use Rattle.vx_java.specs.FirstObjects.{cells_of_chain, field_default, own_cells}
use Rattle.vx_java.specs.Machine.{Top}
use Rattle.vx_kept_states.proofs.Throwables.{behind}
use Rattle.vx_link.specs.Hierarchy.{is_among, superclass_of, superclasses}
use Rattle.vx_link.specs.Linked.{cell_count, instance_fields}
use Rattle.vx_link.specs.Parts.{field_at, fields_of, is_static_field}
use Rattle.vx_link.specs.declared.program.Program.{Program}
use Rattle.vx_list.specs.Places.{item_or}
use Rattle.vx_model.specs.declared.model.OptionField.{OptionField}
use Rattle.vx_class.specs.declared.class_file.ClassFile.{ClassFile}
use Rattle.vx_sound.specs.Sound.{HasCells}
use Rattle.vx_sound.specs.Typed.{has_field}
use Rattle.vx_sound_objects.proofs.Chains.{HasChains}
use Rattle.vx_sound_objects.proofs.Lists.{in_front, row_has}
use Rattle.vx_sound_objects.proofs.Parts.{first_field, mapped_parts}
use Rattle.vx_sound_objects.proofs.Programs.{AreLinked, IsOwnField, any_field, fields_in_row}
use Rattle.vx_sound_objects.proofs.Rising.{Rises, among_filter, filter_rises, placed, row_rises}
use Rattle.std.proofs.lemmas.Option.{slice_get_within}
use Rattle.vx_types.proofs.Tests.{both_first, both_second, either}

-- the instance fields of some classes, those of the last class first: the order of the cells
abbrev pub chain_fields : Program → List ℕ → List ℕ
chain_fields p [] = []
chain_fields p (c ∷ above) = chain_fields p above ++ instance_fields p c

cells_of_fields : (p : Program) (cs : List ℕ) → cells_of_chain p cs ≡ map (λ f. field_default (field_at p f)) (chain_fields p cs)
cells_of_fields p [] = refl
cells_of_fields p (c ∷ cs) =
    ap (λ vs. vs ++ own_cells p c) (cells_of_fields p cs) ∙ sym (mapped_parts (λ f. field_default (field_at p f)) (chain_fields p cs) (instance_fields p c))

pub chain_count : (p : Program) (cs : List ℕ) → length (chain_fields p cs) ≡ cell_count p cs
chain_count p [] = refl
chain_count p (c ∷ cs) =
    let above : length (chain_fields p cs) ≡ cell_count p cs = chain_count p cs in
    let both : length (chain_fields p cs ++ instance_fields p c) ≡ length (chain_fields p cs) + length (instance_fields p c) = length-append (chain_fields p cs) (instance_fields p c) in
    omega (arith, above, both)

is_instance : (b : Bool) → b ≡ false → not b ≡ true
is_instance b is = ap not is

not_true : (b : Bool) → not b ≡ true → b ≡ false
not_true true is = cc
not_true false is = refl

module _ (p : Program) (options : List OptionField) (names : List (List ℕ)) (files : List ClassFile) (are : AreLinked p options names files) (chains : HasChains p) where
  -- a field stands among those of its class
  pub among_own : (f : ℕ) → f < length p.fields → is_among f (fields_of p (field_at p f).class.0) ≡ true
  among_own f few =
      let own : IsOwnField p options names files (field_at p f).class.0 f = any_field p options names files are f few in
      let less : own.own < length own.class.file.fields = slice_get_within own.class.file.fields own.own own.field own.there in
      let number = own.number in
      ap (is_among f) (fields_in_row p names files (field_at p f).class.0 own.class)
      ∙ row_has f (first_field files (field_at p f).class.0) (length own.class.file.fields) (omega (arith, number)) (omega (arith, number, less))

  -- and at its place among its instance fields
  own_place : (c f : ℕ) → f < length p.fields → (field_at p f).class.0 ≡ c → is_static_field p f ≡ false
      → slice_get (instance_fields p c) (length (filter (λ g. nat_lt g f) (instance_fields p c))) ≡ Some f
  own_place c f few class instance =
      let own : IsOwnField p options names files (field_at p f).class.0 f = any_field p options names files are f few in
      let first : ℕ = first_field files (field_at p f).class.0 in
      let rises : Rises first (fields_of p (field_at p f).class.0) = rises_in (fields_of p (field_at p f).class.0) first (length own.class.file.fields) (fields_in_row p names files (field_at p f).class.0 own.class) in
      ap (λ c. slice_get (instance_fields p c) (length (filter (λ g. nat_lt g f) (instance_fields p c)))) (sym class)
      ∙ placed f first (instance_fields p (field_at p f).class.0)
      (filter_rises (λ f. not (is_static_field p f)) first (fields_of p (field_at p f).class.0) rises)
      (among_filter (λ f. not (is_static_field p f)) f (fields_of p (field_at p f).class.0) (among_own f few) (is_instance (is_static_field p f) instance))
    where
      rises_in : (fields : List ℕ) (first n : ℕ) → fields ≡ range_with_len first n → Rises first fields
      rises_in fields first n is = subst (Rises first) (sym is) (row_rises first n)

  -- the cell of a field of the lowest class of a chain
  lowest : (c f : ℕ) (above : List ℕ) → superclasses p c ≡ c ∷ above → f < length p.fields → (field_at p f).class.0 ≡ c → is_static_field p f ≡ false
      → slice_get (chain_fields p (superclasses p c)) (field_at p f).cell ≡ Some f
  lowest c f above up few class instance =
      let k : ℕ = length (filter (λ g. nat_lt g f) (instance_fields p c)) in
      let cell : (field_at p f).cell ≡ cell_count p above + k =
      are.cells f few instance
      ∙ ap (λ c. cell_count p (drop 1 (superclasses p c)) + length (filter (λ g. nat_lt g f) (instance_fields p c))) class
      ∙ ap (λ (cs : List ℕ). cell_count p (drop 1 cs) + k) up in
      let count : length (chain_fields p above) ≡ cell_count p above = chain_count p above in
      ap (λ cs. slice_get (chain_fields p cs) (field_at p f).cell) up
      ∙ behind (chain_fields p above) (instance_fields p c) (field_at p f).cell k (omega (arith, cell, count))
      ∙ own_place c f few class instance

  -- each field stands at its cell, where those of the classes above do
  at_with : (c f : ℕ) → f < length p.fields → is_static_field p f ≡ false → is_among (field_at p f).class.0 (superclasses p c) ≡ true
      → ((d : ℕ) → superclass_of p c ≡ Some d → is_among (field_at p f).class.0 (superclasses p d) ≡ true → slice_get (chain_fields p (superclasses p d)) (field_at p f).cell ≡ Some f)
      → slice_get (chain_fields p (superclasses p c)) (field_at p f).cell ≡ Some f
  at_with c f within instance among later = by_super (superclass_of p c) refl
    where
      class : ℕ
      class = (field_at p f).class.0

      only : ((nat_eq class c ≡ true) ⊎ (false ≡ true)) → class ≡ c
      only (inl same) = (Decides-eqb class c).0 same
      only (inr none) = absurd cc

      by_place : (d : ℕ) → superclass_of p c ≡ Some d → ((nat_eq class c ≡ true) ⊎ (is_among class (superclasses p d) ≡ true))
          → slice_get (chain_fields p (superclasses p c)) (field_at p f).cell ≡ Some f
      by_place d up (inl same) = lowest c f (superclasses p d) (chains.step c d up) within ((Decides-eqb class c).0 same) instance
      by_place d up (inr there) =
          ap (λ cs. slice_get (chain_fields p cs) (field_at p f).cell) (chains.step c d up)
          ∙ in_front (chain_fields p (superclasses p d)) (instance_fields p c) (field_at p f).cell f (later d up there)

      by_super : (o : Option ℕ) → superclass_of p c ≡ o → slice_get (chain_fields p (superclasses p c)) (field_at p f).cell ≡ Some f
      by_super None up =
          let one : superclasses p c ≡ c ∷ [] = chains.alone c up in
          lowest c f [] one within (only (either (nat_eq class c) (is_among class []) (ap (is_among class) (sym one) ∙ among))) instance
      by_super (Some d) up = by_place d up (either (nat_eq class c) (is_among class (superclasses p d)) (ap (is_among class) (sym (chains.step c d up)) ∙ among))

  at_cell : (most c f : ℕ) → length (superclasses p c) ≤ most → f < length p.fields → is_static_field p f ≡ false → is_among (field_at p f).class.0 (superclasses p c) ≡ true
      → slice_get (chain_fields p (superclasses p c)) (field_at p f).cell ≡ Some f
  at_cell zero c f few within instance among =
      at_with c f within instance among (λ d up there. absurd (let one : length (superclasses p c) ≡ suc (length (superclasses p d)) = ap length (chains.step c d up) in omega (arith, one, few)))
  at_cell (suc most) c f few within instance among =
      at_with c f within instance among
      (λ d up there.
      let one : length (superclasses p c) ≡ suc (length (superclasses p d)) = ap length (chains.step c d up) in
      at_cell most d f (omega (arith, one, few)) within instance there)

  pub cell_there : (c f : ℕ) → f < length p.fields → has_field p c f ≡ true → slice_get (chain_fields p (superclasses p c)) (field_at p f).cell ≡ Some f
  cell_there c f few has =
      at_cell (length (superclasses p c)) c f (omega arith) few
      (not_true (is_static_field p f) (both_first (not (is_static_field p f)) (is_among (field_at p f).class.0 (superclasses p c)) has))
      (both_second (not (is_static_field p f)) (is_among (field_at p f).class.0 (superclasses p c)) has)

  pub cells : HasCells p
  cells = record {
    own = λ c f g few_f few_g has_f has_g same.
        same_Some f g
        (sym (cell_there c f few_f has_f) ∙ ap (slice_get (chain_fields p (superclasses p c))) same ∙ cell_there c g few_g has_g);
    defaults = λ c f few has.
        ap (λ vs. item_or vs (field_at p f).cell Top) (cells_of_fields p (superclasses p c))
        ∙ ap (λ o. unwrap_or o Top) (slice_get-map (λ f. field_default (field_at p f)) (chain_fields p (superclasses p c)) (field_at p f).cell ∙ ap (option_map (λ f. field_default (field_at p f))) (cell_there c f few has));
  }
