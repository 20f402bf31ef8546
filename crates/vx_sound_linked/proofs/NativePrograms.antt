-- The native methods of a linked program have the forms of their numbers, and stand in their classes.
use Rattle.std.proofs.Common.{Bool, List, None, Option, Some, [], ap, arith, codes, drop, false, inl, inr, is_some, length, length-append, map, not, refl, slice_get, subst, suc, sym, take, true, unwrap_or, zero, ℕ, ◌&&◌, ◌++◌, ◌+◌, ◌∙◌, ◌∷◌, ◌≡◌, ◌≤◌}
use Prim.Native.String.{String}
use Rattle.std.proofs.lemmas.List.{length-map}
use Rattle.std.proofs.lemmas.List.Folds.{list_all-append}
use Rattle.std.specs.List.{list_all}
use Rattle.std.specs.Prelude.{◌==◌, ◌||◌}
use Rattle.vx_class.specs.Members.{INTERFACE, has}
use Rattle.vx_class.specs.declared.class_file.ClassFile.{ClassFile}
use Rattle.vx_pool.specs.Holding.{and_true}
use Rattle.vx_java.specs.NativeForms.{form_of, has_form}
use Rattle.vx_kept_states.proofs.Throwables.{AreRows, climbs, core_is, place_in, reaches_by}
use Rattle.vx_kept_facts.proofs.KeptRows.{item_passes}
use Rattle.vx_link.specs.ClassNames.{core_class}
use Rattle.vx_link.specs.CoreFiles.{core_files, native_numbers, number_of}
use Rattle.vx_link.specs.CoreTable.{core_table}
use Rattle.vx_link.specs.Faults.{link_fault, twice}
use Rattle.vx_link.specs.Hierarchy.{is_among, superclasses}
use Rattle.vx_link.specs.Linked.{linked_classes, methods_from, program_of}
use Rattle.vx_link.specs.Parts.{class_count, is_interface, no_class, no_method}
use Rattle.vx_link.specs.Tables.{names_of}
use Rattle.vx_link.specs.Written.{WrittenClass, class_file}
use Rattle.vx_link.specs.declared.program.LinkedClass.{LinkedClass}
use Rattle.vx_link.specs.declared.program.LinkedMethod.{LinkedMethod}
use Rattle.vx_link.specs.declared.program.Program.{Program}
use Rattle.vx_list.specs.Places.{item_or}
use Rattle.vx_model.specs.declared.model.OptionField.{OptionField}
use Rattle.vx_program_bounds.proofs.Bounded.{no_fault}
use Rattle.vx_program_bounds.proofs.ListLaws.{both}
use Rattle.vx_program_bounds.proofs.NativeForms.{core_forms, plain_forms}
use Rattle.vx_program_bounds.proofs.ShortCore.{all_rows, more_rows}
use Rattle.vx_program_bounds.proofs.ShortParts.{count_classes}
use Rattle.vx_sound.specs.Sound.{HasNatives, IsBelowCore, class_of_number}
use Rattle.vx_sound_linked.proofs.MethodFiles.{IsFrom, IsOfClass, at_place, class_from, file_behind, in_either, item_cases, method_from}
use Rattle.vx_sound_linked.proofs.NamePlaces.{are_apart, are_rows, core_apart, once_from, row_found, row_there}
use Rattle.vx_sound_linked.specs.Law.{LinkedHaveNatives}

-- ---- rows

mapped_there : (rows : List WrittenClass) (k : ℕ) (row : WrittenClass) → slice_get rows k ≡ Some row → slice_get (map class_file rows) k ≡ Some (class_file row)
mapped_there [] k row there = absurd cc
mapped_there (r ∷ rows) zero row there = let same : r ≡ row = cc in ap (λ (x : WrittenClass). Some (class_file x)) same
mapped_there (r ∷ rows) (suc k) row there = mapped_there rows k row there

-- ---- numbers

abbrev numbers_of : WrittenClass → List ℕ
numbers_of row = map (λ m. number_of m.how) row.methods

-- a row is that of a name or below it, in fewer steps than a number, and no interface
abbrev is_below : List WrittenClass → (steps : ℕ) → WrittenClass → Option ℕ → Bool
is_below rows steps row None = false
is_below rows steps row (Some top) = reaches_by rows steps top (place_in rows (codes row.name)) && not (has (class_file row).flags INTERFACE)

abbrev is_of_class : List WrittenClass → (steps : ℕ) → WrittenClass → Option String → Bool
is_of_class rows steps row None = true
is_of_class rows steps row (Some name) = is_below rows steps row (place_in rows (codes name))

-- a number has a form, and the row is that of the class of the number, if it has one, or below it
abbrev is_number_of : List WrittenClass → (steps : ℕ) → WrittenClass → ℕ → Bool
is_number_of rows steps row n = (n == 0 || is_some (form_of n)) && is_of_class rows steps row (class_of_number n)

abbrev has_numbers : List WrittenClass → (steps : ℕ) → WrittenClass → Bool
has_numbers rows steps row = list_all (is_number_of rows steps row) (numbers_of row)

numbers_there : (rows : List WrittenClass) (k : ℕ) (row : WrittenClass) → slice_get rows k ≡ Some row → item_or (map numbers_of rows) k [] ≡ numbers_of row
numbers_there [] k row there = absurd cc
numbers_there (r ∷ rows) zero row there = let same : r ≡ row = cc in ap numbers_of same
numbers_there (r ∷ rows) (suc k) row there = numbers_there rows k row there

form_there : (n : ℕ) → (n == 0 || is_some (form_of n)) ≡ true → (n == 0) ≡ false → is_some (form_of n) ≡ true
form_there n has some = by (n == 0) has some
  where
    by : (b : Bool) → (b || is_some (form_of n)) ≡ true → b ≡ false → is_some (form_of n) ≡ true
    by true h s = absurd cc
    by false h s = h

module _ (classes : List ClassFile) (rows : List WrittenClass) (options : List OptionField) (main : List ℕ) (once : twice (map class_file rows) classes ≡ None) (apart : are_apart rows ≡ true)
    (forms : list_all has_form (methods_from (length classes) (map class_file rows) (map numbers_of rows)) ≡ true) (steps : ℕ) (few : steps ≤ length rows) (numbered : list_all (has_numbers rows steps) rows ≡ true) where
  abbrev p : Program
  p = program_of classes (map class_file rows) (map numbers_of rows) options main

  -- what is said of a method
  record IsNative (m : LinkedMethod) : Type 0 where
    pub number : (m.native == 0) ≡ false → is_some (form_of m.native) ≡ true
    pub class : (name : String) → class_of_number m.native ≡ Some name → IsBelowCore p m.class.0 name

  no_native : (m : LinkedMethod) → m.native ≡ 0 → IsNative m
  no_native m none = record {
    number = λ some. let q : (0 == 0) ≡ false = subst (λ n. (n == 0) ≡ false) none some in absurd cc;
    class = λ name is. let q : class_of_number 0 ≡ Some name = subst (λ n. class_of_number n ≡ Some name) none is in absurd cc;
  }

  are : AreRows p classes rows
  are = are_rows classes rows (map numbers_of rows) options main once

  not_true : (b : Bool) → not b ≡ true → b ≡ false
  not_true true h = absurd cc
  not_true false h = refl

  -- the class of a row is no interface where the row is none
  plain_row : (k : ℕ) (row : WrittenClass) → slice_get rows k ≡ Some row → has (class_file row).flags INTERFACE ≡ false → is_interface p (length classes + k) ≡ false
  plain_row k row there plain =
      let all : List ClassFile = classes ++ map class_file rows in
      let linked = class_from (names_of all) all 0 0 (length classes + k) (class_file row) (file_behind classes (map class_file rows) k (class_file row) (mapped_there rows k row there)) in
      ap (λ (o : Option LinkedClass). has (unwrap_or o no_class).flags.0 INTERFACE) linked.2 ∙ plain

  -- what is above a row is above its class
  row_climbs : (k : ℕ) (row : WrittenClass) → slice_get rows k ≡ Some row → (name : String) (top : ℕ) → place_in rows (codes name) ≡ Some top
      → reaches_by rows steps top (place_in rows (codes row.name)) ≡ true → is_among (core_class p name) (superclasses p (length classes + k)) ≡ true
  row_climbs k row there name top placed reaches =
      let all : List ClassFile = classes ++ map class_file rows in
      let count : length (linked_classes (names_of all) all 0 0) ≡ length classes + length rows =
      count_classes (names_of all) all 0 0 ∙ length-append classes (map class_file rows) ∙ ap (λ n. length classes + n) (length-map rows class_file) in
      subst (λ c. is_among c (superclasses p (length classes + k)) ≡ true) (sym (core_is p classes rows are name top placed))
      (climbs p classes rows are steps (class_count p) top (Some k) (omega (arith, few, count))
      (subst (λ (o : Option ℕ). reaches_by rows steps top o ≡ true) (row_found rows apart k row there) reaches))

  of_number : (m : LinkedMethod) (k : ℕ) (row : WrittenClass) → slice_get rows k ≡ Some row → m.class.0 ≡ length classes + k → is_number_of rows steps row m.native ≡ true → IsNative m
  of_number m k row there class ok = record {
    number = form_there m.native parts.0;
    class = λ name is. subst (λ c. IsBelowCore p c name) (sym class)
        (of_class name (place_in rows (codes name)) refl (subst (λ (o : Option String). is_of_class rows steps row o ≡ true) is parts.1));
  }
    where
      parts : ((m.native == 0 || is_some (form_of m.native)) ≡ true) × (is_of_class rows steps row (class_of_number m.native) ≡ true)
      parts = and_true (m.native == 0 || is_some (form_of m.native)) (is_of_class rows steps row (class_of_number m.native)) ok

      of_class : (name : String) (o : Option ℕ) → place_in rows (codes name) ≡ o → is_below rows steps row o ≡ true → IsBelowCore p (length classes + k) name
      of_class name None placed below = absurd cc
      of_class name (Some top) placed below =
          let both = and_true (reaches_by rows steps top (place_in rows (codes row.name))) (not (has (class_file row).flags INTERFACE)) below in
          record { proper = plain_row k row there (not_true (has (class_file row).flags INTERFACE) both.1); below = row_climbs k row there name top placed both.0 }

  folder_native : (m : LinkedMethod) → IsFrom 0 classes [] m → IsNative m
  folder_native m q = by q.method
    where
      by : IsOfClass (0 + q.place) q.file (item_or [] q.place []) m → IsNative m
      by (inl written) = no_native m (ap (λ (x : LinkedMethod). x.native) written.is)
      by (inr made) = no_native m (ap (λ (x : LinkedMethod). x.native) made)

  core_native : (m : LinkedMethod) → IsFrom (length classes) (map class_file rows) (map numbers_of rows) m → IsNative m
  core_native m q = by q.method
    where
      row : WrittenClass
      row = (row_there rows q.place q.file q.there).0

      there : slice_get rows q.place ≡ Some row
      there = (row_there rows q.place q.file q.there).1

      by : IsOfClass (length classes + q.place) q.file (item_or (map numbers_of rows) q.place []) m → IsNative m
      by (inl written) =
          let number : m.native ≡ item_or (numbers_of row) written.place 0 =
          ap (λ (x : LinkedMethod). x.native) written.is ∙ ap (λ (ns : List ℕ). item_or ns written.place 0) (numbers_there rows q.place row there) in
          of_number m q.place row there (ap (λ (x : LinkedMethod). x.class.0) written.is)
          (subst (λ n. is_number_of rows steps row n ≡ true) (sym number)
          (item_passes (is_number_of rows steps row) (numbers_of row) written.place 0 (at_place (has_numbers rows steps) rows q.place row numbered there) refl))
      by (inr made) = no_native m (ap (λ (x : LinkedMethod). x.native) made)

  natives_there : (n : ℕ) → IsNative (item_or p.methods n no_method)
  natives_there n = elim (item_cases p.methods n no_method) [
    | inl none ↦ subst IsNative (sym none) (no_native no_method refl)
    | inr found ↦ subst IsNative (sym found.2) (elim (in_either (methods_from 0 classes []) (methods_from (length classes) (map class_file rows) (map numbers_of rows)) n found.0 found.1) [
      | inl front ↦ folder_native found.0 (method_from 0 classes [] n found.0 front)
      | inr back ↦ core_native found.0 (method_from (length classes) (map class_file rows) (map numbers_of rows) back.0 found.0 back.1)
    ])
  ]

  have_forms : list_all has_form p.methods ≡ true
  have_forms = list_all-append has_form (methods_from 0 classes []) (methods_from (length classes) (map class_file rows) (map numbers_of rows)) ∙ both (plain_forms 0 classes) forms

  pub natives : HasNatives p
  natives = record {
    forms = λ m. item_passes has_form p.methods m no_method have_forms refl;
    numbers = λ m some. (natives_there m).number some;
    classes = λ m name is. (natives_there m).class name is;
  }

-- the core classes, in runs of the table
abbrev is_numbered : WrittenClass → Bool
is_numbered = has_numbers core_table 8

first_rows : list_all is_numbered (take 9 core_table) ≡ true
first_rows = refl

text_rows : list_all is_numbered (take 3 (drop 9 core_table)) ≡ true
text_rows = refl

value_rows : list_all is_numbered (take 6 (drop 12 core_table)) ≡ true
value_rows = refl

general_rows : list_all is_numbered (take 7 (drop 18 core_table)) ≡ true
general_rows = refl

exception_rows : list_all is_numbered (take 10 (drop 25 core_table)) ≡ true
exception_rows = refl

error_rows : list_all is_numbered (take 11 (drop 35 core_table)) ≡ true
error_rows = refl

core_numbered : list_all is_numbered core_table ≡ true
core_numbered =
    ap (list_all is_numbered) (sym all_rows)
    ∙ more_rows is_numbered 35 11 core_table
    (more_rows is_numbered 25 10 core_table
    (more_rows is_numbered 18 7 core_table
    (more_rows is_numbered 12 6 core_table (more_rows is_numbered 9 3 core_table first_rows text_rows) value_rows)
    general_rows)
    exception_rows)
    error_rows

pub linked_natives : LinkedHaveNatives
linked_natives classes options main p holds is =
    let made = no_fault (link_fault classes core_files options main) (program_of classes core_files native_numbers options main) p is in
    subst HasNatives made.1
    (natives classes core_table options main (once_from classes core_files options main made.0) core_apart (core_forms (length classes)) 8 (omega arith) core_numbered)
