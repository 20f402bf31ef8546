-- The program of class files that a reading can give is whole.
use Rattle.std.proofs.Common.{All, List, None, Ok, Option, Some, [], ap, append-nil, arith, is_some, length, length-append, map, refl, slice_get, subst, sym, true, unwrap_or, ℕ, ◌++◌, ◌+◌, ◌<◌, ◌≤◌, ◌∙◌, ◌≡◌}
use Rattle.std.proofs.lemmas.List.{length-map}
use Rattle.std.proofs.lemmas.List.Folds.{list_all-append}
use Rattle.std.specs.Cmp.Derive.{both_true}
use Rattle.std.specs.List.{find, list_all}
use Rattle.std.specs.Option.{option_or}
use Rattle.vx_class.specs.File.{Holds}
use Rattle.vx_class.specs.declared.class_file.ClassFile.{ClassFile}
use Rattle.vx_class.specs.declared.class_file.Code.{Code}
use Rattle.vx_java.specs.Initialisation.{max_locals}
use Rattle.vx_jump_targets.proofs.Lists.{all_pass}
use Rattle.vx_jump_targets.proofs.PlacedCore.{placed_core}
use Rattle.vx_jump_targets.proofs.WellPlaced as well_placed
use Rattle.vx_jump_targets.specs.Placed.{are_well_placed}
use Rattle.vx_kept_facts.specs.Law.{IsRunnable, has_bytes}
use Rattle.vx_kept_states.proofs.Throwables.{AreBelow, AreRows, core_below, new_names, raised_are_throwable}
use Rattle.vx_kept_states.proofs.WholeFiles.{is_whole_file, whole_core, whole_file}
use Rattle.vx_kept_states.proofs.WholeMethods.{begins_in, classes_begin, codes_have_bytes}
use Rattle.vx_link.specs.CoreFiles.{core_count, core_files, native_numbers}
use Rattle.vx_link.specs.CoreTable.{core_table}
use Rattle.vx_link.specs.Faults.{link_fault, twice}
use Rattle.vx_link.specs.Linked.{is_main_method, linked_classes, linked_program, methods_from, methods_named, program_of, unless_fault}
use Rattle.vx_link.specs.Parts.{class_count, no_method}
use Rattle.vx_link.specs.Tables.{names_of}
use Rattle.vx_link.specs.Written.{WrittenClass, class_file}
use Rattle.vx_link.specs.declared.program.LinkedMethod.{LinkedMethod}
use Rattle.vx_link.specs.declared.program.Program.{Program}
use Rattle.vx_list.specs.Places.{item_or}
use Rattle.vx_model.specs.declared.model.OptionField.{OptionField}
use Rattle.vx_program_bounds.proofs.Bounded.{main_declared, no_fault}
use Rattle.vx_program_bounds.proofs.MainRoom.{HasMain, main_among}
use Rattle.vx_program_bounds.proofs.ShortParts.{count_classes}

-- ---- no fault

pub first_none : {A : Type 0} (first last : Option A) → option_or first last ≡ None → first ≡ None
first_none None last is = refl
first_none (Some x) last is = cc

-- ---- main

room_is_code : (code : Option Code) → 0 < max_locals code → is_some code ≡ true
room_is_code None room = absurd (omega (arith, room))
room_is_code (Some code) room = refl

found_code : (methods : List LinkedMethod) (numbers : List ℕ) → HasMain methods numbers
    → is_some (item_or methods (unwrap_or (find (λ m. is_main_method (slice_get methods m)) numbers) 0) no_method).code ≡ true
found_code methods numbers has =
    ap (λ o. is_some (item_or methods (unwrap_or o 0) no_method).code) has.found ∙ room_is_code (item_or methods has.number no_method).code has.room

-- ---- the whole

whole_program : (rows : List WrittenClass) (core : List ClassFile) (numbers : List (List ℕ)) → core ≡ map class_file rows → length core ≡ core_count → AreBelow rows
    → list_all is_whole_file core ≡ true → (classes : List ClassFile) (options : List OptionField) (main : List ℕ) → All Holds classes
    → link_fault classes core options main ≡ None → are_well_placed (program_of classes core numbers options main) ≡ true → IsRunnable (program_of classes core numbers options main)
whole_program rows core numbers same count below whole_core classes options main holds is placed =
    record {
      core = enough;
      throwable = raised_are_throwable p classes rows are below;
      placed = placed;
      bytes =
          list_all-append (λ m. has_bytes m.code) folder (methods_from (length classes) core numbers)
          ∙ both_true (codes_have_bytes 0 classes [] whole_folder) (codes_have_bytes (length classes) core numbers whole_core);
      main =
          found_code methods (methods_named (linked_classes names all 0 0) main)
          (main_among names core main methods classes 0 0 0 [] (methods_from (length classes) core numbers) refl refl holds
          (main_declared classes core options main is));
      initialisers = classes_begin names methods classes [] 0 0 0 [] (methods_from (length classes) core numbers) refl refl whole_folder core core_begins;
    }
  where
    all : List ClassFile
    all = classes ++ core

    names : List (List ℕ)
    names = names_of all

    folder : List LinkedMethod
    folder = methods_from 0 classes []

    methods : List LinkedMethod
    methods = folder ++ methods_from (length classes) core numbers

    p : Program
    p = program_of classes core numbers options main

    whole_folder : list_all is_whole_file classes ≡ true
    whole_folder = all_pass Holds is_whole_file whole_file classes holds

    are : AreRows p classes rows
    are = record {
      linked = ap (λ core. linked_classes (names_of (classes ++ core)) (classes ++ core) 0 0) same;
      new = new_names classes rows (ap (λ core. twice core classes) (sym same) ∙ first_none (twice core classes) _ is);
    }

    enough : core_count ≤ class_count p
    enough =
        let counted : length (linked_classes names all 0 0) ≡ length classes + core_count =
        count_classes names all 0 0 ∙ length-append classes core ∙ ap (λ n. length classes + n) count in
        omega (arith, counted)

    core_begins : (from fields : ℕ) → length folder ≡ from → list_all (begins_in methods) (linked_classes names core from fields) ≡ true
    core_begins from fields before =
        ap (λ files. list_all (begins_in methods) (linked_classes names files from fields)) (sym (append-nil core))
        ∙ classes_begin names methods core numbers (length classes) from fields folder []
        (ap (λ ms. folder ++ ms) (sym (append-nil (methods_from (length classes) core numbers))))
        before
        whole_core
        []
        (λ from fields last. refl)

pub linked_are_runnable : (classes : List ClassFile) (options : List OptionField) (main : List ℕ) (p : Program) → All Holds classes → linked_program classes options main ≡ Ok p → IsRunnable p
linked_are_runnable classes options main p holds is =
    let made = no_fault (link_fault classes core_files options main) (program_of classes core_files native_numbers options main) p is in
    subst IsRunnable made.1
    (whole_program core_table core_files native_numbers refl (length-map core_table class_file) core_below whole_core classes options main holds made.0
    (well_placed.placed core_files native_numbers placed_core classes options main (program_of classes core_files native_numbers options main) holds
    (ap (λ fault. unless_fault fault (program_of classes core_files native_numbers options main)) made.0)))
