-- Each linked program by its class files: no fault, and core classes behind the folder's.
use Rattle.std.proofs.Common.{All, List, None, Ok, [], ap, arith, length, length-append, map, refl, subst, true, ℕ, ◌++◌, ◌+◌, ◌<◌, ◌∙◌, ◌≡◌}
use Rattle.std.proofs.lemmas.List.{length-map}
use Rattle.std.proofs.lemmas.List.Folds.{list_all-append}
use Rattle.std.specs.List.{list_all}
use Rattle.vx_class.specs.File.{Holds}
use Rattle.vx_class.specs.declared.class_file.ClassFile.{ClassFile}
use Rattle.vx_families.specs.Bounds.{has_argument_room}
use Rattle.vx_jump_targets.proofs.Lists.{all_pass}
use Rattle.vx_kept_states.proofs.Throwables.{new_names}
use Rattle.vx_kept_states.proofs.WholePrograms.{first_none}
use Rattle.vx_link.specs.CoreFiles.{core_files, native_numbers}
use Rattle.vx_link.specs.CoreTable.{core_table, object_class as object_row}
use Rattle.vx_link.specs.Faults.{link_fault, twice}
use Rattle.vx_link.specs.Linked.{linked_program, methods_from, program_of}
use Rattle.vx_link.specs.Tables.{names_of}
use Rattle.vx_link.specs.Written.{WrittenClass, class_file}
use Rattle.vx_link.specs.declared.program.LinkedMethod.{LinkedMethod}
use Rattle.vx_link.specs.declared.program.Program.{Program}
use Rattle.vx_model.specs.declared.model.OptionField.{OptionField}
use Rattle.vx_program_bounds.proofs.Bounded.{no_fault}
use Rattle.vx_program_bounds.proofs.ListLaws.{all_follow, both, first_holds, second_holds}
use Rattle.vx_program_bounds.proofs.ShortCore.{short_core}
use Rattle.vx_program_bounds.proofs.ShortFiles.{is_short_file, short_file}
use Rattle.vx_program_bounds.proofs.ShortParts.{count_classes, is_short_method, short_methods}
use Rattle.vx_sound.specs.Sound.{HasCells, HasCoreObjects, HasFirstValues, HasHierarchy, HasMembers}
use Rattle.vx_sound_objects.proofs.CoreObjects.{core_objects, core_rows}
use Rattle.vx_sound_objects.proofs.FirstValues.{first_values}
use Rattle.vx_sound_objects.proofs.Cells.{cells}
use Rattle.vx_sound_objects.proofs.Chains.{HasChains, chains}
use Rattle.vx_sound_objects.proofs.Cores.{IsLinked, IsRow, object_alone, object_fields}
use Rattle.vx_sound_objects.proofs.Members.{members}
use Rattle.vx_sound_objects.proofs.Programs.{linked_parts}

-- what the program of class files comes from
pub record IsOf (p : Program) (options : List OptionField) (classes : List ClassFile) (rows : List WrittenClass) : Type 0 where
  pub linked : IsLinked p options classes rows
  pub holds : All Holds classes
  pub room : list_all has_argument_room p.methods ≡ true

-- of any rows behind a folder's classes
is_of : (rows : List WrittenClass) (numbers : List (List ℕ)) → IsRow rows "java/lang/Object" 0 object_row → list_all is_short_file (map class_file rows) ≡ true
    → (classes : List ClassFile) (options : List OptionField) (main : List ℕ) → All Holds classes → link_fault classes (map class_file rows) options main ≡ None
    → IsOf (program_of classes (map class_file rows) numbers options main) options classes rows
is_of rows numbers object short classes options main holds none = record {
  linked = record {
    are = linked_parts classes (map class_file rows) numbers options main;
    behind = record { linked = refl; new = new_names classes rows (first_none (twice (map class_file rows) classes) _ none) };
    count =
        count_classes (names_of (classes ++ map class_file rows)) (classes ++ map class_file rows) 0 0
        ∙ length-append classes (map class_file rows) ∙ ap (λ n. length classes + n) (length-map rows class_file);
    object = object;
  };
  holds = holds;
  room =
      all_follow is_short_method has_argument_room (λ m h. second_holds _ _ (first_holds _ _ h)) methods
      (list_all-append is_short_method (methods_from 0 classes []) (methods_from (length classes) (map class_file rows) numbers)
      ∙ both (short_methods 0 classes [] (all_pass Holds is_short_file short_file classes holds)) (short_methods (length classes) (map class_file rows) numbers short));
}
  where
    methods : List LinkedMethod
    methods = methods_from 0 classes [] ++ methods_from (length classes) (map class_file rows) numbers

object_is : IsRow core_table "java/lang/Object" 0 object_row
object_is = record { at = refl; named = refl }

pub linked_is : (classes : List ClassFile) (options : List OptionField) (main : List ℕ) (p : Program) → All Holds classes → linked_program classes options main ≡ Ok p → IsOf p options classes core_table
linked_is classes options main p holds is =
    let made = no_fault (link_fault classes core_files options main) (program_of classes core_files native_numbers options main) p is in
    subst (λ p. IsOf p options classes core_table) made.1 (is_of core_table native_numbers object_is short_core classes options main holds made.0)

-- ---- members

of_members : (p : Program) (options : List OptionField) (classes : List ClassFile) (rows : List WrittenClass) → IsOf p options classes rows → HasMembers p
of_members p options classes rows of =
    members p options (names_of (classes ++ map class_file rows)) (classes ++ map class_file rows) of.linked.are of.room (object_fields p options classes rows of.linked)

pub linked_have_members : (classes : List ClassFile) (options : List OptionField) (main : List ℕ) (p : Program) → All Holds classes → linked_program classes options main ≡ Ok p → HasMembers p
linked_have_members classes options main p holds is = of_members p options classes core_table (linked_is classes options main p holds is)

-- ---- cells

pub of_chains : (p : Program) (options : List OptionField) (classes : List ClassFile) (rows : List WrittenClass) → IsOf p options classes rows → 1 < length rows → HasHierarchy p → HasChains p
of_chains p options classes rows of two h =
    let count = of.linked.count in
    chains p h (omega (arith, count, two)) (object_alone p options classes rows of.linked)

of_cells : (p : Program) (options : List OptionField) (classes : List ClassFile) (rows : List WrittenClass) → IsOf p options classes rows → HasChains p → HasCells p
of_cells p options classes rows of chains =
    cells p options (names_of (classes ++ map class_file rows)) (classes ++ map class_file rows) of.linked.are chains

pub linked_have_cells : (classes : List ClassFile) (options : List OptionField) (main : List ℕ) (p : Program) → All Holds classes → linked_program classes options main ≡ Ok p → HasHierarchy p → HasCells p
linked_have_cells classes options main p holds is h =
    let of = linked_is classes options main p holds is in
    of_cells p options classes core_table of (of_chains p options classes core_table of (omega arith) h)

-- ---- core objects

pub linked_have_core_objects : (classes : List ClassFile) (options : List OptionField) (main : List ℕ) (p : Program) → All Holds classes → linked_program classes options main ≡ Ok p → HasHierarchy p → HasCoreObjects p
linked_have_core_objects classes options main p holds is h =
    let of = linked_is classes options main p holds is in
    core_objects p options classes core_table of.linked core_rows (of_chains p options classes core_table of (omega arith) h)

-- ---- what runs begin with

pub linked_have_first_values : (classes : List ClassFile) (options : List OptionField) (main : List ℕ) (p : Program) → All Holds classes → linked_program classes options main ≡ Ok p → HasHierarchy p
    → HasFirstValues p
linked_have_first_values classes options main p holds is h =
    let of = linked_is classes options main p holds is in
    first_values p options classes core_table of.linked core_rows (of_chains p options classes core_table of (omega arith) h) h holds
