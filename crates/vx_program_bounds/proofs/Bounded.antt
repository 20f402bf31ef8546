-- The program of short class files is bounded.
use Rattle.std.proofs.Common.{All, Bool, Err, List, None, Ok, Option, Result, Some, [], ap, arith, false, find, length, length-append, refl, slice_get, subst, sym, true, unwrap_or, ℕ, ◌*◌, ◌++◌, ◌+◌, ◌-◌, ◌<◌, ◌≤◌, ◌^◌, ◌∙◌, ◌≡◌}
use Rattle.std.proofs.lemmas.List.Folds.{list_all-append}
use Rattle.std.specs.List.{list_all, list_any}
use Rattle.vx_class.specs.File.{Holds}
use Rattle.vx_class.specs.declared.class_file.ClassFile.{ClassFile}
use Rattle.vx_families.specs.Bounds.{IsBounded, has_argument_room, has_short_code, is_short}
use Rattle.vx_heap.specs.Heap.{has_options}
use Rattle.vx_java.specs.Initialisation.{max_locals}
use Rattle.vx_java.specs.NativeForms.{has_form}
use Rattle.vx_link.specs.CoreFiles.{core_count}
use Rattle.vx_link.specs.Faults.{bad_super, cycle, file_named, is_main, link_fault, no_main, no_option, passes, twice}
use Rattle.vx_link.specs.Linked.{fields_from, is_main_method, linked_classes, methods_from, methods_named, program_of, program_with, unless_fault}
use Rattle.vx_link.specs.Parts.{no_method}
use Rattle.vx_link.specs.Tables.{names_of}
use Rattle.vx_link.specs.declared.fault.LinkFault.{LinkFault}
use Rattle.vx_link.specs.declared.fault.LinkFault.TheVariants.{NoMain}
use Rattle.vx_link.specs.declared.program.LinkedMethod.{LinkedMethod}
use Rattle.vx_link.specs.declared.program.Program.{Program}
use Rattle.vx_program_bounds.proofs.ListLaws.{all_follow, both, first_holds, last_none, second_holds}
use Rattle.vx_program_bounds.proofs.MainRoom.{HasMain, main_among}
use Rattle.vx_program_bounds.proofs.NativeForms.{plain_forms}
use Rattle.vx_program_bounds.proofs.ShortFiles.{is_short_file, short_file}
use Rattle.vx_program_bounds.proofs.ShortParts.{count_classes, is_short_method, options_below, options_laid, short_classes, short_fields, short_laid, short_methods}
use Rattle.vx_jump_targets.proofs.Lists.{all_pass}
use Rattle.vx_list.specs.Places.{item_or}
use Rattle.vx_model.specs.declared.model.OptionField.{OptionField}

-- ---- no fault

pub no_fault : (fault : Option LinkFault) (made p : Program) → unless_fault fault made ≡ Ok p → (fault ≡ None) × (made ≡ p)
no_fault None made p is = (refl, ap (program_in made) is)
  where
    program_in : Program → Result Program LinkFault → Program
    program_in other (Ok p) = p
    program_in other (Err fault) = other
no_fault (Some fault) made p is = cc

has_main : (b : Bool) → ◌≡◌ {A = Option LinkFault} (elim b [ true ↦ None | false ↦ Some NoMain ]) None → b ≡ true
has_main true is = refl
has_main false is = cc

pub main_declared : (classes core : List ClassFile) (options : List OptionField) (main : List ℕ) → link_fault classes core options main ≡ None
    → passes (λ c. list_any (is_main c) c.methods) (file_named classes main) ≡ true
main_declared classes core options main is =
    has_main
    (passes (λ c. list_any (is_main c) c.methods) (file_named classes main))
    (last_none (no_option classes options) (no_main classes main)
    (last_none (cycle (classes ++ core) classes) _
    (last_none (bad_super (classes ++ core) classes) _
    (last_none (twice core classes) _ is))))

-- ---- main

found_room : (methods : List LinkedMethod) (numbers : List ℕ) → HasMain methods numbers
    → 0 < max_locals (item_or methods (unwrap_or (find (λ m. is_main_method (slice_get methods m)) numbers) 0) no_method).code
found_room methods numbers has =
    let P : Option ℕ → Type 0 = λ o. 0 < max_locals (item_or methods (unwrap_or o 0) no_method).code in
    subst P (sym has.found) has.room

-- ---- numbers

class_numbers : (count : ℕ) → count ≤ 1070 → count + (257 - 1) * (count + 8) + 0 ≤ 2 ^ 32
class_numbers count few = omega (arith, few)

-- ---- the whole

abbrev IsGood : List OptionField → Program → Type 0
IsGood options p = IsBounded p × (has_options (length options) p.fields ≡ true)

good : (classes core : List ClassFile) (numbers : List (List ℕ)) (options : List OptionField) (main : List ℕ)
    → length classes ≤ 1024 → All Holds classes → length core ≡ core_count → list_all is_short_file core ≡ true
    → ((class : ℕ) → list_all has_form (methods_from class core numbers) ≡ true)
    → passes (λ c. list_any (is_main c) c.methods) (file_named classes main) ≡ true
    → IsGood options (program_of classes core numbers options main)
good classes core numbers options main few holds count short_core core_forms declared =
    let all : List ClassFile = classes ++ core in
    let names : List (List ℕ) = names_of all in
    let methods : List LinkedMethod = methods_from 0 classes [] ++ methods_from (length classes) core numbers in
    let laid : Program = program_with (linked_classes names all 0 0) methods (fields_from options 0 all) options main in
    let short_classes_read : list_all is_short_file classes ≡ true = all_pass Holds is_short_file short_file classes holds in
    let short_all : list_all is_short_file all ≡ true = list_all-append is_short_file classes core ∙ both short_classes_read short_core in
    let methods_short : list_all is_short_method methods ≡ true =
    list_all-append is_short_method (methods_from 0 classes []) (methods_from (length classes) core numbers)
    ∙ both (short_methods 0 classes [] short_classes_read) (short_methods (length classes) core numbers short_core) in
    let counted : length (linked_classes names all 0 0) ≡ length classes + core_count =
    count_classes names all 0 0 ∙ length-append classes core ∙ ap (λ n. length classes + n) count in
    let enough : core_count ≤ length (linked_classes names all 0 0) = omega (arith, counted) in
    let small : length (linked_classes names all 0 0) ≤ 1070 = omega (arith, counted, few) in (
      record {
        classes = class_numbers (length (linked_classes names all 0 0)) small;
        core = enough;
        texts = short_classes names all 0 0 short_all;
        codes = all_follow is_short_method (λ m. has_short_code m.code) (λ m h. first_holds _ _ (first_holds _ _ h)) methods methods_short;
        arguments = all_follow is_short_method has_argument_room (λ m h. second_holds _ _ (first_holds _ _ h)) methods methods_short;
        natives = list_all-append has_form (methods_from 0 classes []) (methods_from (length classes) core numbers)
            ∙ both (plain_forms 0 classes) (core_forms (length classes));
        signatures = all_follow is_short_method (λ m. is_short (length m.descriptor)) (λ m h. second_holds _ _ h) methods methods_short;
        main = found_room methods (methods_named (linked_classes names all 0 0) main)
            (main_among names core main methods classes 0 0 0 [] (methods_from (length classes) core numbers) refl refl holds declared);
        types = short_laid laid 0 (fields_from options 0 all) (short_fields options 0 all short_all);
      },
      options_laid (length options) laid 0 (fields_from options 0 all) (options_below options 0 all),
    )

-- of any core classes that are short, and whose native methods have the forms of their numbers
pub bounded : (core : List ClassFile) (numbers : List (List ℕ)) → length core ≡ core_count → list_all is_short_file core ≡ true
    → ((class : ℕ) → list_all has_form (methods_from class core numbers) ≡ true)
    → (classes : List ClassFile) (options : List OptionField) (main : List ℕ) (p : Program) → length classes ≤ 1024 → All Holds classes
    → unless_fault (link_fault classes core options main) (program_of classes core numbers options main) ≡ Ok p → IsGood options p
bounded core numbers count short_core core_forms classes options main p few holds is =
    let made = no_fault (link_fault classes core options main) (program_of classes core numbers options main) p is in
    let P : Program → Type 0 = IsGood options in
    subst P made.1 (good classes core numbers options main few holds count short_core core_forms (main_declared classes core options main made.0))
