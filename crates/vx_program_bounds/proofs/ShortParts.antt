-- The parts of a linked program are short where its class files are, and its options are those that there are.
use Rattle.std.proofs.Common.{Bool, List, [], ap, bytes_eq, codes, false, if◌then◌else◌, is_some, length, map, position, refl, suc, true, ℕ, ◌&&◌, ◌+◌, ◌∙◌, ◌∷◌, ◌≡◌}
use Rattle.std.proofs.lemmas.List.Folds.{list_all-append}
use Rattle.std.specs.List.{list_all}
use Rattle.vx_class.specs.declared.class_file.ClassFile.{ClassFile}
use Rattle.vx_class.specs.declared.class_file.Field.{Field}
use Rattle.vx_class.specs.declared.class_file.Method.{Method}
use Rattle.vx_desc.specs.Descriptors.{element_at, field_of, method_of, result_at, type_at, types_at}
use Rattle.vx_desc.specs.Names.{is_class_name}
use Rattle.vx_families.specs.Bounds.{has_argument_room, has_short_code, has_short_texts, is_short, is_short_entry}
use Rattle.vx_heap.specs.Heap.{has_option, has_options}
use Rattle.vx_link.specs.Faults.{name_of}
use Rattle.vx_link.specs.Linked.{empty_clinit, fields_from, fields_with_layout, is_place, linked_classes, linked_field, linked_methods, method_count, methods_from, methods_of_class, option_of, own_clinit}
use Rattle.vx_link.specs.Names.{utf8}
use Rattle.vx_link.specs.declared.program.LinkedField.{LinkedField}
use Rattle.vx_link.specs.declared.program.LinkedMethod.{LinkedMethod}
use Rattle.vx_link.specs.declared.program.Program.{Program}
use Rattle.vx_program_bounds.proofs.ListLaws.{both, first_holds, place_below, place_if, second_holds}
use Rattle.vx_program_bounds.proofs.ShortFiles.{is_short_file, is_short_in, short_text}
use Rattle.vx_model.specs.declared.model.OptionField.{OptionField}
use Rattle.vx_pool.specs.declared.pool.Pool.{Pool}

-- ---- classes

pub short_classes : (names : List (List ℕ)) (files : List ClassFile) (methods fields : ℕ) → list_all is_short_file files ≡ true
    → list_all has_short_texts (linked_classes names files methods fields) ≡ true
short_classes names [] methods fields h = refl
short_classes names (c ∷ files) methods fields h =
    both (first_holds _ _ (first_holds _ _ h)) (short_classes names files (methods + method_count c) (fields + length c.fields) (second_holds _ _ h))

pub count_classes : (names : List (List ℕ)) (files : List ClassFile) (methods fields : ℕ) → length (linked_classes names files methods fields) ≡ length files
count_classes names [] methods fields = refl
count_classes names (c ∷ files) methods fields = ap suc (count_classes names files (methods + method_count c) (fields + length c.fields))

-- ---- methods

-- its code, the local variables that this has for the arguments, and its descriptor
abbrev pub is_short_method : LinkedMethod → Bool
is_short_method m = (has_short_code m.code && has_argument_room m) && is_short (length m.descriptor)

short_methods_of : (class : ℕ) (pool : Pool) (methods : List Method) (numbers : List ℕ) → list_all is_short_entry pool.entries ≡ true
    → list_all (is_short_in pool) methods ≡ true → list_all is_short_method (linked_methods class pool methods numbers) ≡ true
short_methods_of class pool [] numbers texts h = refl
short_methods_of class pool (m ∷ methods) [] texts h =
    both (both (first_holds _ _ h) (short_text pool m.descriptor texts)) (short_methods_of class pool methods [] texts (second_holds _ _ h))
short_methods_of class pool (m ∷ methods) (n ∷ numbers) texts h =
    both (both (first_holds _ _ h) (short_text pool m.descriptor texts)) (short_methods_of class pool methods numbers texts (second_holds _ _ h))

short_clinit : (class : ℕ) (own : Bool) → list_all is_short_method (if own then [] else empty_clinit class ∷ []) ≡ true
unfolding element_at field_of is_class_name method_of result_at type_at types_at
short_clinit class true = refl
short_clinit class false = refl

short_methods_in : (class : ℕ) (c : ClassFile) (numbers : List ℕ) → is_short_file c ≡ true → list_all is_short_method (methods_of_class class c numbers) ≡ true
short_methods_in class c numbers h =
    list_all-append is_short_method (linked_methods class c.pool c.methods numbers) (if is_some (own_clinit c) then [] else empty_clinit class ∷ [])
    ∙ both (short_methods_of class c.pool c.methods numbers (first_holds _ _ h) (second_holds _ _ h)) (short_clinit class (is_some (own_clinit c)))

pub short_methods : (class : ℕ) (files : List ClassFile) (numbers : List (List ℕ)) → list_all is_short_file files ≡ true
    → list_all is_short_method (methods_from class files numbers) ≡ true
short_methods class [] numbers h = refl
short_methods class (c ∷ files) [] h =
    list_all-append is_short_method (methods_of_class class c []) (methods_from (suc class) files [])
    ∙ both (short_methods_in class c [] (first_holds _ _ h)) (short_methods (suc class) files [] (second_holds _ _ h))
short_methods class (c ∷ files) (ns ∷ numbers) h =
    list_all-append is_short_method (methods_of_class class c ns) (methods_from (suc class) files numbers)
    ∙ both (short_methods_in class c ns (first_holds _ _ h)) (short_methods (suc class) files numbers (second_holds _ _ h))

-- ---- fields

short_fields_in : (options : List OptionField) (class : ℕ) (c : ClassFile) (fields : List Field) → list_all is_short_entry c.pool.entries ≡ true
    → list_all (λ f. is_short (length f.descriptor)) (map (linked_field options class c) fields) ≡ true
short_fields_in options class c [] h = refl
short_fields_in options class c (f ∷ fields) h = both (short_text c.pool f.descriptor h) (short_fields_in options class c fields h)

pub short_fields : (options : List OptionField) (class : ℕ) (files : List ClassFile) → list_all is_short_file files ≡ true
    → list_all (λ f. is_short (length f.descriptor)) (fields_from options class files) ≡ true
short_fields options class [] h = refl
short_fields options class (c ∷ files) h =
    list_all-append (λ f. is_short (length f.descriptor)) (map (linked_field options class c) c.fields) (fields_from options (suc class) files)
    ∙ both (short_fields_in options class c c.fields (first_holds _ _ (first_holds _ _ h))) (short_fields options (suc class) files (second_holds _ _ h))

pub short_laid : (p : Program) (f : ℕ) (fields : List LinkedField) → list_all (λ f. is_short (length f.descriptor)) fields ≡ true
    → list_all (λ f. is_short (length f.descriptor)) (fields_with_layout p f fields) ≡ true
short_laid p f [] h = refl
short_laid p f (field ∷ fields) h = both (first_holds _ _ h) (short_laid p (suc f) fields (second_holds _ _ h))

-- ---- options

option_below : (options : List OptionField) (c : ClassFile) (f : Field) → has_option (length options) (option_of options c f) ≡ true
option_below options c f =
    place_if
    (length options)
    (bytes_eq (utf8 c.pool f.descriptor) (codes "Z"))
    (position (λ o. is_place (name_of c) (utf8 c.pool f.name) o.place) options)
    (place_below (λ o. is_place (name_of c) (utf8 c.pool f.name) o.place) options)

options_in : (options : List OptionField) (class : ℕ) (c : ClassFile) (fields : List Field)
    → has_options (length options) (map (linked_field options class c) fields) ≡ true
options_in options class c [] = refl
options_in options class c (f ∷ fields) = both (option_below options c f) (options_in options class c fields)

pub options_below : (options : List OptionField) (class : ℕ) (files : List ClassFile) → has_options (length options) (fields_from options class files) ≡ true
options_below options class [] = refl
options_below options class (c ∷ files) =
    list_all-append (λ f. has_option (length options) f.option) (map (linked_field options class c) c.fields) (fields_from options (suc class) files)
    ∙ both (options_in options class c c.fields) (options_below options (suc class) files)

pub options_laid : (n : ℕ) (p : Program) (f : ℕ) (fields : List LinkedField) → has_options n fields ≡ true → has_options n (fields_with_layout p f fields) ≡ true
options_laid n p f [] h = refl
options_laid n p f (field ∷ fields) h = both (first_holds _ _ h) (options_laid n p (suc f) fields (second_holds _ _ h))
