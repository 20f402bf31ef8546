-- The native methods of a linked program have the forms of their numbers: those of the core classes by computation, in runs of the table, and no other method has a number.
use Rattle.std.proofs.Common.{Bool, List, None, Option, Some, [], ap, drop, false, if◌then◌else◌, is_some, map, refl, sym, suc, take, true, ℕ, ◌&&◌, ◌∙◌, ◌∷◌, ◌≡◌}
use Rattle.std.proofs.lemmas.List.Folds.{list_all-append}
use Rattle.std.specs.List.{list_all}
use Rattle.vx_class.specs.declared.class_file.ClassFile.{ClassFile}
use Rattle.vx_class.specs.declared.class_file.Method.{Method}
use Rattle.vx_java.specs.NativeForms.{Form, form_of, has_form, is_form}
use Rattle.vx_link.specs.CoreFiles.{core_files, native_numbers, number_of}
use Rattle.vx_link.specs.CoreTable.{core_table}
use Rattle.vx_link.specs.Linked.{empty_clinit, linked_method, linked_methods, methods_from, methods_of_class, own_clinit}
use Rattle.vx_link.specs.Written.{WrittenClass, class_file}
use Rattle.vx_pool.specs.declared.pool.Pool.{Pool}
use Rattle.vx_program_bounds.proofs.ListLaws.{both, second_holds, first_holds}
use Rattle.vx_program_bounds.proofs.ShortCore.{all_rows, more_rows}

-- ---- methods without numbers

plain_methods : (class : ℕ) (pool : Pool) (methods : List Method) → list_all has_form (linked_methods class pool methods []) ≡ true
plain_methods class pool [] = refl
plain_methods class pool (m ∷ methods) = plain_methods class pool methods

plain_clinit : (class : ℕ) (own : Bool) → list_all has_form (if own then [] else empty_clinit class ∷ []) ≡ true
plain_clinit class true = refl
plain_clinit class false = refl

-- the methods of a class, if those of its file have the forms of their numbers
with_clinit : (class : ℕ) (c : ClassFile) (numbers : List ℕ) → list_all has_form (linked_methods class c.pool c.methods numbers) ≡ true
    → list_all has_form (methods_of_class class c numbers) ≡ true
with_clinit class c numbers h =
    list_all-append has_form (linked_methods class c.pool c.methods numbers) (if is_some (own_clinit c) then [] else empty_clinit class ∷ [])
    ∙ both h (plain_clinit class (is_some (own_clinit c)))

pub plain_forms : (class : ℕ) (files : List ClassFile) → list_all has_form (methods_from class files []) ≡ true
plain_forms class [] = refl
plain_forms class (c ∷ files) =
    list_all-append has_form (methods_of_class class c []) (methods_from (suc class) files [])
    ∙ both (with_clinit class c [] (plain_methods class c.pool c.methods)) (plain_forms (suc class) files)

-- ---- the core classes

-- the number of the class counts for nothing
same_form : (form : Option Form) (class : ℕ) (pool : Pool) (m : Method) (n : ℕ) → is_form form (linked_method class pool m n) ≡ is_form form (linked_method 0 pool m n)
same_form None class pool m n = refl
same_form (Some form) class pool m n = refl

any_class : (class : ℕ) (pool : Pool) (methods : List Method) (numbers : List ℕ)
    → list_all has_form (linked_methods class pool methods numbers) ≡ list_all has_form (linked_methods 0 pool methods numbers)
any_class class pool [] numbers = refl
any_class class pool (m ∷ methods) [] = any_class class pool methods []
any_class class pool (m ∷ methods) (n ∷ numbers) = λ i. same_form (form_of n) class pool m n i && any_class class pool methods numbers i

abbrev numbers_of : WrittenClass → List ℕ
numbers_of row = map (λ m. number_of m.how) row.methods

abbrev has_forms : WrittenClass → Bool
has_forms row = list_all has_form (linked_methods 0 (class_file row).pool (class_file row).methods (numbers_of row))

row_forms : (class : ℕ) (rows : List WrittenClass) → list_all has_forms rows ≡ true
    → list_all has_form (methods_from class (map class_file rows) (map numbers_of rows)) ≡ true
row_forms class [] h = refl
row_forms class (row ∷ rows) h =
    let c = class_file row in
    list_all-append has_form (methods_of_class class c (numbers_of row)) (methods_from (suc class) (map class_file rows) (map numbers_of rows))
    ∙ both
    (with_clinit class c (numbers_of row) (any_class class c.pool c.methods (numbers_of row) ∙ first_holds _ _ h))
    (row_forms (suc class) rows (second_holds _ _ h))

first_rows : list_all has_forms (take 9 core_table) ≡ true
first_rows = refl

text_rows : list_all has_forms (take 3 (drop 9 core_table)) ≡ true
text_rows = refl

value_rows : list_all has_forms (take 6 (drop 12 core_table)) ≡ true
value_rows = refl

general_rows : list_all has_forms (take 7 (drop 18 core_table)) ≡ true
general_rows = refl

exception_rows : list_all has_forms (take 10 (drop 25 core_table)) ≡ true
exception_rows = refl

error_rows : list_all has_forms (take 11 (drop 35 core_table)) ≡ true
error_rows = refl

pub core_forms : (class : ℕ) → list_all has_form (methods_from class core_files native_numbers) ≡ true
core_forms class =
    row_forms class core_table
    (ap (list_all has_forms) (sym all_rows)
    ∙ more_rows has_forms 35 11 core_table
    (more_rows has_forms 25 10 core_table
    (more_rows has_forms 18 7 core_table
    (more_rows has_forms 12 6 core_table (more_rows has_forms 9 3 core_table first_rows text_rows) value_rows)
    general_rows)
    exception_rows)
    error_rows)
