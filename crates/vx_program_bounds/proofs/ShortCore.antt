-- The core classes are short: by computation, in runs of the table.
use Rattle.std.proofs.Common.{Bool, List, ap, drop, refl, sym, take, take-add, true, ℕ, ◌+◌, ◌∙◌, ◌≡◌}
use Rattle.std.proofs.lemmas.List.Folds.{list_all-append, list_all-map}
use Rattle.std.specs.List.{list_all}
use Rattle.vx_desc.specs.Descriptors.{element_at, field_of, method_of, result_at, type_at, types_at}
use Rattle.vx_desc.specs.Names.{is_class_name}
use Rattle.vx_link.specs.CoreFiles.{core_files}
use Rattle.vx_link.specs.CoreTable.{core_table}
use Rattle.vx_link.specs.Written.{WrittenClass, class_file}
use Rattle.vx_program_bounds.proofs.ListLaws.{both}
use Rattle.vx_program_bounds.proofs.ShortFiles.{is_short_file}

abbrev is_short_row : WrittenClass → Bool
is_short_row row = is_short_file (class_file row)

-- a test of the first rows, and of the next ones
pub more_rows : (test : WrittenClass → Bool) (n m : ℕ) (rows : List WrittenClass) → list_all test (take n rows) ≡ true
    → list_all test (take m (drop n rows)) ≡ true → list_all test (take (n + m) rows) ≡ true
more_rows test n m rows first next =
    ap (list_all test) (take-add n m rows) ∙ list_all-append test (take n rows) (take m (drop n rows)) ∙ both first next

first_rows : list_all is_short_row (take 9 core_table) ≡ true
unfolding element_at field_of is_class_name method_of result_at type_at types_at
first_rows = refl

text_rows : list_all is_short_row (take 3 (drop 9 core_table)) ≡ true
unfolding element_at field_of is_class_name method_of result_at type_at types_at
text_rows = refl

value_rows : list_all is_short_row (take 6 (drop 12 core_table)) ≡ true
unfolding element_at field_of is_class_name method_of result_at type_at types_at
value_rows = refl

general_rows : list_all is_short_row (take 7 (drop 18 core_table)) ≡ true
unfolding element_at field_of is_class_name method_of result_at type_at types_at
general_rows = refl

exception_rows : list_all is_short_row (take 10 (drop 25 core_table)) ≡ true
unfolding element_at field_of is_class_name method_of result_at type_at types_at
exception_rows = refl

error_rows : list_all is_short_row (take 11 (drop 35 core_table)) ≡ true
unfolding element_at field_of is_class_name method_of result_at type_at types_at
error_rows = refl

pub all_rows : take 46 core_table ≡ core_table
all_rows = refl

-- all of them
pub short_core : list_all is_short_file core_files ≡ true
short_core =
    list_all-map is_short_file class_file core_table ∙ ap (list_all is_short_row) (sym all_rows)
    ∙ more_rows is_short_row 35 11 core_table
    (more_rows is_short_row 25 10 core_table
    (more_rows is_short_row 18 7 core_table
    (more_rows is_short_row 12 6 core_table (more_rows is_short_row 9 3 core_table first_rows text_rows) value_rows)
    general_rows)
    exception_rows)
    error_rows
