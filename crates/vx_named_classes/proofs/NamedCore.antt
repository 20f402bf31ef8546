-- The core classes have names, and their instructions name classes by texts: by computation, in runs of the table.
use Rattle.std.proofs.Common.{Bool, List, ap, drop, refl, sym, take, take-add, true, ℕ, ◌+◌, ◌∙◌, ◌≡◌}
use Rattle.std.proofs.lemmas.List.Folds.{list_all-append, list_all-map}
use Rattle.std.specs.List.{list_all}
use Rattle.vx_link.specs.CoreFiles.{core_files}
use Rattle.vx_link.specs.CoreTable.{core_table}
use Rattle.vx_link.specs.Written.{WrittenClass, class_file}
use Rattle.vx_opcode.specs.Decode.{instruction_at, lookup_at, shaped_at, table_at, wide_at}
use Rattle.vx_opcode.specs.Numbers.{s2, s4, u2, u4}
use Rattle.std.specs.Cmp.Derive.{both_true}
use Rattle.vx_named_classes.proofs.NamedFiles.{is_named_file}

abbrev is_named_row : WrittenClass → Bool
is_named_row row = is_named_file (class_file row)

-- the first rows, and the next ones
more_rows : (n m : ℕ) (rows : List WrittenClass) → list_all is_named_row (take n rows) ≡ true
    → list_all is_named_row (take m (drop n rows)) ≡ true → list_all is_named_row (take (n + m) rows) ≡ true
more_rows n m rows first next =
    ap (list_all is_named_row) (take-add n m rows) ∙ list_all-append is_named_row (take n rows) (take m (drop n rows)) ∙ both_true first next

first_rows : list_all is_named_row (take 9 core_table) ≡ true
unfolding instruction_at shaped_at table_at lookup_at wide_at u2 u4 s2 s4
first_rows = refl

text_rows : list_all is_named_row (take 3 (drop 9 core_table)) ≡ true
unfolding instruction_at shaped_at table_at lookup_at wide_at u2 u4 s2 s4
text_rows = refl

value_rows : list_all is_named_row (take 6 (drop 12 core_table)) ≡ true
unfolding instruction_at shaped_at table_at lookup_at wide_at u2 u4 s2 s4
value_rows = refl

general_rows : list_all is_named_row (take 7 (drop 18 core_table)) ≡ true
unfolding instruction_at shaped_at table_at lookup_at wide_at u2 u4 s2 s4
general_rows = refl

exception_rows : list_all is_named_row (take 10 (drop 25 core_table)) ≡ true
unfolding instruction_at shaped_at table_at lookup_at wide_at u2 u4 s2 s4
exception_rows = refl

error_rows : list_all is_named_row (take 11 (drop 35 core_table)) ≡ true
unfolding instruction_at shaped_at table_at lookup_at wide_at u2 u4 s2 s4
error_rows = refl

all_rows : take 46 core_table ≡ core_table
all_rows = refl

-- all of them
pub named_core : list_all is_named_file core_files ≡ true
named_core =
    list_all-map is_named_file class_file core_table ∙ ap (list_all is_named_row) (sym all_rows)
    ∙ more_rows 35 11 core_table
    (more_rows 25 10 core_table
    (more_rows 18 7 core_table
    (more_rows 12 6 core_table (more_rows 9 3 core_table first_rows text_rows) value_rows)
    general_rows)
    exception_rows)
    error_rows
