-- So it is in the core classes: by computation, in runs of the table.
use Rattle.std.proofs.Common.{Bool, ap, drop, refl, sym, take, true, ◌∙◌, ◌≡◌}
use Rattle.std.proofs.lemmas.List.Folds.{list_all-map}
use Rattle.std.specs.List.{list_all}
use Rattle.vx_link.specs.CoreFiles.{core_files}
use Rattle.vx_link.specs.CoreTable.{core_table}
use Rattle.vx_link.specs.Written.{WrittenClass, class_file}
use Rattle.vx_opcode.specs.Decode.{instruction_at, lookup_at, shaped_at, table_at, wide_at}
use Rattle.vx_opcode.specs.Numbers.{s2, s4, u2, u4}
use Rattle.vx_program_bounds.proofs.ShortCore.{all_rows, more_rows}
use Rattle.vx_sound_linked.proofs.GridFiles.{is_fitting_file}

abbrev is_fitting_row : WrittenClass → Bool
is_fitting_row row = is_fitting_file (class_file row)

first_rows : list_all is_fitting_row (take 9 core_table) ≡ true
unfolding instruction_at shaped_at table_at lookup_at wide_at u2 u4 s2 s4
first_rows = refl

text_rows : list_all is_fitting_row (take 3 (drop 9 core_table)) ≡ true
unfolding instruction_at shaped_at table_at lookup_at wide_at u2 u4 s2 s4
text_rows = refl

value_rows : list_all is_fitting_row (take 6 (drop 12 core_table)) ≡ true
unfolding instruction_at shaped_at table_at lookup_at wide_at u2 u4 s2 s4
value_rows = refl

general_rows : list_all is_fitting_row (take 7 (drop 18 core_table)) ≡ true
unfolding instruction_at shaped_at table_at lookup_at wide_at u2 u4 s2 s4
general_rows = refl

exception_rows : list_all is_fitting_row (take 10 (drop 25 core_table)) ≡ true
unfolding instruction_at shaped_at table_at lookup_at wide_at u2 u4 s2 s4
exception_rows = refl

error_rows : list_all is_fitting_row (take 11 (drop 35 core_table)) ≡ true
unfolding instruction_at shaped_at table_at lookup_at wide_at u2 u4 s2 s4
error_rows = refl

-- all of them
pub fitting_core : list_all is_fitting_file core_files ≡ true
fitting_core =
    list_all-map is_fitting_file class_file core_table ∙ ap (list_all is_fitting_row) (sym all_rows)
    ∙ more_rows is_fitting_row 35 11 core_table
    (more_rows is_fitting_row 25 10 core_table
    (more_rows is_fitting_row 18 7 core_table
    (more_rows is_fitting_row 12 6 core_table (more_rows is_fitting_row 9 3 core_table first_rows text_rows) value_rows)
    general_rows)
    exception_rows)
    error_rows
