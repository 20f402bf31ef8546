-- The methods of class files: a code has a byte, and a <clinit> has code.
use Rattle.std.proofs.Common.{Bool, List, None, Option, Some, [], ap, drop, false, is_some, length, not, refl, sym, take, take-add, true, unwrap_or, ℕ, ◌&&◌, ◌++◌, ◌+◌, ◌∙◌, ◌∷◌, ◌≡◌, ◌||◌}
use Rattle.std.proofs.lemmas.Bool.{lt-ltb}
use Rattle.std.proofs.lemmas.List.Folds.{list_all-append, list_all-map}
use Rattle.std.specs.Cmp.Derive.{both_true}
use Rattle.std.specs.List.{list_all}
use Rattle.vx_class.specs.File.{CodeIs, EachBehind, Holds, MethodHolds}
use Rattle.vx_class.specs.Members.{ABSTRACT, NATIVE, has, takes_code}
use Rattle.vx_class.specs.declared.class_file.ClassFile.{ClassFile}
use Rattle.vx_class.specs.declared.class_file.Code.{Code}
use Rattle.vx_class.specs.declared.class_file.Method.{Method}
use Rattle.vx_desc.specs.Names.{is_clinit}
use Rattle.vx_kept_facts.specs.Law.{has_bytes}
use Rattle.vx_link.specs.CoreFiles.{core_files}
use Rattle.vx_link.specs.CoreTable.{core_table}
use Rattle.vx_link.specs.Names.{utf8}
use Rattle.vx_link.specs.Written.{WrittenClass, class_file}
use Rattle.vx_pool.specs.declared.pool.Pool.{Pool}
use Rattle.vx_program_bounds.proofs.ShortCore.{all_rows}

-- a <clinit> has code
abbrev pub begins_class : Pool → Method → Bool
begins_class pool m = not (is_clinit (utf8 pool m.name)) || is_some m.code

abbrev pub is_whole_method : Pool → Method → Bool
is_whole_method pool m = has_bytes m.code && begins_class pool m

abbrev pub is_whole_file : ClassFile → Bool
is_whole_file c = list_all (is_whole_method c.pool) c.methods

-- ---- files that a reading can give

code_has_bytes : (pool : Pool) (major slots : ℕ) (takes : Bool) (code : Option Code) → CodeIs pool major slots takes code → has_bytes code ≡ true
code_has_bytes pool major slots takes None is = refl
code_has_bytes pool major slots takes (Some code) is = lt-ltb 0 (length code.bytes) is.1.some

clinit_has_code : (pool : Pool) (major slots flags : ℕ) (name : List ℕ) (code : Option Code) → CodeIs pool major slots (takes_code flags name) code
    → (not (is_clinit name) || is_some code) ≡ true
clinit_has_code pool major slots flags name (Some code) is = by (is_clinit name)
  where
    by : (b : Bool) → (not b || true) ≡ true
    by true = refl
    by false = refl
clinit_has_code pool major slots flags name None is = by (is_clinit name) is
  where
    by : (b : Bool) → (b || not (has flags ABSTRACT || has flags NATIVE)) ≡ false → (not b || false) ≡ true
    by true is = cc
    by false is = refl

whole_method : (pool : Pool) (major : ℕ) (front : List Method) (m : Method) → MethodHolds pool major front m → is_whole_method pool m ≡ true
whole_method pool major front m holds =
    both_true
    (code_has_bytes pool major _ _ m.code holds.code)
    (ap (λ t. not (is_clinit (unwrap_or t [])) || is_some m.code) holds.is_name
    ∙ clinit_has_code pool major _ m.flags holds.name m.code holds.code)

whole_methods : (pool : Pool) (major : ℕ) (front methods : List Method) → EachBehind (MethodHolds pool major) front methods → list_all (is_whole_method pool) methods ≡ true
whole_methods pool major front [] holds = refl
whole_methods pool major front (m ∷ methods) holds =
    both_true (whole_method pool major front m holds.0) (whole_methods pool major (front ++ m ∷ []) methods holds.1)

pub whole_file : (c : ClassFile) → Holds c → is_whole_file c ≡ true
whole_file c holds = whole_methods c.pool c.major [] c.methods holds.methods

-- ---- the core classes, in runs of the table

abbrev is_whole_row : WrittenClass → Bool
is_whole_row row = is_whole_file (class_file row)

more_rows : (n m : ℕ) (rows : List WrittenClass) → list_all is_whole_row (take n rows) ≡ true
    → list_all is_whole_row (take m (drop n rows)) ≡ true → list_all is_whole_row (take (n + m) rows) ≡ true
more_rows n m rows first next =
    ap (list_all is_whole_row) (take-add n m rows) ∙ list_all-append is_whole_row (take n rows) (take m (drop n rows)) ∙ both_true first next

first_rows : list_all is_whole_row (take 9 core_table) ≡ true
first_rows = refl

text_rows : list_all is_whole_row (take 3 (drop 9 core_table)) ≡ true
text_rows = refl

value_rows : list_all is_whole_row (take 6 (drop 12 core_table)) ≡ true
value_rows = refl

general_rows : list_all is_whole_row (take 7 (drop 18 core_table)) ≡ true
general_rows = refl

exception_rows : list_all is_whole_row (take 10 (drop 25 core_table)) ≡ true
exception_rows = refl

error_rows : list_all is_whole_row (take 11 (drop 35 core_table)) ≡ true
error_rows = refl

pub whole_core : list_all is_whole_file core_files ≡ true
whole_core =
    list_all-map is_whole_file class_file core_table ∙ ap (list_all is_whole_row) (sym all_rows)
    ∙ more_rows 35 11 core_table
    (more_rows 25 10 core_table
    (more_rows 18 7 core_table
    (more_rows 12 6 core_table (more_rows 9 3 core_table first_rows text_rows) value_rows)
    general_rows)
    exception_rows)
    error_rows
