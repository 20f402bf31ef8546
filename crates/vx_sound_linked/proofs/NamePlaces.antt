-- No two core classes have one name, and none of a folder has one of theirs.
use Rattle.std.proofs.Common.{Bool, List, None, Some, [], ap, arith, bytes_eq, codes, cond, false, map, not, refl, slice_get, subst, suc, true, zero, ℕ, ◌&&◌, ◌<◌, ◌∙◌, ◌∷◌, ◌≡◌}
use Rattle.std.proofs.lemmas.Slice.Eq.{bytes_eq-Decides}
use Rattle.std.specs.List.{list_all, position}
use Rattle.std.specs.Option.{option_map}
use Rattle.vx_class.specs.declared.class_file.ClassFile.{ClassFile}
use Rattle.vx_pool.specs.Holding.{and_true}
use Rattle.vx_kept_states.proofs.Throwables.{AreRows, new_names, place_in}
use Rattle.vx_kept_states.proofs.WholePrograms.{first_none}
use Rattle.vx_link.specs.CoreTable.{core_table}
use Rattle.vx_link.specs.Faults.{link_fault, twice}
use Rattle.vx_link.specs.Linked.{program_of}
use Rattle.vx_link.specs.Written.{WrittenClass, class_file}
use Rattle.vx_model.specs.declared.model.OptionField.{OptionField}
use Rattle.vx_names.proofs.Keys.{position-cons}
use Rattle.vx_sound_linked.proofs.MethodFiles.{at_place}

-- ---- places

-- nothing before a place passes
abbrev Earlier : {A : Type 0} → (A → Bool) → List A → ℕ → Type 0
Earlier {A} test xs k = (j : ℕ) (y : A) → j < k → slice_get xs j ≡ Some y → test y ≡ false

first_place : {A : Type 0} (test : A → Bool) (xs : List A) (k : ℕ) (x : A) → slice_get xs k ≡ Some x → test x ≡ true → Earlier test xs k → position test xs ≡ Some k
first_place test [] k x there passes earlier = absurd cc
first_place test (y ∷ xs) zero x there passes earlier =
    let same : y ≡ x = cc in
    position-cons test y xs ∙ ap (λ b. cond b (Some 0) (option_map suc (position test xs))) (ap test same ∙ passes)
first_place test (y ∷ xs) (suc k) x there passes earlier =
    position-cons test y xs
    ∙ ap (λ b. cond b (Some 0) (option_map suc (position test xs))) (earlier 0 y (omega arith) refl)
    ∙ ap (option_map suc) (first_place test xs k x there passes (λ j z less at. earlier (suc j) z (omega (arith, less)) at))

-- ---- the core

abbrev is_apart : List WrittenClass → WrittenClass → Bool
is_apart rows row = list_all (λ other. not (bytes_eq (codes row.name) (codes other.name))) rows

abbrev pub are_apart : List WrittenClass → Bool
are_apart [] = true
are_apart (row ∷ rows) = is_apart rows row && are_apart rows

no_more : (b : Bool) → not b ≡ true → b ≡ false
no_more true h = absurd cc
no_more false h = refl

rows_apart : (rows : List WrittenClass) → are_apart rows ≡ true → (k : ℕ) (x : WrittenClass) → slice_get rows k ≡ Some x → Earlier (λ row. bytes_eq (codes row.name) (codes x.name)) rows k
rows_apart [] apart k x there j y less at = absurd cc
rows_apart (row ∷ rows) apart zero x there j y less at = absurd (omega (arith, less))
rows_apart (row ∷ rows) apart (suc k) x there zero y less at =
    let same : row ≡ y = cc in
    subst (λ (r : WrittenClass). bytes_eq (codes r.name) (codes x.name) ≡ false) same
    (no_more (bytes_eq (codes row.name) (codes x.name)) (at_place (λ other. not (bytes_eq (codes row.name) (codes other.name))) rows k x (and_true (is_apart rows row) (are_apart rows) apart).0 there))
rows_apart (row ∷ rows) apart (suc k) x there (suc j) y less at = rows_apart rows (and_true (is_apart rows row) (are_apart rows) apart).1 k x there j y (omega (arith, less)) at

-- a row is found by its name
pub row_found : (rows : List WrittenClass) → are_apart rows ≡ true → (k : ℕ) (row : WrittenClass) → slice_get rows k ≡ Some row → place_in rows (codes row.name) ≡ Some k
row_found rows apart k row there =
    first_place (λ r. bytes_eq (codes r.name) (codes row.name)) rows k row there ((bytes_eq-Decides (codes row.name) (codes row.name)).1 refl) (rows_apart rows apart k row there)

-- ---- the program

pub once_from : (classes core : List ClassFile) (options : List OptionField) (main : List ℕ) → link_fault classes core options main ≡ None → twice core classes ≡ None
once_from classes core options main none = first_none (twice core classes) _ none

-- a row among others that are mapped
pub row_there : (rows : List WrittenClass) (k : ℕ) (c : ClassFile) → slice_get (map class_file rows) k ≡ Some c → (row : WrittenClass) × (slice_get rows k ≡ Some row) × (class_file row ≡ c)
row_there [] k c there = absurd cc
row_there (row ∷ rows) zero c there = (row, refl, cc)
row_there (row ∷ rows) (suc k) c there = row_there rows k c there

pub are_rows : (classes : List ClassFile) (rows : List WrittenClass) (numbers : List (List ℕ)) (options : List OptionField) (main : List ℕ) → twice (map class_file rows) classes ≡ None
    → AreRows (program_of classes (map class_file rows) numbers options main) classes rows
are_rows classes rows numbers options main once = record { linked = refl; new = new_names classes rows once }

pub core_apart : are_apart core_table ≡ true
core_apart = refl
