-- From the rows of the table to the core classes.
use Rattle.std.proofs.Common.{List, drop, map, refl, take, ℕ, ◌++◌, ◌+◌, ◌≡◌, ◌∙◌, ap, sym}
use Rattle.std.proofs.lemmas.List.{map-append}
use Rattle.std.proofs.Math.Seq.{take-add}
use Rattle.vx_class.specs.declared.class_file.ClassFile.{ClassFile}
use Rattle.vx_core.specs.Drafts.{Adds, HasFirst, method_numbers}
use Rattle.vx_core.specs.declared.draft.Draft.{Draft}
use Rattle.vx_link.specs.CoreFiles.{core_files, native_numbers}
use Rattle.vx_link.specs.CoreTable.{core_table}
use Rattle.vx_link.specs.Written.{class_file}

-- behind the first n come the next m
more_of : {A B : Type 0} (f : A → B) (n m : ℕ) (xs : List A) (front all next : List B)
    → front ≡ map f (take n xs) → all ≡ front ++ next → next ≡ map f (take m (drop n xs)) → all ≡ map f (take (n + m) xs)
more_of f n m xs front all next is whole then =
    whole ∙ ap (λ a. a ++ next) is ∙ ap (λ b. map f (take n xs) ++ b) then
    ∙ sym (map-append f (take n xs) (take m (drop n xs))) ∙ ap (map f) (sym (take-add n m xs))

-- the first core classes, and the next ones
pub has_more : (n m : ℕ) (old new : Draft) {files : List ClassFile} {numbers : List (List ℕ)} → HasFirst n old → Adds old new files numbers
    → files ≡ map class_file (take m (drop n core_table)) → numbers ≡ map method_numbers (take m (drop n core_table)) → HasFirst (n + m) new
unfolding HasFirst
has_more n m old new {files} {numbers} has adds files_are numbers_are = (
  more_of class_file n m core_table old.classes.items new.classes.items files has.0 adds.0 files_are,
  more_of method_numbers n m core_table old.natives.items new.natives.items numbers has.1 adds.1 numbers_are,
)

all_rows : take 46 core_table ≡ core_table
all_rows = refl

-- all of them
pub has_all : (draft : Draft) → HasFirst 46 draft → (draft.classes.items ≡ core_files) × (draft.natives.items ≡ native_numbers)
unfolding HasFirst
has_all draft has = (has.0 ∙ ap (map class_file) all_rows, has.1 ∙ ap (map method_numbers) all_rows)
