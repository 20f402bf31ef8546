-- A list of core classes that is being made.
use Rattle.std.specs.Prelude.{List, map, take, ℕ, ◌++◌, ◌≡◌}
use Rattle.vx_class.specs.declared.class_file.ClassFile.{ClassFile}
use Rattle.vx_core.specs.declared.draft.Draft.{Draft}
use Rattle.vx_link.specs.CoreFiles.{number_of}
use Rattle.vx_link.specs.CoreTable.{core_table}
use Rattle.vx_link.specs.Written.{WrittenClass, class_file}

-- for each method the number of a native one
abbrev pub method_numbers : WrittenClass → List ℕ
method_numbers c = map (λ m. number_of m.how) c.methods

-- these classes stand behind those that were there, with the numbers of their native methods
abbrev pub Adds : Draft → Draft → List ClassFile → List (List ℕ) → Type 0
Adds old new files numbers = (new.classes.items ≡ old.classes.items ++ files) × (new.natives.items ≡ old.natives.items ++ numbers)

-- so many of the core classes, from the first on
unfoldable pub HasFirst : ℕ → Draft → Type 0
HasFirst n draft =
    (draft.classes.items ≡ map class_file (take n core_table)) × (draft.natives.items ≡ map method_numbers (take n core_table))
