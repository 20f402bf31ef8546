-- What the tables of linking hold: class files by the places of their names among those of the folder and then of the core.
use Rattle.std.specs.List.{filter_map}
use Rattle.std.specs.Prelude.{List, None, Option, Some, [], false, fold, map, true, ℕ, ◌++◌, ◌||◌, ◌∷◌, ◌≡◌}
use Rattle.std.specs.Option.{option_or}
use Rattle.vx_class.specs.declared.class_file.ClassFile.{ClassFile}
use Rattle.vx_link.specs.Faults.{bad_super, cycle, name_of, no_main, no_option, parents_of}
use Rattle.vx_link.specs.Names.{class_name}
use Rattle.vx_link.specs.declared.fault.LinkFault.{LinkFault}
use Rattle.vx_link.specs.declared.fault.LinkFault.TheVariants.{Twice}
use Rattle.vx_model.specs.declared.model.OptionField.{OptionField}
use Rattle.vx_pool.specs.declared.pool.Pool.{Pool}
use Rattle.vx_names.specs.Names.{has_name, place_of, with_name}

abbrev pub names_of : List ClassFile → List (List ℕ)
names_of classes = map name_of classes

-- no two of the classes have one name
abbrev pub HaveOwnNames : List ClassFile → Type 0
HaveOwnNames classes = fold with_name [] (names_of classes) ≡ names_of classes

-- the first class whose name stands among the core names or the folder's names before it
abbrev pub twice_among : (core folder : List (List ℕ)) → List ClassFile → Option LinkFault
twice_among core folder [] = None
twice_among core folder (c ∷ rest) =
    elim (has_name core (name_of c) || has_name folder (name_of c)) [
      | true ↦ Some (Twice (name_of c))
      | false ↦ twice_among core (folder ++ name_of c ∷ []) rest
    ]

-- the places of the direct ancestors of a class that are there
abbrev pub parent_places : List ClassFile → ClassFile → List ℕ
parent_places all c = filter_map (place_of (names_of all)) (parents_of (Some c))

-- the place of the class that a class entry names
abbrev pub place_of_class : List ClassFile → Pool → ℕ → Option ℕ
place_of_class all pool index = place_of (names_of all) (class_name pool index)

-- for each class the places of its direct ancestors
abbrev pub all_parents : List ClassFile → List (List ℕ)
all_parents all = map (parent_places all) all

-- the first fault, where no class is there twice
abbrev pub later_fault : (classes core : List ClassFile) → List OptionField → (main : List ℕ) → Option LinkFault
later_fault classes core options main =
    option_or (bad_super (classes ++ core) classes)
    (option_or (cycle (classes ++ core) classes) (option_or (no_option classes options) (no_main classes main)))
