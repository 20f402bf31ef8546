-- What every linked program keeps to: its members, the cells of its objects, the core objects, and what its runs begin with.
use Rattle.std.specs.Prelude.{All, List, Ok, ℕ, ◌≡◌}
use Rattle.vx_class.specs.File.{Holds}
use Rattle.vx_class.specs.declared.class_file.ClassFile.{ClassFile}
use Rattle.vx_link.specs.Linked.{linked_program}
use Rattle.vx_link.specs.declared.program.Program.{Program}
use Rattle.vx_model.specs.declared.model.OptionField.{OptionField}
use Rattle.vx_sound.specs.Sound.{HasCells, HasCoreObjects, HasFirstValues, HasHierarchy, HasMembers}

-- what holds of the program of classes that a reading can give
abbrev pub OfLinked : (Program → Type 0) → Type 0
OfLinked Has =
    (classes : List ClassFile) (options : List OptionField) (main : List ℕ) (p : Program)
    → All Holds classes → linked_program classes options main ≡ Ok p → Has p

-- what a class declares is its own, and its methods have room for what they are given
abbrev pub LinkedHaveMembers : Type 0
LinkedHaveMembers = OfLinked HasMembers

-- each field of an object has a cell of its own, where classes are in order
abbrev pub LinkedHaveCells : Type 0
LinkedHaveCells = OfLinked (λ p. HasHierarchy p → HasCells p)

-- the cells of the core objects are those of the fields of their classes
abbrev pub LinkedHaveCoreObjects : Type 0
LinkedHaveCoreObjects = OfLinked (λ p. HasHierarchy p → HasCoreObjects p)

-- the first objects and the first values of the static fields are of their types
abbrev pub LinkedHaveFirstValues : Type 0
LinkedHaveFirstValues = OfLinked (λ p. HasHierarchy p → HasFirstValues p)
