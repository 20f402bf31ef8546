-- Programs that class files link to keep to what is said of classes and of methods that are begun.
use Rattle.std.specs.Prelude.{All, List, Ok, ℕ, ◌≡◌}
use Rattle.vx_class.specs.File.{Holds}
use Rattle.vx_class.specs.declared.class_file.ClassFile.{ClassFile}
use Rattle.vx_link.specs.Linked.{linked_program}
use Rattle.vx_link.specs.declared.program.Program.{Program}
use Rattle.vx_model.specs.declared.model.OptionField.{OptionField}
use Rattle.vx_sound.specs.Sound.{HasCore, HasForms, HasHierarchy}
use Rattle.vx_types.specs.Ranked.{HasRanks}

-- a claim of the program of classes that a reading can give
abbrev pub OfLinked : (Program → Type 0) → Type 0
OfLinked Claim =
    (classes : List ClassFile) (options : List OptionField) (main : List ℕ) (p : Program)
    → All Holds classes → linked_program classes options main ≡ Ok p → Claim p

-- the core classes are there
abbrev pub LinkedHaveCore : Type 0
LinkedHaveCore = OfLinked HasCore

-- each class has a number above that of its superclass
abbrev pub LinkedHaveRanks : Type 0
LinkedHaveRanks = OfLinked HasRanks

-- superclasses and superinterfaces are as they should be
abbrev pub LinkedHaveHierarchy : Type 0
LinkedHaveHierarchy = OfLinked HasHierarchy

-- what is begun is given what it takes
abbrev pub LinkedHaveForms : Type 0
LinkedHaveForms = OfLinked HasForms
