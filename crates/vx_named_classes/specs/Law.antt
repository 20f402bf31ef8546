-- Programs that class files link to have named classes.
use Rattle.std.specs.Prelude.{◌≡◌, ℕ, List, All, Ok}
use Rattle.vx_class.specs.File.{Holds}
use Rattle.vx_class.specs.declared.class_file.ClassFile.{ClassFile}
use Rattle.vx_link.specs.Linked.{linked_program}
use Rattle.vx_link.specs.declared.program.Program.{Program}
use Rattle.vx_model.specs.declared.model.OptionField.{OptionField}
use Rattle.vx_named_classes.specs.Named.{IsNamed}

-- the program of classes that a reading can give is named
abbrev pub LinkedAreNamed : Type 0
LinkedAreNamed =
    (classes : List ClassFile) (options : List OptionField) (main : List ℕ) (p : Program)
    → All Holds classes → linked_program classes options main ≡ Ok p → IsNamed p
