-- Programs that class files link to have codes that lead from instruction to instruction.
use Rattle.std.specs.Prelude.{◌≡◌, true, ℕ, List, All, Ok}
use Rattle.vx_class.specs.File.{Holds}
use Rattle.vx_class.specs.declared.class_file.ClassFile.{ClassFile}
use Rattle.vx_link.specs.Linked.{linked_program}
use Rattle.vx_link.specs.declared.program.Program.{Program}
use Rattle.vx_model.specs.declared.model.OptionField.{OptionField}
use Rattle.vx_jump_targets.specs.Placed.{are_well_placed}

-- the codes of a program of classes that a reading can give lead from instruction to instruction
abbrev pub LinkedAreWellPlaced : Type 0
LinkedAreWellPlaced =
    (classes : List ClassFile) (options : List OptionField) (main : List ℕ) (p : Program)
    → All Holds classes → linked_program classes options main ≡ Ok p → are_well_placed p ≡ true
