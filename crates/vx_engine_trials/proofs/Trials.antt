-- What the trials need of a linked program and of findings.
use Rattle.std.proofs.Common.{◌≡◌, ◌≤◌, ℕ, List, Ok, arith, length}
use Rattle.std.specs.Prelude.{All}
use Rattle.vx_class.specs.File.{Holds}
use Rattle.vx_class.specs.declared.class_file.ClassFile.{ClassFile}
use Rattle.vx_families.specs.Bounds.{IsBounded}
use Rattle.vx_link.specs.Linked.{linked_program}
use Rattle.vx_link.specs.declared.program.Program.{Program}
use Rattle.vx_program_bounds.specs.Law.{LinkedAreBounded}
use Rattle.vx_model.specs.declared.model.OptionField.{OptionField}

few : (n : ℕ) → n ≤ 9 → n ≤ 1024
few n l = omega (arith, l)

-- the program that few classes link to keeps to the bounds
pub example_bounded : (classes : List ClassFile) (options : List OptionField) (main : List ℕ) (p : Program) → LinkedAreBounded → length classes ≤ 9 → All Holds classes → linked_program classes options main ≡ Ok p → IsBounded p
example_bounded classes options main p law l read linked = (law classes options main p (few (length classes) l) read linked).0
