-- A program that class files link to.
use Rattle.std.proofs.Common.{◌≡◌, ap, List, Result, Ok, Err, ℕ}
use Rattle.vx_class.specs.declared.class_file.ClassFile.{ClassFile}
use Rattle.vx_link.specs.Linked.{linked_program}
use Rattle.vx_link.specs.declared.fault.LinkFault.{LinkFault}
use Rattle.vx_link.specs.declared.program.Program.{Program}
use Rattle.vx_model.specs.declared.model.Model.{Model}
use Rattle.vx_plans.specs.Job.{or_bad_link, program_in, slashed}

linked_if : (r : Result Program LinkFault) (p : Program) → or_bad_link r ≡ Ok p → r ≡ Ok p
linked_if (Ok q) p e = let same : q ≡ p = cc in ap Ok same
linked_if (Err fault) p e = cc

pub linked_is : (main : List ℕ) (model : Model) (classes : List ClassFile) (p : Program) → program_in main model classes ≡ Ok p → linked_program classes model.options (slashed main) ≡ Ok p
unfolding program_in
linked_is main model classes p e = linked_if (linked_program classes model.options (slashed main)) p e
