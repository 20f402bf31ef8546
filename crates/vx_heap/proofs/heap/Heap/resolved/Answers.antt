use Rattle.std.proofs.Common.{◌∙◌, sym}
use Rattle.vx_heap.proofs.Table.{found_is}
use Rattle.vx_heap.proofs.heap.Heap.resolved.Goals as goal

pub returns-in-Some : goal.returns-in-Some
returns-in-Some g c = found_is c.args.program.now c.args.self.now c.args.class.0 c.args.entry c.in-Some.found c.requires.for_program (sym c.in-Some.is ∙ c.resolved_in.ensures)
