use Rattle.std.proofs.Common.{arith}
use Rattle.vx_link.specs.Linked.{layout}
use Rattle.vx_linker.proofs.Layouts.{numbered_more}
use Rattle.vx_linker.proofs.layout.all_cells.Goals as goal

pub loop-place-preserved : goal.loop-place-preserved
loop-place-preserved c = numbered_more (layout c.args.program.now) 0 c.loop-place.place c.loop-place.place c.loop-place.cells.items _ _ c.loop-place.invariant c.in_ok-push.ensures.items c.cell_of.ensures (omega arith)
