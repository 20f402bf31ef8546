use Rattle.vx_ready.proofs.Readying.{IsMarking}
use Rattle.vx_value.specs.declared.slot.InitState.TheVariants.{Done}
use Rattle.vx_ready.proofs.initialising.mark_all.Given as goal

abbrev pub invariant-loop-mark : goal.invariant-loop-mark
invariant-loop-mark g l = IsMarking (g.S.Space.sets l.fn.space) (g.S.Space.sets l.space) l.fn.heap l.heap Done l.marks l.mark-index
