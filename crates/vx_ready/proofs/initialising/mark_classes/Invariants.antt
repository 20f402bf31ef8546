use Rattle.vx_ready.proofs.Readying.{IsMarking, marks_in}
use Rattle.vx_ready.proofs.initialising.mark_classes.Given as goal

abbrev pub invariant-loop-class : goal.invariant-loop-class
invariant-loop-class g l = IsMarking (g.S.Space.sets l.fn.space) (g.S.Space.sets l.space) l.fn.heap l.heap l.state (marks_in l.condition l.classes) l.class-index
