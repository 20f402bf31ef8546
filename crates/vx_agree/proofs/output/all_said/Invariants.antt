use Rattle.std.proofs.Common.{take}
use Rattle.vx_agree.proofs.Outputs.{IsCollecting}
use Rattle.vx_agree.proofs.output.all_said.Given as goal

abbrev pub invariant-loop-entry : goal.invariant-loop-entry
invariant-loop-entry g l = IsCollecting (g.S.Space.sets l.fn.space) (g.S.Space.sets l.space) l.other l.reached (take l.entry-index l.reached) l.all
