use Rattle.vx_throw.proofs.FailLaws.{HasLeft-call}
use Rattle.vx_throw.proofs.failing.leave.Goals as goal

pub returns-in-Call-clause-left : goal.returns-in-Call-clause-left
returns-in-Call-clause-left g c = HasLeft-call c.args.program.now _ c.args.heap.now c.requires.0 c.args.flight c.requires.1 (rw c.top_frame.ensures at c.in-Call.is)
