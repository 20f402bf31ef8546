use Rattle.std.proofs.Common.{sym}
use Rattle.vx_attempt.proofs.Making.{no_code}
use Rattle.vx_attempt.proofs.attempting.attempt.Goals as goal

pub end_there-requires-clause-nothing : goal.end_there-requires-clause-nothing
end_there-requires-clause-nothing g c = λ s at there. no_code c.args.program.now c.args.group.top.method.0 (sym (rw c.top_frame.ensures at c.in-None.ensures)) s at
