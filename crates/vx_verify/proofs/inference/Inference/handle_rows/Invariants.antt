use Rattle.vx_verify.proofs.Steps.{AreHandling}
use Rattle.vx_verify.proofs.inference.Inference.handle_rows.Given as goal

abbrev pub invariant-loop-place : goal.invariant-loop-place
invariant-loop-place l = AreHandling l.subject l.fn.self l.self l.at l.place l.before
