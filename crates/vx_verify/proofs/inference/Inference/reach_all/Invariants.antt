use Rattle.vx_verify.proofs.Steps.{AreReaching}
use Rattle.vx_verify.proofs.inference.Inference.reach_all.Given as goal

abbrev pub invariant-loop-target : goal.invariant-loop-target
invariant-loop-target l = AreReaching l.subject l.fn.self l.self l.targets l.target-index l.state
