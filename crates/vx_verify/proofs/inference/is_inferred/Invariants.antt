use Rattle.vx_verify.specs.Inference.{IsInference}
use Rattle.vx_verify.specs.KnownRows.{AreKnown}
use Rattle.vx_verify.proofs.inference.is_inferred.Given as goal

abbrev pub invariant-loop-sweep : goal.invariant-loop-sweep
invariant-loop-sweep l = IsInference l.subject l.inference × AreKnown l.subject.program.now l.subject.method.0 l.rows.rows.items
