use Rattle.std.proofs.Common.{length, ◌-◌}
use Rattle.vx_verify.specs.KnownRows.{AreKnown}
use Rattle.vx_verify.specs.Quieting.{IsQuiet}
use Rattle.vx_verify.proofs.Sweeps.{IsSweeping}
use Rattle.vx_verify.proofs.inference.Inference.sweep.Given as goal

abbrev pub invariant-loop-at : goal.invariant-loop-at
invariant-loop-at l = record {
  sweeping : IsSweeping l.subject l.self l.from l.found;
  quiet : IsQuiet l.subject l.self l.quiet;
  rows : AreKnown l.subject.program.now l.subject.method.0 l.rows.rows.items;
}

abbrev pub decreases-loop-at : goal.decreases-loop-at
decreases-loop-at l = length l.subject.code.now.bytes - l.from
