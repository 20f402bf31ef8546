use Rattle.std.proofs.Common.{◌≡◌, take}
use Rattle.vx_verify.specs.Spans.{AreAround}
use Rattle.vx_verify.proofs.quiet.around.Given as goal

abbrev pub invariant-loop-row : goal.invariant-loop-row
invariant-loop-row l = record {
  rows : AreAround (take l.row-index l.rows) l.at l.quiet;
  locals : l.quiet.locals ≡ l.locals;
}
