use Rattle.std.proofs.Common.{take}
use Rattle.vx_cover.specs.Covers.{end_nodes}
use Rattle.vx_cover.proofs.Listing.{IsJoining}
use Rattle.vx_cover.proofs.scope.ended.Given as goal

abbrev pub invariant-loop-line : goal.invariant-loop-line
invariant-loop-line g l = IsJoining (g.S.Space.sets l.fn.space) (g.S.Space.sets l.space) l.report.nodes (take l.line-index (end_nodes l.report)) l.found
