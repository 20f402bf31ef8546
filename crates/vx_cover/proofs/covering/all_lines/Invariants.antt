use Rattle.std.proofs.Common.{◌≡◌, ◌+◌, length}
use Rattle.vx_space.specs.Sets.{Extends}
use Rattle.vx_report.specs.declared.report.Report.{Report}
use Rattle.vx_cover.specs.Blocks.{AreBlocks, flat}
use Rattle.vx_cover.specs.Steps.{IsStart}
use Rattle.vx_cover.proofs.Lines.{IsCovering}
use Rattle.vx_cover.proofs.covering.all_lines.Given as goal

abbrev pub invariant-loop-first : goal.invariant-loop-first
invariant-loop-first g l = record {
  extends : Extends (g.S.Space.sets l.fn.space) (g.S.Space.sets l.space);
  ends : AreBlocks (g.S.Space.sets l.space) l.covering.ends.items;
  pieces : AreBlocks (g.S.Space.sets l.space) l.covering.pieces.items;
  covers : (r : Report) → length r.options ≡ (g.S.Space.sets l.fn.space).options → IsStart (g.S.Space.sets l.fn.space) r l.fn.covering → IsCovering (g.S.Space.sets l.space) r l.covering;
}

abbrev pub decreases-loop-first : goal.decreases-loop-first
decreases-loop-first g l = length (flat l.covering.ends.items) + length (flat l.covering.pieces.items)
