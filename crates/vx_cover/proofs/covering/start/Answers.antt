use Rattle.std.proofs.Common.{length}
use Rattle.vx_space.proofs.Spaces.{Extends-trans}
use Rattle.vx_cover.specs.Covers.{has_this_end, has_this_piece}
use Rattle.vx_cover.proofs.Blocked.{AreBlocks-extends}
use Rattle.vx_cover.proofs.Firsts.{AreFirst-extends}
use Rattle.vx_cover.proofs.Opening.{AreOpen-extends}
use Rattle.vx_cover.proofs.covering.start.Goals as goal

pub blocks_of-requires : goal.blocks_of-requires
blocks_of-requires g c = rw c.as_slice.ensures.value (AreOpen-extends c.in_ok-push_pieces.ensures.extends _ c.in_ok-push_ends.ensures.targets.open_sets)

pub blocks_of-requires-2 : goal.blocks_of-requires-2
blocks_of-requires-2 g c = rw c.as_slice-2.ensures.value (AreOpen-extends c.in_ok-ends.ensures.extends _ c.in_ok-push_pieces.ensures.targets.open_sets)

pub returns-clause-extends : goal.returns-clause-extends
returns-clause-extends g c =
    Extends-trans c.in_ok-ended.ensures.extends (Extends-trans c.in_ok-push_ends.ensures.extends (Extends-trans c.in_ok-push_pieces.ensures.extends
    (Extends-trans c.in_ok-ends.ensures.extends c.in_ok-pieces.ensures.extends)))

pub returns-clause-start : goal.returns-clause-start
returns-clause-start g c =
    let x = Extends-trans c.in_ok-ends.ensures.extends c.in_ok-pieces.ensures.extends in
    record {
      end_blocks = AreBlocks-extends c.in_ok-pieces.ensures.extends _ c.in_ok-ends.ensures.blocks.each;
      piece_blocks = c.in_ok-pieces.ensures.blocks.each;
      ends = rw (c.in_ok-ends.ensures.blocks.all, c.as_slice.ensures.value)
          (AreFirst-extends (Extends-trans c.in_ok-push_pieces.ensures.extends x) (has_this_end c.args.report.now) (length c.args.report.now.ends) _ c.in_ok-push_ends.ensures.targets);
      pieces = rw (c.in_ok-pieces.ensures.blocks.all, c.as_slice-2.ensures.value)
          (AreFirst-extends x (has_this_piece c.args.report.now) (length c.args.report.now.pieces) _ c.in_ok-push_pieces.ensures.targets);
      tries = c.new.ensures.items;
    }
