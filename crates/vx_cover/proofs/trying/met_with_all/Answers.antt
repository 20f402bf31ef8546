use Rattle.vx_space.proofs.Spaces.{Extends-refl, Extends-trans}
use Rattle.vx_cover.proofs.Meeting.{IsPart-trans, IsPart-whole}
use Rattle.vx_cover.proofs.Blocked.{AreBlocks-extends, block_at}
use Rattle.vx_cover.proofs.trying.met_with_all.Goals as goal

pub loop-block-init : goal.loop-block-init
loop-block-init g c = record {
  extends = Extends-refl (g.S.Space.sets c.args.space.now);
  part = IsPart-whole c.args.first c.requires.known c.requires.some;
}

pub met_with_block-requires-clause-known : goal.met_with_block-requires-clause-known
met_with_block-requires-clause-known g c = c.loop-block.invariant.part.known

pub met_with_block-requires-clause-some : goal.met_with_block-requires-clause-some
met_with_block-requires-clause-some g c = c.loop-block.invariant.part.some

pub met_with_block-requires-clause-block : goal.met_with_block-requires-clause-block
met_with_block-requires-clause-block g c =
    let i = c.loop-block.invariant in
    block_at (g.S.Space.sets c.loop-block.space) c.args.blocks.now c.loop-block.block-index c.block-item.result c.loop-block-test.true c.block-item.is (AreBlocks-extends i.extends c.args.blocks.now c.requires.blocks)

pub returns-in_err-met-clause-extends : goal.returns-in_err-met-clause-extends
returns-in_err-met-clause-extends g c = Extends-trans c.loop-block.invariant.extends c.met_with_block.ensures.extends

pub loop-block-preserved : goal.loop-block-preserved
loop-block-preserved g c = record {
  extends = Extends-trans c.loop-block.invariant.extends c.in_ok-met.ensures.extends;
  part = IsPart-trans c.args.first c.loop-block.met c.in_ok-met.met c.loop-block.invariant.part c.in_ok-met.ensures.part;
}

pub returns-then-is_spent-clause-extends : goal.returns-then-is_spent-clause-extends
returns-then-is_spent-clause-extends g c = c.loop-block.invariant.extends

pub returns-then-is_spent-clause-part : goal.returns-then-is_spent-clause-part
returns-then-is_spent-clause-part g c = c.loop-block.invariant.part

pub returns-clause-extends : goal.returns-clause-extends
returns-clause-extends g c = c.loop-block.invariant.extends

pub returns-clause-part : goal.returns-clause-part
returns-clause-part g c = c.loop-block.invariant.part
