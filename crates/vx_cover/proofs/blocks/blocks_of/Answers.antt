use Rattle.vx_cover.proofs.Blocked.{AreOpen-front, IsBlocking-step}
use Rattle.vx_cover.proofs.blocks.blocks_of.Goals as goal

pub block_of-requires : goal.block_of-requires
block_of-requires g c = rw c.split_at.ensures.front (AreOpen-front (g.S.Space.sets c.loop-rest.space) c.min-size.result c.loop-rest.rest.now c.loop-rest.invariant.opens)

pub loop-rest-preserved : goal.loop-rest-preserved
loop-rest-preserved g c =
    IsBlocking-step c.args.targets.now c.loop-rest.rest.now c.split_at.result.0.now c.split_at.result.1.now _ c.push.new.self.items c.in_ok-block.block c.min-size.result
    c.in_ok-block.ensures.extends c.split_at.ensures.front c.split_at.ensures.back c.in_ok-block.ensures.block c.in_ok-block.ensures.targets c.in_ok-push.ensures.items c.loop-rest.invariant
