use Rattle.vx_cover.proofs.Opening.{open_at}
use Rattle.vx_cover.proofs.blocks.meet_targets.Goals as goal

pub put_target-requires : goal.put_target-requires
put_target-requires g c = (open_at (g.S.Space.sets c.args.space.now) c.args.targets.now c.loop-target.target-index c.target-item.result c.loop-target-test.true c.target-item.is c.requires).0
