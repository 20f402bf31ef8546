use Rattle.vx_cover.proofs.Blocked.{IsBlock-of, pushed_all}
use Rattle.vx_cover.proofs.Opening.{AreOpen-extends}
use Rattle.vx_cover.proofs.blocks.block_of.Goals as goal

pub returns-clause-block : goal.returns-clause-block
returns-clause-block g c =
    let w = c.in_ok-whole.ensures in
    IsBlock-of (g.S.Space.sets c.whole_of.new.space) _ c.args.targets.now (pushed_all _ _ c.args.targets.now c.new-items.ensures.items c.in_ok-extend_from_slice.ensures.items)
    (AreOpen-extends w.extends c.args.targets.now c.requires) w.whole
