use Rattle.vx_group.proofs.JoinLaws.{IsFrameInside-restricted}
use Rattle.vx_group.proofs.joins.frame_inside.Goals as goal

pub returns-clause-ok : goal.returns-clause-ok
returns-clause-ok g c = IsFrameInside-restricted (g.met.S.Space.lawful c.restrict.new.space) c.args.path c.args.frame.now _ c.requires.frame c.requires.known c.in_ok-inner.ensures.extends c.in_ok-inner.ensures.scope c.in_ok-inner.ensures.shape c.in_ok-inner.ensures.ok
