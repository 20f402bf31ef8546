use Rattle.vx_starting.proofs.MainGroup.{main_frame-made}
use Rattle.vx_starting.proofs.starting.main_frame.Goals as goal

pub returns-clause-at : goal.returns-clause-at
returns-clause-at g c =
    rw c.set.ensures
    (main_frame-made c.args.program.now (g.S.Space.sets c.args.space.now) c.args.allowed c.args.words c.main_locals.result c.in_ok-frame.frame c.in_ok-array.array c.requires.some c.main_locals.ensures c.in_ok-frame.ensures.scope c.in_ok-frame.ensures.ok c.in_ok-array.ensures.scope c.in_ok-array.ensures.ok)
