use Rattle.vx_attempt.proofs.Making.{ended_there}
use Rattle.vx_attempt.proofs.attempting.end_there.Goals as goal

pub returns : goal.returns
returns g c = ended_there c.args.program.now (g.S.Space.sets c.args.space.now) c.args.heap.now c.args.callers.now c.args.group.now c.path.result c.in_ok-place.place c.in_ok-ended.ended.items.items c.requires.may c.requires.nothing c.path.ensures (rw c.top_frame-top.ensures at c.in_ok-place.ensures) c.in_ok-ended.ensures
