use Rattle.vx_group.specs.Group.{key_of}
use Rattle.vx_sched.proofs.PlaceLaws.{fresh_step, has_key_at, not_same}
use Rattle.vx_sched.proofs.placing.place_of.Goals as goal

pub returns-then-has_key_of-clause-found : goal.returns-then-has_key_of-clause-found
returns-then-has_key_of-clause-found g c = has_key_at c.args.groups.now c.loop-place.place c.index-groups-place.result (key_of c.args.group.now) c.loop-place-test.true c.index-groups-place.is (c.has_key_of.ensures.0 c.if-has_key_of.true)

pub loop-place-preserved : goal.loop-place-preserved
loop-place-preserved g c = fresh_step c.args.groups.now c.loop-place.place c.index-groups-place.result (key_of c.args.group.now) c.loop-place-test.true c.index-groups-place.is c.loop-place.invariant (λ e. not_same c.has_key_of.result (c.has_key_of.ensures.1 e) c.if-has_key_of.false)
