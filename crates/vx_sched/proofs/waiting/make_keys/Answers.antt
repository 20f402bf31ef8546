use Rattle.std.proofs.Common.{arith}
use Rattle.vx_sched.proofs.FirstKeys.{first_all, first_step}
use Rattle.vx_sched.proofs.waiting.make_keys.Goals as goal

pub loop-place-preserved : goal.loop-place-preserved
loop-place-preserved g c = rw (c.in_ok-push.ensures.items, c.in_ok-key.ensures) (first_step c.loop-place.keys.items c.args.groups.now c.loop-place.place c.index-groups-place.result c.loop-place.invariant c.loop-place-test.true c.index-groups-place.is)

pub returns-clause-all : goal.returns-clause-all
returns-clause-all g c =
    let made = c.loop-place.invariant.0 in
    let all = c.loop-place-test.false in
    first_all c.loop-place.keys.items c.args.groups.now (omega (arith, made, all)) c.loop-place.invariant.1
