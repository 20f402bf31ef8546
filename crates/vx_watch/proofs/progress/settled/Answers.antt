use Rattle.std.proofs.Common.{arith, sym, subst}
use Rattle.vx_count.proofs.Halves.{at_most}
use Rattle.vx_watch.proofs.Greatest.{known_here, more, room, settled_step}
use Rattle.vx_watch.proofs.progress.settled.Goals as goal

pub count_of-requires-clause-known : goal.count_of-requires-clause-known
count_of-requires-clause-known g c = known_here (g.S.Space.sets c.args.space.now) c.args.ends.now c.loop-end.end-index c.end-item.result c.loop-end-test.true c.end-item.is c.requires

pub overflow_add-sum : goal.overflow_add-sum
overflow_add-sum g c =
    let all = room c.loop-end.sum c.loop-end.end-index c.in_ok-sum.field-0 (g.S.Space.sets c.args.space.now).options c.loop-end.invariant.1 (at_most (g.S.Space.sets c.args.space.now) c.end-item.result.condition c.in_ok-sum.field-0 c.in_ok-sum.ensures.number) (g.met.S.Space.lawful c.args.space.now).at_most_64 (omega (arith, c.loop-end-test.true)) in
    omega (arith, all)

pub loop-end-preserved : goal.loop-end-preserved
loop-end-preserved g c = (
  settled_step (g.S.Space.sets c.args.space.now) c.args.ends.now c.loop-end.end-index c.end-item.result c.loop-end.sum c.in_ok-sum.field-0 c.loop-end-test.true c.end-item.is c.loop-end.invariant.0 c.in_ok-sum.ensures.number,
  more c.loop-end.sum c.loop-end.end-index c.in_ok-sum.field-0 (g.S.Space.sets c.args.space.now).options c.loop-end.invariant.1 (at_most (g.S.Space.sets c.args.space.now) c.end-item.result.condition c.in_ok-sum.field-0 c.in_ok-sum.ensures.number) (g.met.S.Space.lawful c.args.space.now).at_most_64,
  c.in_ok-sum.ensures.numbers,
)
