use Rattle.std.proofs.Common.{arith}
use Rattle.vx_flow.proofs.ReadLaws.{locals_end, locals_step}
use Rattle.vx_flow.proofs.reading.locals_of.Goals as goal

pub type_at-requires : goal.type_at-requires
type_at-requires c = c.local-number.ensures.within

pub loop-place-preserved : goal.loop-place-preserved
loop-place-preserved c =
    rw c.in_ok-push.ensures.items
    (locals_step c.args.store.now c.args.frame c.args.tree c.loop-place.place c.loop-place.types.items c.local-number.result c.type_at.result.now c.in_ok-copy.copy c.requires.room
    c.loop-place-test.true c.loop-place.invariant c.local-number.ensures.value c.type_at.ensures c.in_ok-copy.ensures)

pub returns : goal.returns
returns c = locals_end c.args.store.now c.args.frame c.args.tree c.loop-place.place c.loop-place.types.items c.requires.room (omega arith) c.loop-place.invariant
