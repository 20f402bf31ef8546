use Rattle.std.proofs.Common.{arith}
use Rattle.vx_flow.proofs.NumberLaws.{numbers_end, numbers_start, numbers_step}
use Rattle.vx_flow.proofs.numbering.numbers_of.Goals as goal

pub loop-item-init : goal.loop-item-init
loop-item-init c = rw c.new-numbers.ensures.items (numbers_start c.args.store.now c.args.items.now c.requires)

pub put_type-requires : goal.put_type-requires
put_type-requires c = c.loop-item.invariant.later.store

pub loop-item-preserved : goal.loop-item-preserved
loop-item-preserved c =
    rw c.in_ok-push.ensures.items
    (numbers_step c.args.store.now c.loop-item.store c.put_type.new.self c.args.items.now c.loop-item.item-index c.item-item.result c.loop-item.numbers.items c.in_ok-number.number
    c.loop-item.invariant c.loop-item-test.true c.item-item.is c.in_ok-number.ensures.ok)

pub returns : goal.returns
returns c = numbers_end c.args.store.now c.loop-item.store c.args.items.now c.loop-item.item-index c.loop-item.numbers.items c.loop-item.invariant (omega arith)
