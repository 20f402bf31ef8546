use Rattle.std.proofs.Common.{arith}
use Rattle.vx_flow.proofs.NumberLaws.{numbered_made}
use Rattle.vx_flow.proofs.numbering.numbered.Goals as goal

pub numbers_of-requires : goal.numbers_of-requires
numbers_of-requires c = c.requires.store

pub filled-requires-clause-store : goal.filled-requires-clause-store
filled-requires-clause-store c = c.in_ok-types.ensures.later.store

pub filled-requires-clause-numbers : goal.filled-requires-clause-numbers
filled-requires-clause-numbers c = rw c.deref.ensures.value c.in_ok-types.ensures.are_types

pub numbers_of-requires-2 : goal.numbers_of-requires-2
numbers_of-requires-2 c = c.in_ok-locals.ensures.later.store

pub on_top-requires-clause-store : goal.on_top-requires-clause-store
on_top-requires-clause-store c = c.in_ok-tops.ensures.later.store

pub on_top-requires-clause-tops : goal.on_top-requires-clause-tops
on_top-requires-clause-tops c = rw c.deref-2.ensures.value c.in_ok-tops.ensures.are_types

pub on_top-requires-clause-under : goal.on_top-requires-clause-under
on_top-requires-clause-under c = omega arith

pub returns : goal.returns
returns c =
    numbered_made c.args.store.now c.numbers_of.new.store c.filled.new.store c.numbers_of-2.new.store c.on_top.new.store c.args.frame c.in_ok-locals.locals c.in_ok-operands.operands
    c.in_ok-types.types.items c.in_ok-tops.tops.items c.args.state.now.locals c.args.state.now.operands (rw c.as_slice.ensures at c.in_ok-types.ensures) c.requires.locals
    (rw c.deref.ensures.value at c.in_ok-locals.ensures) (rw c.as_slice-2.ensures at c.in_ok-tops.ensures) (rw c.deref-2.ensures.value at c.in_ok-operands.ensures)
