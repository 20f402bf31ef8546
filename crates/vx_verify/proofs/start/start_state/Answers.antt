use Rattle.vx_verify.proofs.StartLaws.{started}
use Rattle.vx_verify.proofs.start.start_state.Goals as goal

pub filled-requires-clause-store : goal.filled-requires-clause-store
filled-requires-clause-store c = c.in_ok-numbers.ensures.later.store

pub filled-requires-clause-numbers : goal.filled-requires-clause-numbers
filled-requires-clause-numbers c = rw c.deref.ensures.value c.in_ok-numbers.ensures.are_types

pub returns : goal.returns
returns c =
    started c.args.program.now c.args.method.0 c.args.store.now c.given.new.store c.filled.new.store c.args.frame c.in_ok-numbers.numbers.items c.in_ok-locals.locals c.in_ok-numbers.ensures
    (rw c.deref.ensures.value at c.in_ok-locals.ensures)
