use Rattle.vx_verify.proofs.StartLaws.{given_all}
use Rattle.vx_verify.proofs.start.given.Goals as goal

pub put_arguments-requires-clause-store : goal.put_arguments-requires-clause-store
put_arguments-requires-clause-store c = c.in_ok-numbers.ensures.later.store

pub put_arguments-requires-clause-numbers : goal.put_arguments-requires-clause-numbers
put_arguments-requires-clause-numbers c = c.in_ok-numbers.ensures.are_types

pub returns : goal.returns
returns c =
    given_all c.args.store.now c.receiver.new.store c.put_arguments.new.store c.in_ok-numbers.numbers.items _ _ _ c.in_ok-numbers.ensures
    (rw (c.as_slice-items.ensures, c.in_ok-signature.ensures, c.descriptor_of_method-descriptor.ensures) at c.in_ok-put_arguments.ensures)
