use Rattle.vx_invoke.proofs.arguments.taken.Goals as goal

pub pop_values-requires : goal.pop_values-requires
pop_values-requires g c = rw c.take_top-below.ensures c.requires.enough

pub put_top-requires-clause-scope : goal.put_top-requires-clause-scope
put_top-requires-clause-scope g c = rw c.take_top-below.ensures c.requires.scope
