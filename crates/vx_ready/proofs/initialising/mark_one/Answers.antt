use Rattle.vx_cond.proofs.CondLaws.{IsCond-of}
use Rattle.vx_value.specs.Slot.{init_state_cmp}
use Rattle.vx_ready.proofs.Changes.{mark_there}
use Rattle.vx_ready.proofs.initialising.mark_one.Goals as goal

pub set_init-requires-clause-states : goal.set_init-requires-clause-states
set_init-requires-clause-states g c = IsCond-of init_state_cmp _ _ c.in_ok-states.states c.in_ok-states.ensures.ok

pub returns-clause-ok : goal.returns-clause-ok
returns-clause-ok g c = mark_there _ _ c.args.heap.now c.set_init.new.self c.args.mark.now c.args.state c.in_ok-states.states c.in_ok-states.ensures.scope c.in_ok-states.ensures.ok c.in_ok-set_init.ensures.ok
