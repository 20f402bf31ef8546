use Rattle.std.proofs.Common.{None, Some, ap, ◌∙◌}
use Rattle.vx_flow.proofs.Flows.{made_is, made_store, made_stands}
use Rattle.vx_types.specs.Flow.{after}
use Rattle.vx_flow.proofs.flowing.made_in.Goals as goal

pub state_of-requires-clause-store : goal.state_of-requires-clause-store
state_of-requires-clause-store c = made_store c.numbered.new.store c.after.new.store _ c.in-Some.state _ (rw c.in-Some.is at c.in_ok-found.ensures)

pub state_of-requires-clause-stands : goal.state_of-requires-clause-stands
state_of-requires-clause-stands c = made_stands c.numbered.new.store c.after.new.store _ c.in-Some.state _ (rw c.in-Some.is at c.in_ok-found.ensures)

pub returns-in_ok-made-in-Some : goal.returns-in_ok-made-in-Some
returns-in_ok-made-in-Some c =
    ap Some c.in_ok-made-in-Some.ensures
    ∙ made_is c.numbered.new.store c.after.new.store _ (Some c.in-Some.state) _ (rw c.in-Some.is at c.in_ok-found.ensures)
    ∙ ap (after c.args.program.now c.args.row.now) c.in_ok-state.ensures.is

pub returns-in-None : goal.returns-in-None
returns-in-None c =
    made_is c.numbered.new.store c.after.new.store c.args.frame None _ (rw c.in-None.is at c.in_ok-found.ensures)
    ∙ ap (after c.args.program.now c.args.row.now) c.in_ok-state.ensures.is
