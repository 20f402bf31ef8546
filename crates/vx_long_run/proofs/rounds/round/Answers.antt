use Rattle.vx_lockstep.proofs.Underway.{own_allowed, picked_below}
use Rattle.vx_long_run.proofs.rounds.round.Goals as goal

pub step_group-requires-clause-which : goal.step_group-requires-clause-which
step_group-requires-clause-which g c = picked_below c.args.state.now.groups c.groups.result.now c.as_slice.result.now c.in_ok-keys.keys.items c.pick-which.result c.as_slice.ensures.value c.in_ok-keys.ensures c.groups.ensures c.pick-which.ensures.in_range

pub returns-clause-state : goal.returns-clause-state
returns-clause-state g c = own_allowed c.args.program.now (g.S.Space.sets c.step_group.new.space) c.args.state.now.heap.allowed c.step_group.new.state c.in_ok-step_group.ensures.ok.2.is_state
