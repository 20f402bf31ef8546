use Rattle.vx_lockstep.proofs.Underway.{own_allowed}
use Rattle.vx_long_run.proofs.rounds.make_rounds.Goals as goal

pub rounds-init : goal.rounds-init
rounds-init g c = (own_allowed c.args.example.now.program (g.S.Space.sets c.start.new.space) c.in_ok-allowed.allowed c.in_ok-state.state c.in_ok-state.ensures.ok.is_state, c.in_ok-state.ensures.ok.tree)

pub round-requires-clause-state : goal.round-requires-clause-state
round-requires-clause-state g c = c.rounds.invariant.0

pub round-requires-clause-tree : goal.round-requires-clause-tree
round-requires-clause-tree g c = c.rounds.invariant.1

pub rounds-preserved : goal.rounds-preserved
rounds-preserved g c = (c.in_ok-round.ensures.state, c.in_ok-round.ensures.tree)
