use Rattle.vx_standing.specs.State.{IsState, IsTreeKnown}
use Rattle.vx_long_run.proofs.rounds.make_rounds.Given as goal

abbrev pub invariant-rounds : goal.invariant-rounds
invariant-rounds g l = IsState l.example.program (g.S.Space.sets l.space) l.state.heap.allowed l.state × IsTreeKnown (g.S.Space.sets l.space) l.state
