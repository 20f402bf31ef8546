use Rattle.std.proofs.Common.{◌-◌}
use Rattle.std.specs.Prelude.{◌≤◌, ℕ, List}
use Rattle.vx_engine.specs.Rounds.{AreRounds}
use Rattle.vx_standing.specs.State.{IsState}
use Rattle.vx_sched.specs.Picks.{IsFirstKey}
use Rattle.vx_value.specs.declared.key.KeyPart.{KeyPart}
use Rattle.vx_engine.proofs.running.make_rounds.Given as goal

abbrev pub invariant-rounds : goal.invariant-rounds
invariant-rounds g l =
    (l.made ≤ l.fn.most)
    × IsState l.program (g.S.Space.sets l.space) l.state.heap.allowed l.state
    × AreRounds l.program ((keys : List (List KeyPart)) (place : ℕ) → g.K.Picker.picks keys place → IsFirstKey keys place) (g.S.Space.sets l.fn.space) l.fn.state l.made (g.S.Space.sets l.space) l.state

abbrev pub decreases-rounds : goal.decreases-rounds
decreases-rounds g l = l.fn.most - l.made
