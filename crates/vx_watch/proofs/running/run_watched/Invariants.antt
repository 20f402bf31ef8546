use Rattle.std.proofs.Common.{ℕ, List}
use Rattle.vx_lockstep.proofs.Underway.{IsUnderway}
use Rattle.vx_standing.specs.State.{attempts_left}
use Rattle.vx_sched.specs.Picks.{IsFirstKey}
use Rattle.vx_value.specs.declared.key.KeyPart.{KeyPart}
use Rattle.vx_watch.proofs.Heard.{IsWatching}
use Rattle.vx_watch.proofs.running.run_watched.Given as goal

abbrev pub invariant-rounds : goal.invariant-rounds
invariant-rounds g l =
    let start = g.S.Space.sets l.fn.space in
    IsUnderway l.program (g.S.Space.sets l.space) start.options (start.test l.fn.allowed) l.fn.limit ((keys : List (List KeyPart)) (place : ℕ) → g.K.Picker.picks keys place → IsFirstKey keys place) l.state
    × IsWatching (g.E.Sink.seen l.fn.err) (g.E.Sink.seen l.err) l.state

abbrev pub decreases-rounds : goal.decreases-rounds
decreases-rounds g l = attempts_left (g.S.Space.sets l.space) l.state
