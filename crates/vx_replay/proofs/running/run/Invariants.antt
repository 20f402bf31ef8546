use Rattle.vx_plain.specs.Views.{state_of}
use Rattle.vx_replay.proofs.Steps.{IsUnderway}
use Rattle.vx_replay.proofs.running.run.Given as goal

abbrev pub invariant-loop-made : goal.invariant-loop-made
invariant-loop-made l = IsUnderway l.program l.limit (state_of l.initial.state) (state_of l.state) l.pieces.items l.made
