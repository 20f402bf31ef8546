use Rattle.vx_noted.proofs.Underway.{IsComing}
use Rattle.vx_plain.specs.Views.{state_of}
use Rattle.vx_noted.proofs.running.advance.Given as goal

abbrev pub invariant-loop-made : goal.invariant-loop-made
invariant-loop-made l = IsComing l.program l.count (state_of l.initial.state) (state_of l.state) l.made
