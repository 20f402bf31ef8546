use Rattle.vx_noted.proofs.Underway.{IsSearching}
use Rattle.vx_plain.specs.Views.{state_of}
use Rattle.vx_noted.proofs.running.first_noted.Given as goal

abbrev pub invariant-loop-made : goal.invariant-loop-made
invariant-loop-made l = IsSearching l.program l.limit (state_of l.initial.state) (state_of l.state) l.object l.made
