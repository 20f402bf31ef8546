use Rattle.std.proofs.Common.{◌≡◌, drop, map}
use Rattle.vx_java.specs.Machine.{with_inits}
use Rattle.vx_plain.specs.Views.{state_of}
use Rattle.vx_plain.proofs.state.State.mark.Given as goal

abbrev pub invariant-loop-class : goal.invariant-loop-class
invariant-loop-class l = with_inits (state_of l.self) l.state (map (λ c. c.0) (drop l.class-index l.classes)) ≡ with_inits (state_of l.initial.self) l.state (map (λ c. c.0) l.classes)
