use Rattle.std.proofs.Common.{option_map}
use Rattle.vx_linker.proofs.Layouts.{Counts}
use Rattle.vx_linker.proofs.layout.cells_up.Given as goal

abbrev pub invariant-loop-step : goal.invariant-loop-step
invariant-loop-step l =
    Counts l.program l.steps (option_map (λ c. c.0) l.fn.class) l.count l._step (option_map (λ c. c.0) l.next)
