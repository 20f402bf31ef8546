use Rattle.std.proofs.Common.{take, ◌≡◌}
use Rattle.vx_verify.specs.States.{locals_at}
use Rattle.vx_flow.proofs.reading.locals_of.Given as goal

abbrev pub invariant-loop-place : goal.invariant-loop-place
invariant-loop-place l = l.types.items ≡ take l.place (locals_at l.store l.frame l.tree)
