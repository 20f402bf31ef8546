use Rattle.std.proofs.Common.{drop, ◌≡◌}
use Rattle.std.specs.Prelude.{nat_le}
use Rattle.vx_types.specs.Flow.{stack_size}
use Rattle.vx_flow.proofs.flowing.fit_in.Given as goal

abbrev pub invariant-loop-item : goal.invariant-loop-item
invariant-loop-item l = nat_le (stack_size (drop l.item-index l.operands)) l.left ≡ nat_le (stack_size l.operands) l.words
