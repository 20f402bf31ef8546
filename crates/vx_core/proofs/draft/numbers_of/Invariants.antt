use Rattle.std.proofs.Common.{map, take, ◌≡◌}
use Rattle.vx_core.specs.Rows.{row_number}
use Rattle.vx_core.proofs.draft.numbers_of.Given as goal

abbrev pub invariant-loop-method : goal.invariant-loop-method
invariant-loop-method l = l.numbers.items ≡ map (λ m. row_number m.how) (take l.method-index l.methods)
