use Rattle.std.proofs.Common.{◌≡◌, ◌++◌}
use Rattle.vx_types.specs.Flow.{targets_from}
use Rattle.vx_type_rows.proofs.targets.put_targets.Given as goal

abbrev pub invariant-loop-key : goal.invariant-loop-key
invariant-loop-key l = l.targets.items ≡ l.fn.targets.items ++ targets_from l.code l.at l.first l.step l.key
