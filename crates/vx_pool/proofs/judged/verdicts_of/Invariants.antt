use Rattle.std.proofs.Common.{◌≡◌, map, take}
use Rattle.vx_pool.specs.Verdicts.{entry_verdict}
use Rattle.vx_pool.proofs.judged.verdicts_of.Given as goal

abbrev pub invariant-loop-entry : goal.invariant-loop-entry
invariant-loop-entry l = l.verdicts.items ≡ map entry_verdict (take l.entry-index l.entry-items)
