use Rattle.std.proofs.Common.{◌≡◌, length}
use Rattle.std.specs.Vec.Iter.{into_iter_items, into_iter_len}
use Rattle.vx_placing.proofs.Sequence.{IsPlacing}
use Rattle.vx_placing.proofs.placing.place_all.Given as goal

abbrev pub invariant-loop-outcome : goal.invariant-loop-outcome
invariant-loop-outcome g l = (into_iter_len l.outcome-iterator ≡ length (into_iter_items l.outcome-iterator)) × IsPlacing l.setting.program.now (g.S.Space.sets l.fn.space) (g.S.Space.sets l.space) l.setting.heap.now l.setting.limit l.attempts l.fn.round l.round l.fn.outcomes.items (into_iter_items l.outcome-iterator)
