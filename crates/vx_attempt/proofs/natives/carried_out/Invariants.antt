use Rattle.std.proofs.Common.{◌≡◌, length}
use Rattle.std.specs.Vec.Iter.{into_iter_items, into_iter_len}
use Rattle.vx_java.specs.Step.{outcome_carried_out}
use Rattle.vx_attempt.specs.Carrying.{AreAtCalls, AreThere}
use Rattle.vx_attempt.proofs.Carrying.{IsCarrying}
use Rattle.vx_attempt.proofs.natives.carried_out.Given as goal

abbrev pub invariant-loop-outcome : goal.invariant-loop-outcome
invariant-loop-outcome g l = (into_iter_len l.outcome-iterator ≡ length (into_iter_items l.outcome-iterator)) × (IsCarrying l.site.program.now (outcome_carried_out l.site.program.now) (g.S.Space.sets l.fn.space) (g.S.Space.sets l.space) l.fn.heap l.heap l.fn.callers l.callers l.fn.outcomes.items.items (into_iter_items l.outcome-iterator) l.made.items.items × (AreThere l.site.program.now (g.S.Space.sets l.space) l.heap l.callers (into_iter_items l.outcome-iterator) × AreAtCalls l.site (g.S.Space.sets l.space) (into_iter_items l.outcome-iterator)))
