use Rattle.std.proofs.Common.{◌≡◌, length, true}
use Rattle.std.specs.List.{list_all}
use Rattle.std.specs.Vec.Iter.{into_iter_items, into_iter_len}
use Rattle.vx_standing.specs.Attempted.{is_placed, thrown_out}
use Rattle.vx_attempt.specs.Carrying.{AreThere, NoneUncarried}
use Rattle.vx_attempt.proofs.Carrying.{IsCarrying}
use Rattle.vx_attempt.proofs.throwing.all_thrown.Given as goal

abbrev pub invariant-loop-outcome : goal.invariant-loop-outcome
invariant-loop-outcome g l = (into_iter_len l.outcome-iterator ≡ length (into_iter_items l.outcome-iterator)) × (IsCarrying l.program (thrown_out l.program) (g.S.Space.sets l.fn.space) (g.S.Space.sets l.space) l.fn.heap l.heap l.fn.callers l.callers l.fn.outcomes.items.items (into_iter_items l.outcome-iterator) l.made.items.items × (AreThere l.program (g.S.Space.sets l.space) l.heap l.callers (into_iter_items l.outcome-iterator) × (NoneUncarried l.program (g.S.Space.sets l.fn.space) l.fn.heap l.fn.callers l.fn.outcomes.items.items → list_all is_placed l.made.items.items ≡ true)))
