-- The conditions of the outcomes of a group are known.
use Rattle.std.proofs.Common.{List, [], ◌∷◌}
use Rattle.std.specs.Prelude.{Option}
use Rattle.vx_space.specs.Sets.{Sets}
use Rattle.vx_group.specs.declared.callers.Caller.{Caller}
use Rattle.vx_group.specs.Group.{GroupView}
use Rattle.vx_heap.specs.Heap.{HeapView}
use Rattle.vx_link.specs.declared.program.Program.{Program}
use Rattle.vx_outcome.specs.declared.outcome.Outcome.{Outcome}
use Rattle.vx_group_states.specs.Stands.{AreOutcomes}
use Rattle.vx_group_states.proofs.OutcomeStates.{condition_known}
use Rattle.vx_standing.specs.Attempted.{AreConditionsKnown}

pub conditions_known : {S I : Type 0} (p : Program) (old new : Sets I) (heap : HeapView S I) (tree : List (Option (Caller S I))) (group : GroupView S I) (xs : List (Outcome S I)) → AreOutcomes p old new heap tree group xs → AreConditionsKnown new xs
conditions_known p old new heap tree group [] h = tt
conditions_known p old new heap tree group (x ∷ xs) h = (condition_known p old new heap tree group x h.0, conditions_known p old new heap tree group xs h.1)
