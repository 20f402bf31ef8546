-- What holds of every state that rounds lead to (own).
use Rattle.std.specs.Prelude.{Bool, List, Option, Some, ℕ, ◌≡◌}
use Rattle.vx_group.specs.Group.{GroupView}
use Rattle.vx_group.specs.declared.callers.Caller.{Caller}
use Rattle.vx_group_states.specs.Stands.{comes_to, state_at}
use Rattle.vx_heap.specs.Heap.{HeapView}
use Rattle.vx_java.specs.Machine.{Outcome as PlainOutcome}
use Rattle.vx_kept_facts.specs.Kept.{GoesOnPlaced, HasPlacedFrames, IsThrowing}
use Rattle.vx_link.specs.declared.program.Program.{Program}
use Rattle.vx_outcome.specs.declared.outcome.Outcome.{Outcome}
use Rattle.vx_space.specs.Sets.{Sets}
use Rattle.vx_standing.specs.Attempted.{IsAttempted, carried_out_row}
use Rattle.vx_standing.specs.Rounds.{IsRound, IsStart}
use Rattle.vx_standing.specs.State.{StateView, group_of}

-- a state of the runs of these configurations that rounds lead to: a start, and what a round makes of such a state
pub data ComesByRounds {S I : Type 0} (p : Program) (allowed : I) (limit : ℕ) : Sets I → StateView S I → Type 0 where
  Begins : (sets : Sets I) (st : StateView S I) → IsStart p sets allowed limit st → ComesByRounds p allowed limit sets st
  Follows : (old new : Sets I) (before after : StateView S I) (group : GroupView S I) → ComesByRounds p allowed limit old before
      → IsRound p old new allowed before after group → ComesByRounds p allowed limit new after

-- at each configuration of each group stand frames whose methods have code, each at an instruction, or the one on top at the end
pub record KeepsFrames {S I : Type 0} (p : Program) (sets : Sets I) (st : StateView S I) : Type 0 where
  pub kept : (c : List Bool) (group : GroupView S I) → group_of sets st.groups c ≡ Some group → HasPlacedFrames p (state_at sets st.heap st.tree group c)

-- what the row at a configuration of a group comes to, with natives and beginnings carried out, keeps this too, and what it raises is Throwable or a class below it, as is the class of what it throws; and what an attempt of the group comes to there keeps it
pub record KeepsOutcomes {S I : Type 0} (p : Program) (sets : Sets I) (st : StateView S I) : Type 0 where
  pub rows : (c : List Bool) (group : GroupView S I) → group_of sets st.groups c ≡ Some group
      → GoesOnPlaced p (carried_out_row p (state_at sets st.heap st.tree group c)) × IsThrowing p (carried_out_row p (state_at sets st.heap st.tree group c))
  pub comes : (new : Sets I) (after : HeapView S I) (later : List (Option (Caller S I))) (group : GroupView S I) (outcomes : List (Outcome S I))
      → IsAttempted p sets new st.heap after st.tree later group outcomes
      → (c : List Bool) → group_of sets st.groups c ≡ Some group → (o : PlainOutcome) → comes_to new after later c outcomes ≡ Some o → GoesOnPlaced p o
