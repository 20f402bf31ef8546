-- Exceptions that are raised: the object is made, the text of its message before it, and thrown (JVMS 2.10).
use Rattle.std.specs.Prelude.{◌≢◌, ℕ, List, Option}
use Rattle.vx_families.specs.Bounds.{IsBounded}
use Rattle.vx_group.specs.declared.callers.Caller.{Caller}
use Rattle.vx_group.specs.Group.{GroupView, path_of}
use Rattle.vx_group_states.specs.Stands.{IsMessage, StandsIn, message_of}
use Rattle.vx_heap.specs.Heap.{HeapView, IsHeap, IsHeapFor}
use Rattle.vx_java.specs.Machine.{State}
use Rattle.vx_java.specs.Machine.{Outcome as PlainOutcome}
use Rattle.vx_java.specs.Throwing.{next_after_raise}
use Rattle.vx_link.specs.declared.program.Program.{Program}
use Rattle.vx_space.specs.Sets.{Sets}
use Rattle.vx_standing.specs.Attempted.{outcome_of}

-- an exception with a message is raised in all runs of a group, of which there is one at least, over this heap and this tree
pub record IsRaising {S I : Type 0} (p : Program) (sets : Sets I) (heap : HeapView S I) (tree : List (Option (Caller S I))) (group : GroupView S I) (text : Option ℕ) : Type 0 where
  pub bounded : IsBounded p
  pub is_heap : IsHeap sets heap
  pub is_for : IsHeapFor p heap
  pub stands : StandsIn p sets heap tree group
  pub message : IsMessage heap text
  pub some : path_of group ≢ sets.never

-- what comes of it at a state
abbrev pub raised_from : {S I : Type 0} → Program → HeapView S I → (class : ℕ) → (message : Option ℕ) → State → PlainOutcome
raised_from p heap class message s = outcome_of (next_after_raise p s class (message_of heap message))
