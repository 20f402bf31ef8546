-- What comes of a group that stands over one tree of callers, where frames are pushed or taken off (own).
use Rattle.std.specs.Prelude.{◌≡◌, Bool, false, List, Option}
use Rattle.vx_space.specs.Sets.{Sets}
use Rattle.vx_group.specs.declared.callers.Caller.{Caller}
use Rattle.vx_group.specs.Callers.{Keeps}
use Rattle.vx_group.specs.Group.{GroupView, path_of}
use Rattle.vx_heap.specs.Heap.{HeapView, IsHeap, IsHeapFor, globals_at}
use Rattle.vx_java.specs.Machine.{State}
use Rattle.vx_java.specs.Machine.{Outcome as PlainOutcome}
use Rattle.vx_link.specs.declared.program.Program.{Program}
use Rattle.vx_outcome.specs.declared.outcome.Outcome.{Outcome}
use Rattle.vx_group_states.specs.Stands.{CameTo, Grows, StandsIn, state_at}

-- the outcomes of a group over a later tree, and over this heap if the group stands there over the earlier tree: what this function of the configuration and the plain state there says
abbrev pub GivesIn : {S I : Type 0} → Program → (HeapView S I → List Bool → State → PlainOutcome) → Sets I → Sets I → (tree later : List (Option (Caller S I))) → GroupView S I → List (Outcome S I) → HeapView S I → Type 0
GivesIn p says old new tree later group outcomes heap =
    IsHeap old heap → StandsIn p old heap tree group → CameTo p old new heap later group (λ c. says heap c (state_at old heap tree group c)) (old.test (path_of group)) outcomes

-- An attempt of a group that may change the heap and the tree: at each configuration of its path comes what this function of the configuration and the plain state there says, and at each other one the plain heap stays.
pub record AttemptsAt {S I : Type 0} (p : Program) (says : List Bool → State → PlainOutcome) (old new : Sets I) (before after : HeapView S I) (tree later : List (Option (Caller S I))) (group : GroupView S I) (outcomes : List (Outcome S I)) : Type 0 where
  pub is_heap : IsHeap new after
  pub is_for : IsHeapFor p after
  pub grows : Grows before after
  pub keeps : Keeps tree later
  pub came : CameTo p old new after later group (λ c. says c (state_at old before tree group c)) (old.test (path_of group)) outcomes
  pub outside : (c : List Bool) → old.test (path_of group) c ≡ false → globals_at new after c ≡ globals_at old before c
