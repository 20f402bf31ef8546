-- Initialisations that wait for that of a superclass (JVMS 5.5).
use Rattle.std.specs.Prelude.{◌≡◌, Bool, List, Option}
use Rattle.vx_space.specs.Sets.{Sets}
use Rattle.vx_group.specs.declared.callers.Caller.{Caller}
use Rattle.vx_group.specs.Group.{GroupView, IsGroup, IsGroupIn}
use Rattle.vx_heap.specs.Heap.{HeapView, IsHeap}
use Rattle.vx_java.specs.Machine.{State}
use Rattle.vx_java.specs.Returns.{awake}
use Rattle.vx_link.specs.declared.program.Program.{Program}
use Rattle.vx_group_states.specs.Stands.{Continues, StandsIn, state_at}

-- a state whose frame on top is the next to initialise, if it waits
abbrev pub state_awake : State → State
state_awake s = record s { top = record (s.top) { kind = awake s.top.kind } }

-- a group whose frame on top is the next to initialise, if it waits: at each configuration stands the state of that kind, over every heap and tree in which the group stands
pub record IsWoken {S I : Type 0} (sets : Sets I) (before after : GroupView S I) : Type 0 where
  pub is_group : IsGroup sets after
  pub same : after ≡ record before { top = record (before.top) { kind = awake before.top.kind } }
  pub continues : (p : Program) (heap : HeapView S I) (tree : List (Option (Caller S I))) → IsHeap sets heap → StandsIn p sets heap tree before → Continues p sets sets heap tree before after
  pub at : (heap : HeapView S I) (tree : List (Option (Caller S I))) → IsHeap sets heap → IsGroupIn sets tree before → (c : List Bool) → state_at sets heap tree after c ≡ state_awake (state_at sets heap tree before c)
