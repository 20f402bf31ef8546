-- The beginning of an initialisation, for all configurations of a group at once, and the frames of its chain (JVMS 5.5).
use Rattle.std.specs.Prelude.{◌≡◌, ◌+◌, Bool, true, false, List, Option, length, reverse}
use Rattle.vx_group.specs.declared.callers.Caller.{Caller}
use Rattle.vx_group.specs.Group.{GroupView, IsGroupIn, depth_of, path_of}
use Rattle.vx_group_states.specs.Stands.{Continues, StandsIn, state_at}
use Rattle.vx_heap.specs.Heap.{HeapView, IsHeap, IsHeapFor}
use Rattle.vx_java.specs.Ids.{HasClassNumbers}
use Rattle.vx_java.specs.Initialisation.{with_frames}
use Rattle.vx_link.specs.declared.program.Program.{Program}
use Rattle.vx_ready.specs.Initialising.{numbers_of}
use Rattle.vx_space.specs.Sets.{Sets}
use Rattle.vx_value.specs.declared.ids.ClassId.{ClassId}
use Rattle.vx_value.specs.declared.key.Kind.{Kind}
use Rattle.vx_value.specs.declared.key.Kind.TheVariants.{Init, Wait}

-- program, heap, tree and group fit together
pub record IsBeginning {S I : Type 0} (p : Program) (sets : Sets I) (heap : HeapView S I) (tree : List (Option (Caller S I))) (group : GroupView S I) : Type 0 where
  pub classes : HasClassNumbers p
  pub is_heap : IsHeap sets heap
  pub is_for : IsHeapFor p heap
  pub stands : StandsIn p sets heap tree group

-- the frame of the last class of a chain is the next to initialise, and the others wait
abbrev pub kind_of : (is_last : Bool) → Kind
kind_of true = Init
kind_of false = Wait

-- The frames of a chain of classes, from the last class down, were pushed on a group, over a later tree: at each configuration of the path stands the state with them, over each heap.
pub record IsChainPushed {S I : Type 0} (p : Program) (sets : Sets I) (tree later : List (Option (Caller S I))) (before : GroupView S I) (chain : List ClassId) (after : GroupView S I) : Type 0 where
  pub is_group : IsGroupIn sets later after
  pub attempts : after.attempts ≡ before.attempts
  pub depth : depth_of after ≡ depth_of before + length chain
  pub continues : (heap : HeapView S I) → StandsIn p sets heap tree before → Continues p sets sets heap later before after
  pub at : (heap : HeapView S I) (c : List Bool) → sets.test (path_of before) c ≡ true → state_at sets heap later after c ≡ with_frames p (state_at sets heap tree before c) (reverse (numbers_of chain))
