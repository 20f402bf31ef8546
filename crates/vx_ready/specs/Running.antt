-- A group that runs at an instruction which may change its heap.
use Rattle.std.specs.Prelude.{◌≡◌, Bool, true, List}
use Rattle.vx_cond.specs.Cond.{IsInside}
use Rattle.vx_group.specs.Group.{GroupView, IsGroup, path_of}
use Rattle.vx_heap.specs.Heap.{HeapView, IsHeap, IsHeapFor, are_held}
use Rattle.vx_java.specs.Ids.{HasClassNumbers}
use Rattle.vx_space.specs.Sets.{Sets}
use Rattle.vx_group_states.specs.Answering.{operands_at}
use Rattle.vx_group_states.specs.Sites.{HasPast}
use Rattle.vx_group_states.specs.declared.site.Site.{Site}

-- program, heap and group fit together: the group runs, has its instruction behind it, and its operands name what is there
pub record IsRunning {S I : Type 0} (site : Site) (sets : Sets I) (heap : HeapView S I) (group : GroupView S I) : Type 0 where
  pub classes : HasClassNumbers site.program.now
  pub is_heap : IsHeap sets heap
  pub is_for : IsHeapFor site.program.now heap
  pub is_group : IsGroup sets group
  pub runs : IsInside sets (path_of group) heap.allowed
  pub past : HasPast site group
  pub held : (c : List Bool) → sets.test (path_of group) c ≡ true → are_held sets heap c (operands_at sets group.top.stack c) ≡ true
