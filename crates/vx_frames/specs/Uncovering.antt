-- Frames that are taken off a group: of a method that returned, or one that an exception passes (JVMS 2.6.4, 2.6.5).
use Rattle.std.specs.Prelude.{◌≡◌, Bool, true, List, suc, Option}
use Rattle.vx_space.specs.Sets.{Sets}
use Rattle.vx_frame.specs.declared.frame.Frame.{Frame}
use Rattle.vx_frame.specs.Frame.{frame_at}
use Rattle.vx_group.specs.declared.callers.Caller.{Caller}
use Rattle.vx_group.specs.Group.{GroupView, IsGroupIn, depth_of, path_of}
use Rattle.vx_heap.specs.Heap.{HeapView, IsHeap}
use Rattle.vx_link.specs.declared.program.Program.{Program}
use Rattle.vx_group_states.specs.Stands.{Continues, StandsIn, plain_frame, state_at}
use Rattle.vx_frames.specs.Entering.{with_frame}

-- The frame on top was taken off a group, over the same tree: at each configuration of the path stood the state that stands now with that frame more. So the caller's frame is on top now, and of its operands outside the path nothing is said.
pub record IsUncovered {S I : Type 0} (old new : Sets I) (tree : List (Option (Caller S I))) (before : GroupView S I) (taken : Frame S I) (after : GroupView S I) : Type 0 where
  pub top : taken ≡ before.top
  pub is_group : IsGroupIn new tree after
  pub attempts : after.attempts ≡ before.attempts
  pub depth : depth_of before ≡ suc (depth_of after)
  pub continues : (p : Program) (heap : HeapView S I) → IsHeap old heap → StandsIn p old heap tree before → Continues p old new heap tree before after
  pub at : (heap : HeapView S I) → IsHeap old heap → (c : List Bool) → old.test (path_of before) c ≡ true → state_at old heap tree before c ≡ with_frame (state_at new heap tree after c) (plain_frame old heap c (frame_at old taken c))
