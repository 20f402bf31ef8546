-- The heap with which a run begins (JVMS 5.1, 5.2, 5.3).
use Rattle.std.specs.Prelude.{◌≡◌, Bool, true, List}
use Rattle.vx_space.specs.Sets.{Sets}
use Rattle.vx_java.specs.Step.{Config, before_main}
use Rattle.vx_link.specs.declared.program.Program.{Program}
use Rattle.vx_heap.specs.Heap.{Globals, HeapView, IsHeap, IsHeapFor, globals_at}

-- what a configuration begins with
abbrev pub first_globals : Program → Config → Globals
first_globals p c = let s = before_main p c in record { objects = s.heap; statics = s.statics; inits = s.inits }

-- a heap of these configurations, in each of which stands what it begins with
pub record IsFirstHeap {S I : Type 0} (p : Program) (sets : Sets I) (allowed : I) (heap : HeapView S I) : Type 0 where
  pub is_heap : IsHeap sets heap
  pub is_for : IsHeapFor p heap
  pub runs : heap.allowed ≡ allowed
  pub at : (c : List Bool) → sets.test allowed c ≡ true → globals_at sets heap c ≡ first_globals p c
