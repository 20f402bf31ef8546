-- A heap whose static fields and initialisation states changed, and nothing else of it.
use Rattle.std.specs.Prelude.{◌≡◌, Bool, List, length}
use Rattle.vx_heap.specs.Heap.{Globals, HeapView, IsHeap, globals_at}
use Rattle.vx_java.specs.Machine.{State}
use Rattle.vx_space.specs.Sets.{Sets}

-- at each configuration stands what the change makes of what stood there
pub record IsChanged {S I : Type 0} (old new : Sets I) (before after : HeapView S I) (change : List Bool → Globals → Globals) : Type 0 where
  pub is_heap : IsHeap new after
  pub same : after ≡ record before { statics = after.statics; inits = after.inits }
  pub statics : length after.statics ≡ length before.statics
  pub inits : length after.inits ≡ length before.inits
  pub at : (c : List Bool) → globals_at new after c ≡ change c (globals_at old before c)

-- the state over these objects, static fields and initialisation states
abbrev pub with_globals : State → Globals → State
with_globals s g = record s { heap = g.objects; statics = g.statics; inits = g.inits }
