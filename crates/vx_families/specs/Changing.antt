-- Changes of the heap in a set of configurations, over a state.
pub use Rattle.vx_heap.specs.Changing.{IsChangedIn, changed_in}
use Rattle.vx_heap.specs.Heap.{Globals}
use Rattle.vx_java.specs.Machine.{State}

-- the state over these objects, static fields and initialisation states
abbrev pub with_globals : State → Globals → State
with_globals s g = record s { heap = g.objects; statics = g.statics; inits = g.inits }
