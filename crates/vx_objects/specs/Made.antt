-- What comes of runs for which an object may have been made (JVMS 6.5 new, 5.5).
use Rattle.std.specs.Prelude.{◌∷◌, ℕ, Bool, List, if◌then◌else◌}
use Rattle.vx_group_states.specs.Sites.{here}
use Rattle.vx_group_states.specs.declared.site.Site.{Site}
use Rattle.vx_heap.specs.Heap.{HeapView, value_of}
use Rattle.vx_java.specs.Machine.{Outcome, State, go}
use Rattle.vx_ready.specs.Initialising.{stopped_by}
use Rattle.vx_ready.specs.declared.initialising.Readiness.{Readiness}
use Rattle.vx_space.specs.Sets.{Sets}
use Rattle.vx_value.specs.declared.slot.Slot.TheVariants.{Ref}

-- runs that proceed have the object on their operands
abbrev pub given_where_ready : {S I : Type 0} → Site → (class : ℕ) → (old new : Sets I) → (needs : I) → Readiness S I → (reference : ℕ) → HeapView S I → List Bool → State → Outcome
given_where_ready site class old new needs readiness reference heap c s =
    if old.test readiness.proceeds c then go (here site s) (value_of new heap c (Ref reference) ∷ s.top.operands)
    else stopped_by site class old needs readiness.fails heap c s
