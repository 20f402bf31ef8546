-- The clone of arrays (JVMS 6.5 invokevirtual, JLS 10.7).
use Rattle.std.specs.Prelude.{Bool, List, [], ◌∷◌, None, if◌then◌else◌}
use Rattle.vx_cells.specs.Making.{Breaks, Making, Makes, Raises}
use Rattle.vx_group_states.specs.declared.answer.Answer.{Answer}
use Rattle.vx_group_states.specs.declared.answer.Answer.TheVariants.{Illegal, Raise}
use Rattle.vx_heap.specs.Heap.{HeapView, objects_at, value_of}
use Rattle.vx_java.specs.Ids.{as_class}
use Rattle.vx_java.specs.Machine.{Object, Value, no_object}
use Rattle.vx_java.specs.Machine.{Null as NullValue, Ref as RefValue}
use Rattle.vx_link.specs.ClassNames.{core_class, is_array}
use Rattle.vx_link.specs.declared.program.Program.{Program}
use Rattle.vx_list.specs.Places.{item_or}
use Rattle.vx_space.specs.Sets.{Sets}
use Rattle.vx_value.specs.declared.ids.ClassId.{ClassId}
use Rattle.vx_value.specs.declared.slot.Slot.{Slot}
use Rattle.vx_value.specs.declared.slot.Slot.TheVariants.{Null}

-- what the clone of a value makes, over these objects: of an array another one of its class and length with its elements; null raises an exception, and all else breaks a rule
abbrev pub clone_made : Program → List Object → Value → Making
clone_made p objects NullValue = Raises (as_class (core_class p "java/lang/NullPointerException"))
clone_made p objects (RefValue r) =
    let array = item_or objects r no_object in if is_array p array.class then Makes (λ first. array ∷ []) else Breaks
clone_made p objects v = Breaks

-- at each configuration, where this slot is the receiver
abbrev pub clones_made : {S I : Type 0} → Program → Sets I → HeapView S I → (receiver : List Bool → Slot) → List Bool → Making
clones_made p sets heap receiver c = clone_made p (objects_at sets heap c) (value_of sets heap c (receiver c))

-- the answer to a receiver that is no object
abbrev pub no_array : (null : ClassId) → Slot → Answer
no_array null Null = Raise null None
no_array null receiver = Illegal
