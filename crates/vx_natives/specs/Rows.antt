-- What a native method makes of the values of its call, at one configuration.
use Rattle.std.specs.Prelude.{Bool, List, None, Option, Some, map}
use Rattle.vx_heap.specs.Heap.{HeapView, value_of}
use Rattle.vx_java.specs.Machine.{Here, Outcome, illegal}
use Rattle.vx_java.specs.Texts.{NativeMethod}
use Rattle.vx_space.specs.Sets.{Sets}
use Rattle.vx_value.specs.declared.slot.Slot.{Slot}
use Rattle.vx_natives.specs.Doing.{Says}

-- where a rule of the call is broken it ends the run
abbrev pub by_arguments : {S I : Type 0} → Sets I → HeapView S I → List Bool → NativeMethod → Here → (rest : List Slot) → Option (List Slot) → Outcome
by_arguments sets heap c method h rest None = illegal h
by_arguments sets heap c method h rest (Some values) = method h (map (value_of sets heap c) values) (map (value_of sets heap c) rest)

-- the same, where plain values stand under those of the call
abbrev pub said_given : {S I : Type 0} → Sets I → HeapView S I → NativeMethod → Option (List Slot) → Says
said_given sets heap method None c h rest = illegal h
said_given sets heap method (Some values) c h rest = method h (map (value_of sets heap c) values) rest
