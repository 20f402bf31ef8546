-- athrow (JVMS 6.5).
use Rattle.std.specs.Prelude.{ℕ, Bool, true, false, None, Option, Some, if◌then◌else◌}
use Rattle.vx_group_states.specs.declared.answer.Answer.{Answer}
use Rattle.vx_group_states.specs.declared.answer.Answer.TheVariants as answer
use Rattle.vx_heap.specs.Heap.{HeapView, class_at_slot}
use Rattle.vx_java.specs.declared.operation.Operation.{Operation}
use Rattle.vx_java.specs.declared.operation.Operation.TheVariants.{Throw}
use Rattle.vx_link.specs.Assignability.{assignable}
use Rattle.vx_link.specs.declared.program.Program.{Program}
use Rattle.vx_value.specs.declared.ids.ClassId.{ClassId}
use Rattle.vx_value.specs.declared.slot.Slot.{Slot}
use Rattle.vx_value.specs.declared.slot.Slot.TheVariants as slot

-- the operation of this family
abbrev pub is_throw : Operation → Bool
is_throw Throw = true
is_throw _ = false

-- an object of a class
abbrev pub thrown_if : Program → (throwable : ℕ) → Slot → Option ClassId → Answer
thrown_if p throwable slot None = answer.Illegal
thrown_if p throwable slot (Some class) = if assignable p class.0 throwable then answer.Throw slot else answer.Illegal

-- null raises this class, and an object that is no Throwable breaks a rule
abbrev pub thrown : {S I : Type 0} → Program → HeapView S I → (throwable : ℕ) → (null : ClassId) → Slot → Answer
thrown p heap throwable null slot.Null = answer.Raise null None
thrown p heap throwable null slot = thrown_if p throwable slot (class_at_slot heap slot)
