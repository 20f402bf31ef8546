-- The families of instructions, and the operations of each (JVMS 6.5).
use Rattle.std.specs.Prelude.{Bool}
use Rattle.vx_arith.specs.Family.{is_of_numbers}
use Rattle.vx_attempt.specs.declared.family.Family.{Family}
use Rattle.vx_attempt.specs.declared.family.Family.TheVariants.{Arrays, Calls, Forms, Locals, Numbers, Objects, Returns, Statics, Throws}
use Rattle.vx_arrays.specs.Family.{is_of_arrays}
use Rattle.vx_fields.specs.Statics.{is_of_statics}
use Rattle.vx_objects.specs.Family.{is_of_objects}
use Rattle.vx_stack.specs.Forms.{is_form}
use Rattle.vx_invoke.specs.Named.{is_invoke}
use Rattle.vx_java.specs.declared.operation.Operation.{Operation}
use Rattle.vx_locals.specs.Family.{is_of_locals}
use Rattle.vx_returns.specs.Handing.{is_return}
use Rattle.vx_throw.specs.Thrown.{is_throw}

-- an operation is of a family
abbrev pub is_of : Family → Operation → Bool
is_of Numbers operation = is_of_numbers operation
is_of Locals operation = is_of_locals operation
is_of Forms operation = is_form operation
is_of Returns operation = is_return operation
is_of Statics operation = is_of_statics operation
is_of Objects operation = is_of_objects operation
is_of Arrays operation = is_of_arrays operation
is_of Calls operation = is_invoke operation
is_of Throws operation = is_throw operation
