use Rattle.std.proofs.Common.{sym}
use Rattle.std.proofs.lemmas.Result.{IfOk-weaker}
use Rattle.vx_java.specs.declared.operation.Operation.TheVariants.{NewPrimitives}
use Rattle.vx_ready.proofs.Given.{IsRunning-given}
use Rattle.vx_arrays.proofs.ClassRows.{float-attempts, primitives-attempts}
use Rattle.vx_arrays.proofs.making.new_primitives.Goals as goal

pub array_of_primitives-class-requires-clause-numbers : goal.array_of_primitives-class-requires-clause-numbers
array_of_primitives-class-requires-clause-numbers g c = c.requires.bounded.classes

pub array_of_primitives-class-requires-clause-element : goal.array_of_primitives-class-requires-clause-element
array_of_primitives-class-requires-clause-element g c = c.element_of_number-element.ensures.few

pub new_arrays-requires : goal.new_arrays-requires
new_arrays-requires g c = record { running = IsRunning-given c.args.site.now (NewPrimitives c.args.number) _ c.args.heap.now c.args.group c.requires }

pub returns-then-is_float-clause-ok : goal.returns-then-is_float-clause-ok
returns-then-is_float-clause-ok g c =
    IfOk-weaker c.unsupported.result _ _ (λ r' h'. float-attempts c.args.site.now c.args.number c.element_of_number-element.result c.in_ok-what.what c.args.heap.now c.args.group _ c.requires c.element_of_number-element.ensures.value (sym c.if-is_float.ensures) c.in_ok-what.ensures (h' _))
    c.unsupported.ensures

pub returns-clause-ok : goal.returns-clause-ok
returns-clause-ok g c =
    IfOk-weaker c.new_arrays.result _ _ (λ r' h'. primitives-attempts c.args.site.now c.args.number c.element_of_number-element.result c.array_of_primitives-class.result c.args.heap.now c.new_arrays.new.heap c.args.group _ c.element_of_number-element.ensures.value (sym c.if-is_float.ensures) c.array_of_primitives-class.ensures h')
    c.new_arrays.ensures.ok
