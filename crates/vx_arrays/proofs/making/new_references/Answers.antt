use Rattle.std.proofs.Common.{refl}
use Rattle.std.proofs.lemmas.Result.{IfOk-weaker}
use Rattle.vx_java.specs.Arrays.{new_array}
use Rattle.vx_java.specs.declared.operation.Operation.TheVariants.{NewReferences}
use Rattle.vx_link.specs.ClassNames.{array_over}
use Rattle.vx_link.specs.Names.{class_name}
use Rattle.vx_link.specs.Parts.{class_at}
use Rattle.vx_ready.proofs.Given.{IsRunning-given}
use Rattle.vx_arrays.proofs.ClassNumbers.{array_over_below, found_below}
use Rattle.vx_arrays.proofs.ClassRows.{found-attempts, missing-attempts, one_law}
use Rattle.vx_arrays.proofs.making.new_references.Goals as goal

pub resolved-requires-clause-classes : goal.resolved-requires-clause-classes
resolved-requires-clause-classes g c = c.requires.bounded.classes

pub resolved-requires-clause-for_program : goal.resolved-requires-clause-for_program
resolved-requires-clause-for_program g c = c.requires.is_for

pub returns-in_default-clause-ok : goal.returns-in_default-clause-ok
returns-in_default-clause-ok g c =
    IfOk-weaker c.no_class.result _ _ (λ r' h'. missing-attempts c.args.site.now (NewReferences c.args.index) c.args.index c.args.group c.top_frame.result.now c.class_of_method-class.result c.resolved.result c.top_frame.ensures c.class_of_method-class.ensures c.resolved.ensures (λ h class. new_array h (array_over h.program class) h.state.top.operands) (λ s. refl) c.args.heap.now _ c.requires c.in_default.is (h' _))
    c.no_class.ensures

pub array_over-class-requires : goal.array_over-class-requires
array_over-class-requires g c = array_over_below c.args.site.now.program.now c.in-Some.component.0 c.requires.bounded.classes (found_below c.args.site.now.program.now (class_name (class_at c.args.site.now.program.now c.class_of_method-class.result.0).pool c.args.index) c.in-Some.component c.in-Some.ensures)

pub new_arrays-requires : goal.new_arrays-requires
new_arrays-requires g c = record { running = IsRunning-given c.args.site.now (NewReferences c.args.index) _ c.args.heap.now c.args.group c.requires }

pub returns-clause-ok : goal.returns-clause-ok
returns-clause-ok g c =
    IfOk-weaker c.new_arrays.result _ _ (λ r' h'. found-attempts c.args.site.now (NewReferences c.args.index) c.args.index c.args.group c.top_frame.result.now c.class_of_method-class.result c.resolved.result c.top_frame.ensures c.class_of_method-class.ensures c.resolved.ensures (λ h class. new_array h (array_over h.program class) h.state.top.operands) (λ s. refl) c.args.heap.now c.new_arrays.new.heap _ c.in-Some.component _ c.in-Some.is (one_law c.args.site.now c.array_over-class.result.0 (array_over c.args.site.now.program.now c.in-Some.component.0) c.array_over-class.ensures) h')
    c.new_arrays.ensures.ok
