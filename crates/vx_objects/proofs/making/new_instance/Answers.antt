use Rattle.std.proofs.lemmas.Result.{IfOk-weaker}
use Rattle.vx_ready.proofs.Given.{IsRunning-given}
use Rattle.vx_java.specs.declared.operation.Operation.TheVariants.{New}
use Rattle.vx_objects.proofs.MakingRows.{made-by, missing-class}
use Rattle.vx_objects.proofs.making.new_instance.Goals as goal

pub resolved-requires-clause-classes : goal.resolved-requires-clause-classes
resolved-requires-clause-classes g c = c.requires.bounded.classes

pub resolved-requires-clause-for_program : goal.resolved-requires-clause-for_program
resolved-requires-clause-for_program g c = c.requires.is_for

pub new_of_class-requires : goal.new_of_class-requires
new_of_class-requires g c = IsRunning-given c.args.site.now (New c.args.index) _ c.args.heap.now c.args.group c.requires

pub returns-in-Some-clause-ok : goal.returns-in-Some-clause-ok
returns-in-Some-clause-ok g c =
    IfOk-weaker c.new_of_class.result _ _ (λ r' h'. made-by c.args.site.now c.args.group c.top_frame.result.now c.class_of_method-class.result c.args.index c.resolved.result c.top_frame.ensures c.class_of_method-class.ensures c.resolved.ensures c.in-Some.made _ _ c.args.heap.now c.new_of_class.new.heap _ c.in-Some.is h')
    c.new_of_class.ensures.ok

pub returns-in-None-clause-ok : goal.returns-in-None-clause-ok
returns-in-None-clause-ok g c =
    IfOk-weaker c.no_class.result _ _ (λ r' h'. missing-class c.args.site.now c.args.group c.top_frame.result.now c.class_of_method-class.result c.args.index c.resolved.result c.top_frame.ensures c.class_of_method-class.ensures c.resolved.ensures _ c.args.heap.now _ c.requires c.in-None.is (h' _))
    c.no_class.ensures
