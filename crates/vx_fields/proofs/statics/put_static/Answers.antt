use Rattle.std.proofs.lemmas.Result.{IfOk-weaker}
use Rattle.vx_java.specs.Fields.{put_value}
use Rattle.vx_java.specs.Named.{in_bytes}
use Rattle.vx_java.specs.declared.operation.Operation.TheVariants.{PutStatic}
use Rattle.vx_space.proofs.Spaces.{Extends-refl}
use Rattle.vx_fields.proofs.Families.{found_static, missing-by, names_at, not_found, put-by, reference_at}
use Rattle.vx_ready.proofs.Given.{IsRunning-given}
use Rattle.vx_fields.proofs.statics.put_static.Goals as goal

pub field_named-requires-clause-bounded : goal.field_named-requires-clause-bounded
field_named-requires-clause-bounded g c = c.requires.bounded

pub field_named-requires-clause-for_program : goal.field_named-requires-clause-for_program
field_named-requires-clause-for_program g c = c.requires.is_for

pub put_fitting-requires-clause-running : goal.put_fitting-requires-clause-running
put_fitting-requires-clause-running g c = IsRunning-given c.args.site.now (PutStatic c.args.index) _ c.args.heap.now c.args.group c.requires

pub put_fitting-requires-clause-field : goal.put_fitting-requires-clause-field
put_fitting-requires-clause-field g c = found_static c.args.site.now c.args.group c.args.index c.field_named.result c.in-Found.named c.in-Found.field c.in-Found.field_type (reference_at c.args.site.now c.args.group c.top_frame.result.now c.class_of_method-class.result c.args.index c.field_named.result c.top_frame.ensures c.class_of_method-class.ensures c.field_named.ensures) c.in-Found.is

pub returns-in-Found-clause-ok : goal.returns-in-Found-clause-ok
returns-in-Found-clause-ok g c =
    IfOk-weaker c.put_fitting.result _ _ (λ r' h'. put-by c.args.site.now c.args.group c.args.index c.field_named.result c.in-Found.named c.in-Found.field c.in-Found.field_type (reference_at c.args.site.now c.args.group c.top_frame.result.now c.class_of_method-class.result c.args.index c.field_named.result c.top_frame.ensures c.class_of_method-class.ensures c.field_named.ensures) c.in-Found.is _ _ c.args.heap.now c.put_fitting.new.heap _ (h' c.in-Found.named.0))
    c.put_fitting.ensures.ok

pub unresolved-requires-clause-classes : goal.unresolved-requires-clause-classes
unresolved-requires-clause-classes g c = c.requires.bounded.classes

pub unresolved-requires-clause-unresolved : goal.unresolved-requires-clause-unresolved
unresolved-requires-clause-unresolved g c = not_found c.field_named.result (λ named field type e. c.in_default.not-Found named field type e)

pub returns-in_default : goal.returns-in_default
returns-in_default g c = record {
  extends = Extends-refl _;
  ok = IfOk-weaker c.unresolved.result _ _ (λ r' h'. missing-by c.args.site.now _ c.args.heap.now c.args.group c.args.index c.field_named.result (in_bytes c.named_member-named.result) _ (IsRunning-given c.args.site.now (PutStatic c.args.index) _ c.args.heap.now c.args.group c.requires) (reference_at c.args.site.now c.args.group c.top_frame.result.now c.class_of_method-class.result c.args.index c.field_named.result c.top_frame.ensures c.class_of_method-class.ensures c.field_named.ensures) (not_found c.field_named.result (λ named field type e. c.in_default.not-Found named field type e)) (names_at c.args.site.now c.args.group c.top_frame.result.now c.class_of_method-class.result c.args.index (in_bytes c.named_member-named.result) c.top_frame.ensures c.class_of_method-class.ensures c.named_member-named.ensures) (λ rest. h' _ rest) (λ h x. put_value h x h.state.top.operands)) c.unresolved.ensures;
}
