use Rattle.std.proofs.lemmas.Result.{IfOk-weaker}
use Rattle.vx_java.specs.Fields.{get_from}
use Rattle.vx_java.specs.Named.{in_bytes}
use Rattle.vx_java.specs.declared.operation.Operation.TheVariants.{GetField}
use Rattle.vx_space.proofs.Spaces.{Extends-refl}
use Rattle.vx_fields.proofs.Families.{found-by, missing-by, names_at, not_found, reference_at}
use Rattle.vx_ready.proofs.Given.{IsRunning-given}
use Rattle.vx_objects.proofs.fields.get_field.Goals as goal

pub field_named-requires-clause-bounded : goal.field_named-requires-clause-bounded
field_named-requires-clause-bounded g c = c.requires.bounded

pub field_named-requires-clause-for_program : goal.field_named-requires-clause-for_program
field_named-requires-clause-for_program g c = c.requires.is_for

pub get_found-requires : goal.get_found-requires
get_found-requires g c = (GetField c.args.index, c.requires)

pub returns-in-Found-clause-ok : goal.returns-in-Found-clause-ok
returns-in-Found-clause-ok g c =
    IfOk-weaker c.get_found.result _ _ (λ r' h'. found-by c.args.site.now c.args.group c.args.index c.field_named.result c.in-Found.named c.in-Found.field c.in-Found.field_type (reference_at c.args.site.now c.args.group c.top_frame.result.now c.class_of_method-class.result c.args.index c.field_named.result c.top_frame.ensures c.class_of_method-class.ensures c.field_named.ensures) c.in-Found.is (λ h x. get_from h x h.state.top.operands) _ _ c.args.heap.now c.get_found.new.heap _ h')
    c.get_found.ensures.ok

pub unresolved-requires-clause-classes : goal.unresolved-requires-clause-classes
unresolved-requires-clause-classes g c = c.requires.bounded.classes

pub unresolved-requires-clause-unresolved : goal.unresolved-requires-clause-unresolved
unresolved-requires-clause-unresolved g c = not_found c.field_named.result (λ named field type e. c.in_default.not-Found named field type e)

pub returns-in_default : goal.returns-in_default
returns-in_default g c = record {
  extends = Extends-refl _;
  ok = IfOk-weaker c.unresolved.result _ _ (λ r' h'. missing-by c.args.site.now _ c.args.heap.now c.args.group c.args.index c.field_named.result (in_bytes c.named_member-named.result) _ (IsRunning-given c.args.site.now (GetField c.args.index) _ c.args.heap.now c.args.group c.requires) (reference_at c.args.site.now c.args.group c.top_frame.result.now c.class_of_method-class.result c.args.index c.field_named.result c.top_frame.ensures c.class_of_method-class.ensures c.field_named.ensures) (not_found c.field_named.result (λ named field type e. c.in_default.not-Found named field type e)) (names_at c.args.site.now c.args.group c.top_frame.result.now c.class_of_method-class.result c.args.index (in_bytes c.named_member-named.result) c.top_frame.ensures c.class_of_method-class.ensures c.named_member-named.ensures) (λ rest. h' _ rest) (λ h x. get_from h x h.state.top.operands)) c.unresolved.ensures;
}
