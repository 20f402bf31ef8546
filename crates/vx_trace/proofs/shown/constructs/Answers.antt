use Rattle.std.proofs.Common.{◌≡◌, ap, codes, sym, true, ◌∙◌}
use Rattle.std.specs.Prelude.{◌&&◌}
use Rattle.std.specs.Str.{bytes_eq}
use Rattle.vx_link.specs.Assignability.{assignable}
use Rattle.vx_link.specs.Parts.{method_at}
use Rattle.vx_value.specs.declared.ids.ClassId.{ClassId}
use Rattle.vx_trace.proofs.shown.constructs.Goals as goal

pub returns-then-is_constructor : goal.returns-then-is_constructor
returns-then-is_constructor c =
    let p = c.args.program.now in
    let m = method_at p c.args.frame.method.0 in
    let test : bytes_eq m.name (codes "<init>") ≡ true = sym c.is_constructor.ensures ∙ c.if-is_constructor.true in
    c.assignable.ensures
    ∙ ap (λ (above : ClassId). assignable p c.args.class.0 above.0) c.class_of_method.ensures
    ∙ sym (ap (λ b. b && assignable p c.args.class.0 m.class.0) test)
