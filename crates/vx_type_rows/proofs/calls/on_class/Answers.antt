use Rattle.std.proofs.Common.{sym, ◌∙◌}
use Rattle.std.proofs.lemmas.Result.{IfOk-weaker}
use Rattle.vx_java.specs.Named.{in_bytes}
use Rattle.vx_type_rows.proofs.CallRows.{a_clone, a_method, no_method}
use Rattle.vx_type_rows.proofs.calls.on_class.Goals as goal

pub returns-then-is_array_clone : goal.returns-then-is_array_clone
returns-then-is_array_clone c =
    IfOk-weaker c.clone_array.result _ _
    (λ row h. h ∙ a_clone c.args.program.now c.args.method.0 c.args.mode (in_bytes c.args.member.now) c.args.named.0 (sym c.is_array_clone.ensures ∙ c.if-is_array_clone.true))
    c.clone_array.ensures

pub returns-in-Some : goal.returns-in-Some
returns-in-Some c =
    IfOk-weaker c.call_resolved.result _ _
    (λ row h. h ∙ a_method c.args.program.now c.args.method.0 c.args.mode (in_bytes c.args.member.now) c.args.named.0 c.in-Some.resolved (sym c.is_array_clone.ensures ∙ c.if-is_array_clone.false) c.in-Some.ensures)
    c.call_resolved.ensures

pub returns-in-None : goal.returns-in-None
returns-in-None c =
    no_method c.args.program.now c.args.method.0 c.args.mode (in_bytes c.args.member.now) c.args.named.0 (sym c.is_array_clone.ensures ∙ c.if-is_array_clone.false) c.in-None.ensures
