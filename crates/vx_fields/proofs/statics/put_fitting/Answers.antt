use Rattle.std.proofs.Common.{◌≤◌, arith, length}
use Rattle.std.proofs.lemmas.Result.{IfOk-weaker}
use Rattle.vx_fields.proofs.Puts.{empty-attempts}
use Rattle.vx_fields.proofs.statics.put_fitting.Goals as goal

pub returns-then-len-eq0-clause-ok : goal.returns-then-len-eq0-clause-ok
returns-then-len-eq0-clause-ok g c =
    IfOk-weaker c.illegal.result _ _ (λ r' h'.
    λ named.
    let none : length c.args.group.top.stack.conds ≤ 0 = rw (← c.top_frame.ensures, ← c.len.ensures) (omega arith) in
    empty-attempts c.args.site.now c.args.heap.now c.args.group named c.args.field.0 c.args.field_type _ c.requires.running none (h' _))
    c.illegal.ensures

pub put_found-requires-clause-operand : goal.put_found-requires-clause-operand
put_found-requires-clause-operand g c = rw (← c.top_frame.ensures, ← c.len.ensures) (omega arith)
