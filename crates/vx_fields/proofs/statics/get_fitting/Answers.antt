use Rattle.std.proofs.Common.{◌≤◌, arith, length}
use Rattle.std.proofs.lemmas.Result.{IfOk-weaker}
use Rattle.vx_fields.proofs.Gets.{full-attempts}
use Rattle.vx_fields.proofs.statics.get_fitting.Goals as goal

pub returns-then-len-from-clause-ok : goal.returns-then-len-from-clause-ok
returns-then-len-from-clause-ok g c =
    IfOk-weaker c.illegal.result _ _ (λ r' h'.
    λ named.
    let full : c.args.site.now.code.now.max_stack ≤ length c.args.group.top.stack.conds = rw (← c.from.ensures, ← c.top_frame.ensures, ← c.len.ensures) (omega (arith, c.if-len-from.true)) in
    full-attempts c.args.site.now c.args.heap.now c.args.group named c.args.field.0 c.args.field_type _ c.requires.running c.requires.sort full (h' _))
    c.illegal.ensures

pub get_found-requires-clause-few : goal.get_found-requires-clause-few
get_found-requires-clause-few g c = rw (← c.from.ensures, ← c.top_frame.ensures, ← c.len.ensures) (omega (arith, c.if-len-from.false))
