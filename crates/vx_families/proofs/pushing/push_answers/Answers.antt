use Rattle.std.proofs.Common.{◌≤◌, arith, length}
use Rattle.std.proofs.lemmas.Result.{IfOk-weaker}
use Rattle.vx_families.proofs.Pushes.{full-gives}
use Rattle.vx_families.proofs.pushing.push_answers.Goals as goal

pub returns-then-len-from-clause-gives : goal.returns-then-len-from-clause-gives
returns-then-len-from-clause-gives g c =
    IfOk-weaker c.illegal.result _ _ (λ r' h'.
    λ heap held.
    let full : c.args.site.now.code.now.max_stack ≤ length c.args.group.top.stack.conds = rw (← c.from.ensures, ← c.top_frame.ensures, ← c.len.ensures) (omega (arith, c.if-len-from.true)) in
    full-gives c.args.site.now _ c.args.group c.args.answers.now _ full c.requires.pushes (h' _) heap)
    c.illegal.ensures
