use Rattle.std.proofs.lemmas.Result.{IfOk-weaker}
use Rattle.vx_verify.proofs.StartLaws.{caught_alone}
use Rattle.vx_verify.proofs.start.caught_by.Goals as goal

pub returns : goal.returns
returns c =
    IfOk-weaker c.pushed_type.result _ _
    (λ stack h. caught_alone c.args.program.now c.args.method.0 c.args.row c.args.store.now _ stack c.in_ok-item.item c.caught_name-name.result.now c.in_ok-item.ensures c.caught_name-name.ensures.value h)
    c.pushed_type.ensures
