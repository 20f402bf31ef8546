use Rattle.std.proofs.Common.{arith, refl}
use Rattle.std.proofs.lemmas.Result.{IfOk-weaker}
use Rattle.vx_verify.proofs.LocalLaws.{locals_same, locals_set}
use Rattle.vx_verify.specs.States.{type_at}
use Rattle.vx_verify.proofs.rows.with_local.Goals as goal

pub returns-then-place-frame-clause-ok : goal.returns-then-place-frame-clause-ok
returns-then-place-frame-clause-ok c = locals_same c.args.store.now c.args.frame c.args.locals c.args.place (type_at c.args.store.now c.args.item) c.requires.store c.requires.row (omega arith)

pub returns-clause-ok : goal.returns-clause-ok
returns-clause-ok c =
    IfOk-weaker c.with_leaf.result _ _
    (λ made h. locals_set c.args.store.now _ c.args.frame c.args.locals c.args.place c.args.item made c.requires.store refl refl c.requires.row c.requires.item (omega arith) h)
    c.with_leaf.ensures.ok
