use Rattle.std.proofs.lemmas.Result.{IfOk-weaker}
use Rattle.vx_verify.proofs.MadeLaws.{reordered_by, stack_itself}
use Rattle.vx_verify.specs.States.{operands_at, types_at}
use Rattle.vx_verify.specs.declared.rows.Kind.TheVariants.{Copies, Drops, Exchanges}
use Rattle.vx_verify.proofs.rows.reordered.Goals as goal

pub returns-in-Drops : goal.returns-in-Drops
returns-in-Drops c =
    let s = c.args.store.now in
    reordered_by s s c.args.form Drops c.args.rest (types_at s c.args.tops.now) (types_at s c.args.under.now) (operands_at s c.args.rest) c.in-Drops.ensures
    (stack_itself s c.args.rest c.requires.store c.requires.rest)

pub returns-in-Exchanges : goal.returns-in-Exchanges
returns-in-Exchanges c =
    let s = c.args.store.now in
    IfOk-weaker c.swapped.result _ _
    (λ stack h. reordered_by s _ c.args.form Exchanges stack (types_at s c.args.tops.now) (types_at s c.args.under.now) (operands_at s c.args.rest) c.in-Exchanges.ensures h) c.swapped.ensures

pub returns-in-Copies : goal.returns-in-Copies
returns-in-Copies c =
    let s = c.args.store.now in
    IfOk-weaker c.copied.result _ _
    (λ stack h. reordered_by s _ c.args.form Copies stack (types_at s c.args.tops.now) (types_at s c.args.under.now) (operands_at s c.args.rest) c.in-Copies.ensures h) c.copied.ensures
