use Rattle.std.proofs.Common.{sym, ◌∙◌, ◌≡◌}
use Rattle.vx_types.specs.declared.types.VerType.TheVariants.{Top}
use Rattle.vx_list.specs.Places.{item_or}
use Rattle.vx_verify.proofs.MadeLaws.{load_made, load_other}
use Rattle.vx_verify.specs.States.{locals_at, type_at}
use Rattle.vx_verify.proofs.rows.load.Goals as goal

pub returns-then-not-is_of : goal.returns-then-not-is_of
returns-then-not-is_of c =
    let s = c.args.store.now in
    let e : type_at s c.local-top.result ≡ item_or (locals_at s c.args.frame c.args.state.locals) c.args.place Top = rw c.from.ensures at c.local-top.ensures.value in
    rw (← e) (load_other s s c.args.frame c.args.sort (type_at s c.local-top.result) c.args.state (rw c.type_at.ensures at (sym c.is_of.ensures ∙ c.if-not-is_of.true)))

pub returns : goal.returns
returns c =
    let s = c.args.store.now in
    let e : type_at s c.local-top.result ≡ item_or (locals_at s c.args.frame c.args.state.locals) c.args.place Top = rw c.from.ensures at c.local-top.ensures.value in
    rw (← e)
    (load_made s _ c.args.frame c.args.sort (type_at s c.local-top.result) c.args.state c.in_ok-operands.operands c.requires.store c.requires.state
    (rw c.type_at.ensures at (sym c.is_of.ensures ∙ c.if-not-is_of.false)) c.in_ok-operands.ensures.ok)
