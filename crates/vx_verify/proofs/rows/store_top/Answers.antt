use Rattle.std.proofs.Common.{arith, sym, ◌∙◌}
use Rattle.vx_verify.proofs.MadeLaws.{store_made, store_none, store_other}
use Rattle.vx_verify.proofs.StoreLaws.{top_there}
use Rattle.vx_verify.proofs.TakeLaws.{no_operands, operands_more}
use Rattle.vx_verify.specs.States.{locals_at, operands_at, type_at}
use Rattle.vx_verify.proofs.rows.store_top.Goals as goal

pub returns-in_default : goal.returns-in_default
returns-in_default c =
    let s = c.args.store.now in
    store_none s s c.args.frame c.args.sort c.args.place (locals_at s c.args.frame c.args.state.locals) (operands_at s c.args.state.operands) (no_operands s c.args.state.operands c.in_default.ensures.none)

pub type_at-requires : goal.type_at-requires
type_at-requires c = top_there c.args.store.now c.args.state.operands c.in-Some.top c.in-Some.operands c.requires.store c.requires.state.operands c.in-Some.ensures.some

pub returns-then-not-is_of : goal.returns-then-not-is_of
returns-then-not-is_of c =
    let s = c.args.store.now in
    store_other s s c.args.frame c.args.sort c.args.place (locals_at s c.args.frame c.args.state.locals) (operands_at s c.args.state.operands) (operands_at s c.in-Some.operands) (type_at s c.in-Some.top)
    (operands_more s c.args.state.operands c.in-Some.top c.in-Some.operands c.in-Some.ensures.some) (rw c.type_at.ensures at (sym c.is_of.ensures ∙ c.if-not-is_of.true))

pub stored-requires-clause-item : goal.stored-requires-clause-item
stored-requires-clause-item c = top_there c.args.store.now c.args.state.operands c.in-Some.top c.in-Some.operands c.requires.store c.requires.state.operands c.in-Some.ensures.some

pub returns : goal.returns
returns c =
    let s = c.args.store.now in
    let within = c.requires.state.operands in
    let falls = c.in-Some.ensures.falls in
    store_made s _ c.args.frame c.args.sort c.args.place c.in_ok-locals.locals c.args.state.operands c.in-Some.operands (locals_at s c.args.frame c.args.state.locals) (type_at s c.in-Some.top)
    c.requires.store (omega (arith, within, falls)) (operands_more s c.args.state.operands c.in-Some.top c.in-Some.operands c.in-Some.ensures.some)
    (rw c.type_at.ensures at (sym c.is_of.ensures ∙ c.if-not-is_of.false)) c.in_ok-locals.ensures
