use Rattle.std.proofs.Common.{arith, sym, ◌∙◌}
use Rattle.std.proofs.lemmas.Result.{IfOk-weaker}
use Rattle.vx_verify.proofs.MadeLaws.{loads_behind, loads_none, loads_other}
use Rattle.vx_verify.proofs.StoreLaws.{top_there}
use Rattle.vx_verify.proofs.TakeLaws.{no_operands, operands_more}
use Rattle.vx_verify.specs.States.{operands_at, type_at}
use Rattle.vx_verify.proofs.rows.load_reference.Goals as goal

pub returns-in_default : goal.returns-in_default
returns-in_default c = loads_none c.args.store.now c.args.store.now (operands_at c.args.store.now c.args.operands) (no_operands c.args.store.now c.args.operands c.in_default.ensures.none)

pub type_at-requires : goal.type_at-requires
type_at-requires c = top_there c.args.store.now c.args.operands c.in-Some.index c.in-Some.under c.requires.store c.requires.operands c.in-Some.ensures.some

pub returns-then-not-is_of : goal.returns-then-not-is_of
returns-then-not-is_of c =
    let s = c.args.store.now in
    loads_other s s (operands_at s c.args.operands) (operands_at s c.in-Some.under) (type_at s c.in-Some.index) (operands_more s c.args.operands c.in-Some.index c.in-Some.under c.in-Some.ensures.some)
    (rw c.type_at.ensures at (sym c.is_of.ensures ∙ c.if-not-is_of.true))

pub load_component-requires-clause-operands : goal.load_component-requires-clause-operands
load_component-requires-clause-operands c = let falls = c.in-Some.ensures.falls in let within = c.requires.operands in omega (arith, falls, within)

pub returns : goal.returns
returns c =
    let s = c.args.store.now in
    IfOk-weaker c.load_component.result _ _
    (λ made h. loads_behind s _ (operands_at s c.args.operands) (operands_at s c.in-Some.under) (type_at s c.in-Some.index) made
    (operands_more s c.args.operands c.in-Some.index c.in-Some.under c.in-Some.ensures.some) (rw c.type_at.ensures at (sym c.is_of.ensures ∙ c.if-not-is_of.false)) h)
    c.load_component.ensures
