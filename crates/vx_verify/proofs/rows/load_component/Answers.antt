use Rattle.std.proofs.Common.{ap, arith, sym, ◌∙◌}
use Rattle.vx_types.specs.Flow.{component}
use Rattle.vx_verify.proofs.MadeLaws.{no_component, some_component, unknown_component}
use Rattle.vx_verify.proofs.StoreLaws.{top_there}
use Rattle.vx_verify.proofs.TakeLaws.{no_operands, operands_more}
use Rattle.vx_verify.specs.States.{operands_at, type_at}
use Rattle.vx_verify.proofs.rows.load_component.Goals as goal

pub returns-in_default : goal.returns-in_default
returns-in_default c = no_component c.args.store.now c.args.store.now (operands_at c.args.store.now c.args.operands) (no_operands c.args.store.now c.args.operands c.in_default.ensures.none)

pub type_at-requires : goal.type_at-requires
type_at-requires c = top_there c.args.store.now c.args.operands c.in-Some.array c.in-Some.rest c.requires.store c.requires.operands c.in-Some.ensures.some

pub pushed_type-requires-clause-under : goal.pushed_type-requires-clause-under
pushed_type-requires-clause-under c = let falls = c.in-Some.ensures.falls in let within = c.requires.operands in omega (arith, falls, within)

pub returns-in_ok-stack-in-Some-found : goal.returns-in_ok-stack-in-Some-found
returns-in_ok-stack-in-Some-found c =
    let s = c.args.store.now in
    some_component s _ (operands_at s c.args.operands) c.in-Some.rest c.in_ok-stack-in-Some-found.stack (type_at s c.in-Some.array) c.in-Some-found.item
    (operands_more s c.args.operands c.in-Some.array c.in-Some.rest c.in-Some.ensures.some) (sym c.in-Some-found.is ∙ c.in_ok-found.ensures ∙ ap component c.type_at.ensures) c.in_ok-stack-in-Some-found.ensures

pub returns-in-None : goal.returns-in-None
returns-in-None c =
    let s = c.args.store.now in
    unknown_component s s (operands_at s c.args.operands) (operands_at s c.in-Some.rest) (type_at s c.in-Some.array)
    (operands_more s c.args.operands c.in-Some.array c.in-Some.rest c.in-Some.ensures.some) (sym c.in-None.is ∙ c.in_ok-found.ensures ∙ ap component c.type_at.ensures)
