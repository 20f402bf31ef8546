use Rattle.vx_verify.proofs.MadeLaws.{exchanged_none, exchanged_some}
use Rattle.vx_verify.specs.States.{operands_at}
use Rattle.vx_verify.proofs.rows.exchanged.Goals as goal

pub returns-in_ok-stack-in-Some : goal.returns-in_ok-stack-in-Some
returns-in_ok-stack-in-Some c =
    exchanged_some c.args.program.now c.args.store.now _ c.args.wants.now c.args.given.now (operands_at c.args.store.now c.args.operands) c.in-Some.under c.in_ok-stack-in-Some.stack
    c.in-Some.ensures.value c.in_ok-stack-in-Some.ensures

pub returns-in-None : goal.returns-in-None
returns-in-None c = exchanged_none c.args.program.now c.args.store.now c.args.store.now c.args.wants.now c.args.given.now (operands_at c.args.store.now c.args.operands) c.in-None.ensures.value
