use Rattle.std.proofs.Common.{arith, refl}
use Rattle.vx_flow.proofs.Flows.{fit_all, fit_not, fit_step}
use Rattle.vx_flow.proofs.flowing.fit_in.Goals as goal

pub loop-item-init : goal.loop-item-init
loop-item-init c = refl

pub returns-then-width-left : goal.returns-then-width-left
returns-then-width-left c =
    fit_not c.args.operands.now c.args.words c.loop-item.item-index c.loop-item.left c.width-width.result c.item-item.result c.loop-item.invariant c.loop-item-test.true c.item-item.is c.width-width.ensures
    c.if-width-left.true

pub loop-item-preserved : goal.loop-item-preserved
loop-item-preserved c =
    fit_step c.args.operands.now c.args.words c.loop-item.item-index c.loop-item.left c.width-width.result c.item-item.result c.loop-item.invariant c.loop-item-test.true c.item-item.is c.width-width.ensures
    c.if-width-left.false

pub returns : goal.returns
returns c = fit_all c.args.operands.now c.args.words c.loop-item.item-index c.loop-item.left c.loop-item.invariant (omega arith)
