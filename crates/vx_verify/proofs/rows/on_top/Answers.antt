use Rattle.std.proofs.Common.{arith}
use Rattle.vx_verify.proofs.StoreLaws.{number_kept}
use Rattle.vx_verify.proofs.WordLaws.{pushed_end, pushed_start, pushed_step, top_inside}
use Rattle.vx_verify.proofs.rows.on_top.Goals as goal

pub loop-left-init : goal.loop-left-init
loop-left-init c = pushed_start c.args.store.now c.args.tops.now c.args.under c.requires.store c.requires.under

pub pushed-requires-clause-store : goal.pushed-requires-clause-store
pushed-requires-clause-store c = c.loop-left.invariant.has.later.store

pub pushed-requires-clause-top : goal.pushed-requires-clause-top
pushed-requires-clause-top c =
    number_kept c.args.store.now c.loop-left.store _ c.loop-left.invariant.has.later (top_inside c.args.store.now c.args.tops.now c.loop-left.left c.requires.tops c.loop-left-test.true c.loop-left.invariant.few)

pub pushed-requires-clause-under : goal.pushed-requires-clause-under
pushed-requires-clause-under c = c.loop-left.invariant.has.within

pub loop-left-preserved : goal.loop-left-preserved
loop-left-preserved c =
    pushed_step c.args.store.now c.loop-left.store c.pushed.new.self c.args.tops.now c.args.under c.loop-left.left c.loop-left.operands c.in_ok-operands.operands c.loop-left.invariant c.requires.tops
    c.loop-left-test.true c.in_ok-operands.ensures.ok

pub returns : goal.returns
returns c = pushed_end c.args.store.now c.loop-left.store c.args.tops.now c.args.under c.loop-left.left c.loop-left.operands c.loop-left.invariant (omega arith)
