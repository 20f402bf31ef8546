use Rattle.std.proofs.Common.{arith, refl}
use Rattle.vx_verify.proofs.StartLaws.{few_levels, filled_end, filled_start, filled_step, number_inside}
use Rattle.vx_verify.proofs.StoreLaws.{number_kept}
use Rattle.vx_verify.proofs.start.filled.Goals as goal

pub loop-number-init : goal.loop-number-init
loop-number-init c = filled_start c.args.store.now _ c.args.frame c.args.numbers.now c.in_ok-tree.tree c.requires.store refl refl c.requires.locals c.in_ok-tree.ensures.ok

pub with_local-requires-clause-store : goal.with_local-requires-clause-store
with_local-requires-clause-store c = c.loop-number.invariant.has.later.store

pub with_local-requires-clause-row : goal.with_local-requires-clause-row
with_local-requires-clause-row c = c.loop-number.invariant.has.row

pub with_local-requires-clause-item : goal.with_local-requires-clause-item
with_local-requires-clause-item c =
    number_kept c.args.store.now c.loop-number.store _ c.loop-number.invariant.has.later (number_inside c.args.store.now c.args.numbers.now c.loop-number.number-index c.requires.numbers c.loop-number-test.true)

pub loop-number-preserved : goal.loop-number-preserved
loop-number-preserved c =
    rw c.saturating_add-place.ensures
    (filled_step c.args.store.now c.loop-number.store c.with_local.new.store c.args.frame c.args.numbers.now c.loop-number.number-index c.loop-number.place c.loop-number.tree _ c.in_ok-tree-2.tree
    (few_levels c.args.frame.locals c.args.frame.levels c.requires.few c.requires.locals) c.requires.numbers c.loop-number-test.true refl c.loop-number.invariant c.in_ok-tree-2.ensures.ok)

pub returns : goal.returns
returns c =
    filled_end c.args.store.now c.loop-number.store c.args.frame c.args.numbers.now c.loop-number.number-index c.loop-number.place c.loop-number.tree c.loop-number.invariant (omega arith)
