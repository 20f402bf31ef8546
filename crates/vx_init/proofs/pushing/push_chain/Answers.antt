use Rattle.vx_group.proofs.CallerLaws.{Keeps-trans}
use Rattle.vx_group.specs.Group.{path_of}
use Rattle.vx_java.proofs.Walks.{numbers_step}
use Rattle.vx_init.proofs.ChainLaws.{IsChainPushed-made, IsPushing-start, IsPushing-step, no_arguments, push_fits}
use Rattle.vx_init.proofs.pushing.push_chain.Goals as goal

pub loop-place-init : goal.loop-place-init
loop-place-init g c = IsPushing-start c.args.program.now _ c.args.callers.now c.args.group c.args.chain.now c.requires.group

pub entered-requires-clause-group : goal.entered-requires-clause-group
entered-requires-clause-group g c = c.loop-place.invariant.is_group

pub entered-requires-clause-depth : goal.entered-requires-clause-depth
entered-requires-clause-depth g c = push_fits c.args.program.now _ c.args.callers.now c.loop-place.callers c.args.group c.loop-place.pushed c.args.chain.now c.loop-place.place c.loop-place.invariant c.loop-place-test.true c.requires.depth

pub entered-requires-clause-arguments : goal.entered-requires-clause-arguments
entered-requires-clause-arguments g c = no_arguments _ (path_of c.loop-place.pushed) _ c.new-none.result.items c.new-none.ensures.items

pub returns-in_err-pushed-clause-keeps : goal.returns-in_err-pushed-clause-keeps
returns-in_err-pushed-clause-keeps g c = Keeps-trans c.loop-place.invariant.keeps c.entered.ensures.keeps

pub loop-place-preserved : goal.loop-place-preserved
loop-place-preserved g c =
    let pushed = rw c.new-none.ensures.items at c.in_ok-pushed.ensures.entered in
    IsPushing-step c.args.program.now _ c.args.callers.now c.loop-place.callers c.entered.new.callers c.args.group c.loop-place.pushed c.in_ok-pushed.pushed c.args.chain.now c.loop-place.place _ c.kind_of-kind.result c.initialiser_of-method.result c.loop-place-test.true (numbers_step c.args.chain.now c.loop-place.place _ c.loop-place-test.true) c.kind_of-kind.ensures c.initialiser_of-method.ensures c.loop-place.invariant c.in_ok-pushed.ensures.keeps pushed

pub returns-clause-keeps : goal.returns-clause-keeps
returns-clause-keeps g c = c.loop-place.invariant.keeps

pub returns-clause-pushed : goal.returns-clause-pushed
returns-clause-pushed g c = IsChainPushed-made c.args.program.now _ c.args.callers.now c.loop-place.callers c.args.group c.loop-place.pushed c.args.chain.now c.loop-place.place c.loop-place-test.false c.loop-place.invariant
