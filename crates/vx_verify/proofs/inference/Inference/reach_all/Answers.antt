use Rattle.std.proofs.Common.{arith}
use Rattle.vx_verify.proofs.Steps.{reaching_end, reaching_forced, reaching_start, reaching_step}
use Rattle.vx_verify.proofs.StoreLaws.{stands_kept}
use Rattle.vx_verify.proofs.inference.Inference.reach_all.Goals as goal

pub loop-target-init : goal.loop-target-init
loop-target-init c = reaching_start c.args.subject.now c.args.self.now c.args.targets.now c.args.state c.requires.subject c.requires.inference

pub reach-requires-clause-inference : goal.reach-requires-clause-inference
reach-requires-clause-inference c = c.loop-target.invariant.goes.inference

pub reach-requires-clause-stands : goal.reach-requires-clause-stands
reach-requires-clause-stands c =
    stands_kept c.args.self.now.store c.loop-target.self.store c.args.subject.now.frame c.args.state c.loop-target.invariant.goes.later c.requires.stands

pub reach-requires-clause-forced : goal.reach-requires-clause-forced
reach-requires-clause-forced c =
    reaching_forced c.args.subject.now c.args.self.now c.loop-target.self c.args.targets.now c.loop-target.target-index c.args.state c.requires.inference c.loop-target.invariant.goes c.requires.stands
    c.requires.forced c.loop-target-test.true

pub returns-then-not-reached : goal.returns-then-not-reached
returns-then-not-reached c = rw c.if-not-reached.true at c.in_ok-reached.ensures

pub loop-target-preserved : goal.loop-target-preserved
loop-target-preserved c =
    reaching_step c.args.subject.now c.args.self.now c.loop-target.self c.reach.new.self c.args.targets.now c.loop-target.target-index c.args.state c.requires.subject c.requires.inference
    c.requires.stands c.loop-target-test.true c.loop-target.invariant (rw c.if-not-reached.false at c.in_ok-reached.ensures)

pub returns : goal.returns
returns c =
    reaching_end c.args.subject.now c.args.self.now c.loop-target.self c.args.targets.now c.loop-target.target-index c.args.state c.loop-target.invariant (omega arith)
