use Rattle.std.proofs.Common.{arith}
use Rattle.vx_verify.proofs.QuietLaws.{quiet_none}
use Rattle.vx_verify.proofs.Sweeps.{sweeping_start, sweeping_step, swept}
use Rattle.vx_verify.proofs.inference.Inference.sweep.Goals as goal

pub loop-at-init : goal.loop-at-init
loop-at-init c = record {
  sweeping = sweeping_start c.args.subject.now c.args.self.now c.requires.inference;
  quiet = quiet_none c.args.subject.now c.args.self.now _ c.none_quiet-quiet.ensures;
  rows = c.requires.rows;
}

pub step-requires-clause-inference : goal.step-requires-clause-inference
step-requires-clause-inference c = c.loop-at.invariant.sweeping.inference

pub step-requires-clause-rows : goal.step-requires-clause-rows
step-requires-clause-rows c = c.loop-at.invariant.rows

pub step-requires-clause-position : goal.step-requires-clause-position
step-requires-clause-position c = c.loop-at.invariant.sweeping.inference.marks c.in-Some.at c.in-Some.ensures.1

pub returns-then-not-looked-clause-swept : goal.returns-then-not-looked-clause-swept
returns-then-not-looked-clause-swept c = rw c.if-not-looked.true at c.in_ok-looked.ensures.looked

pub overflow_add-from : goal.overflow_add-from
overflow_add-from c =
    let within = c.loop-at.invariant.sweeping.inference.marks c.in-Some.at c.in-Some.ensures.1 in
    let short = c.requires.subject.short in
    omega (arith, within, short)

pub loop-at-smaller : goal.loop-at-smaller
loop-at-smaller c =
    let within = c.loop-at.invariant.sweeping.inference.marks c.in-Some.at c.in-Some.ensures.1 in
    omega (arith, within, c.in-Some.ensures.0)

pub loop-at-preserved : goal.loop-at-preserved
loop-at-preserved c =
    let g = rw c.if-not-looked.false at c.in_ok-looked.ensures.looked in
    record {
      sweeping = sweeping_step c.args.subject.now c.loop-at.self c.step.new.self c.in-Some.at g.0
          (c.loop-at.invariant.sweeping.inference.marks c.in-Some.at c.in-Some.ensures.1);
      quiet = g.1;
      rows = c.in_ok-looked.ensures.rows;
    }

pub returns-clause-swept : goal.returns-clause-swept
returns-clause-swept c = swept c.args.subject.now c.loop-at.self c.loop-at.from c.loop-at.found c.loop-at.invariant.sweeping c.in_default.ensures
