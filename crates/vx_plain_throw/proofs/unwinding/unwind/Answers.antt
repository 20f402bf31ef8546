use Rattle.std.proofs.Common.{arith, refl, ◌∙◌}
use Rattle.vx_plain.specs.Views.{state_of}
use Rattle.vx_plain_throw.proofs.Laws.{handled}
use Rattle.vx_plain_throw.proofs.unwinding.unwind.Goals as goal

pub loop-passed-init : goal.loop-passed-init
loop-passed-init c = record { same = refl; handled = c.requires.handled; left = omega (arith, c.depth-depth.ensures) }

pub returns-in-Some : goal.returns-in-Some
returns-in-Some c =
    handled c.handle.result c.args.program.now _ (state_of c.loop-passed.state) (state_of c.handle.new.state) c.loop-passed.thrown c.in-Some.handler c.loop-passed.invariant.same c.in-Some.ensures c.handle.ensures

pub pass_top-requires-clause-handled : goal.pass_top-requires-clause-handled
pass_top-requires-clause-handled c = c.loop-passed.invariant.handled

pub loop-passed-preserved : goal.loop-passed-preserved
loop-passed-preserved c =
    let passed = c.in_ok-thrown-in-None.ensures in
    record {
      same = c.loop-passed.invariant.same ∙ passed.same;
      handled = passed.handled;
      left = omega (arith, c.loop-passed.invariant.left, passed.fewer);
    }

pub unreachable-requires : goal.unreachable-requires
unreachable-requires c = omega (arith, c.loop-passed.invariant.left, c.loop-passed-test.false)
