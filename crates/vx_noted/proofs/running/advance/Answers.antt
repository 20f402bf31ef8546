use Rattle.std.proofs.Common.{◌-◌, arith}
use Rattle.vx_noted.proofs.Underway.{come, comes, goes_on, is_over_before, one_more}
use Rattle.vx_plain.specs.Views.{state_of}
use Rattle.vx_noted.proofs.running.advance.Goals as goal

pub loop-made-init : goal.loop-made-init
loop-made-init c = comes c.args.program.now c.args.count (state_of c.args.state.now)

pub loop-made-preserved : goal.loop-made-preserved
loop-made-preserved c =
    one_more c.args.program.now c.args.count (state_of c.args.state.now) (state_of c.loop-made.state) (state_of c.attempt.new.state) c.loop-made.made c.in_ok-attempted.attempted
    c.loop-made.invariant c.in_ok-attempted.ensures (goes_on c.in_ok-attempted.attempted.next c.in_default.not-Ends)

pub returns-in-Ends : goal.returns-in-Ends
returns-in-Ends c =
    is_over_before c.args.program.now c.args.count (state_of c.args.state.now) (state_of c.loop-made.state) (state_of c.attempt.new.state) c.loop-made.made c.in_ok-attempted.attempted
    c.loop-made.invariant c.in_ok-attempted.ensures (c.args.count - c.loop-made.made - 1) (omega (arith, c.loop-made-test.true)) _ c.in-Ends.is (state_of c.attempt.new.state)

pub returns : goal.returns
returns c = come c.args.program.now c.args.count (state_of c.args.state.now) (state_of c.loop-made.state) c.loop-made.made (omega arith) c.loop-made.invariant
