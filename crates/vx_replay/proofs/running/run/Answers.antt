use Rattle.std.proofs.Common.{◌-◌, arith}
use Rattle.vx_plain.specs.Views.{state_of}
use Rattle.vx_replay.proofs.Steps.{begins, goes_on, is_over, one_more, unfinished}
use Rattle.vx_replay.proofs.running.run.Goals as goal

pub loop-made-init : goal.loop-made-init
loop-made-init c = begins c.args.program.now c.args.limit (state_of c.args.state.now) c.args.pieces.now.items c.requires.none

pub put-requires : goal.put-requires
put-requires c = c.loop-made.invariant.longest

pub loop-made-preserved : goal.loop-made-preserved
loop-made-preserved c =
    one_more c.args.program.now c.args.limit (state_of c.args.state.now) (state_of c.loop-made.state) (state_of c.attempt.new.state) c.loop-made.pieces.items c.put.new.pieces.items c.loop-made.made c.in_ok-attempted.attempted
    c.loop-made.invariant c.in_ok-attempted.ensures c.in_ok-put.ensures.longest c.in_ok-put.ensures.bytes (goes_on c.in_ok-attempted.attempted.next c.in_default.not-Ends)

pub returns-in-Ends : goal.returns-in-Ends
returns-in-Ends c =
    is_over c.args.program.now c.args.limit (state_of c.args.state.now) (state_of c.loop-made.state) (state_of c.attempt.new.state) c.loop-made.pieces.items c.put.new.pieces.items c.loop-made.made c.in_ok-attempted.attempted
    c.loop-made.invariant c.in_ok-attempted.ensures c.in_ok-put.ensures.longest c.in_ok-put.ensures.bytes (c.args.limit - c.loop-made.made - 1) (omega (arith, c.loop-made-test.true)) c.in-Ends.end c.in-Ends.is

pub returns : goal.returns
returns c = unfinished c.args.program.now c.args.limit (state_of c.args.state.now) (state_of c.loop-made.state) c.loop-made.pieces.items c.loop-made.made (omega arith) c.loop-made.invariant
