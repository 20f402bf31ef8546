use Rattle.std.proofs.Common.{◌-◌, arith, ◌∙◌}
use Rattle.vx_noted.proofs.Underway.{ended, found, not_found, searched, searches}
use Rattle.vx_plain.specs.Views.{state_of}
use Rattle.vx_noted.proofs.running.first_noted.Goals as goal

pub loop-made-init : goal.loop-made-init
loop-made-init c = searches c.args.program.now c.args.limit (state_of c.args.begun.state) c.args.object

pub returns-in-Frames : goal.returns-in-Frames
returns-in-Frames c =
    found c.args.program.now c.args.limit (state_of c.args.begun.state) (state_of c.loop-made.state) (state_of c.note.new.state) c.args.object c.loop-made.made c.loop-made.invariant
    (c.args.limit - c.loop-made.made - 1) (omega (arith, c.loop-made-test.true)) c.in-Frames.frames.items (rw c.in-Frames.is at c.in_ok-noting.ensures)

pub returns-in-Ends : goal.returns-in-Ends
returns-in-Ends c =
    let h = rw c.in-Ends.is at c.in_ok-noting.ensures in
    c.new.ensures.items
    ∙ ended c.args.program.now c.args.limit (state_of c.args.begun.state) (state_of c.loop-made.state) (state_of c.note.new.state) c.args.object c.loop-made.made c.loop-made.invariant
    (c.args.limit - c.loop-made.made - 1) (omega (arith, c.loop-made-test.true)) h.0 h.1

pub loop-made-preserved : goal.loop-made-preserved
loop-made-preserved c =
    let h = rw c.in-Goes.is at c.in_ok-noting.ensures in
    searched c.args.program.now c.args.limit (state_of c.args.begun.state) (state_of c.loop-made.state) (state_of c.note.new.state) c.args.object c.loop-made.made c.loop-made.invariant h.0 h.1

pub returns : goal.returns
returns c =
    c.new-2.ensures.items ∙ not_found c.args.program.now c.args.limit (state_of c.args.begun.state) (state_of c.loop-made.state) c.args.object c.loop-made.made (omega arith) c.loop-made.invariant
