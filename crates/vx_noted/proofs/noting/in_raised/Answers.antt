use Rattle.std.proofs.Common.{ap, ◌+◌}
use Rattle.vx_noted.proofs.Raised.{raised_elsewhere, raised_here}
use Rattle.vx_plain.specs.Views.{state_of}
use Rattle.vx_noted.proofs.noting.in_raised.Goals as goal

pub returns-then-made-object : goal.returns-then-made-object
returns-then-made-object c =
    raised_here c.args.program.now (state_of c.args.state.now) c.args.class.0 c.args.texts c.args.object (c.next_object.result + c.args.texts) c.in_ok-frames.frames.items (ap (λ n. n + c.args.texts) c.next_object.ensures.place) c.if-made-object.true c.in_ok-frames.ensures

pub returns : goal.returns
returns c =
    raised_elsewhere c.in_wrapper.result c.args.program.now (state_of c.args.state.now) c.args.class.0 c.args.texts c.args.object (c.next_object.result + c.args.texts) (ap (λ n. n + c.args.texts) c.next_object.ensures.place) c.if-made-object.false c.in_wrapper.ensures
