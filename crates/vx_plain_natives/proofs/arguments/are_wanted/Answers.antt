use Rattle.std.proofs.Common.{◌<◌, arith, length}
use Rattle.vx_plain.specs.Views.{state_of}
use Rattle.vx_plain_here.specs.Rows.{here_in}
use Rattle.vx_plain_natives.proofs.Given.{one_unwanted, one_wanted}
use Rattle.vx_plain_natives.proofs.arguments.are_wanted.Goals as goal

pub returns-then-not-is_wanted : goal.returns-then-not-is_wanted
returns-then-not-is_wanted c =
    let lt : c.loop-place.place < length c.args.types.now = omega arith in
    one_unwanted (here_in c.args.here.now (state_of c.args.state.now)) c.args.descriptor.now c.args.types.now c.args.values.now c.loop-place.place _ _ c.is_wanted.result lt c.requires c.is_wanted.ensures c.if-not-is_wanted.true c.loop-place.invariant

pub loop-place-preserved : goal.loop-place-preserved
loop-place-preserved c =
    let lt : c.loop-place.place < length c.args.types.now = omega arith in
    one_wanted (here_in c.args.here.now (state_of c.args.state.now)) c.args.descriptor.now c.args.types.now c.args.values.now c.loop-place.place _ _ c.is_wanted.result lt c.requires c.is_wanted.ensures c.if-not-is_wanted.false c.loop-place.invariant
