use Rattle.std.proofs.Common.{arith, sym, ◌∙◌}
use Rattle.vx_plain_throw.proofs.Laws.{none_left, one_handles, one_passed}
use Rattle.vx_plain_throw.proofs.handling.uncaught_over.Goals as goal

pub loop-above-preserved : goal.loop-above-preserved
loop-above-preserved c =
    c.loop-above.invariant
    ∙ one_passed c.args.program.now c.args.frames.now c.loop-above.above _ c.loop-above.thrown.0 c.in-Some.class.0 c.index-frames-place.result c.index-frames-place.is c.in-Some.ensures (omega arith) (omega arith)

pub returns-in_default : goal.returns-in_default
returns-in_default c =
    sym
    (c.loop-above.invariant
    ∙ one_handles c.args.program.now c.args.frames.now c.loop-above.above _ c.loop-above.thrown.0 c.index-frames-place.result c.index-frames-place.is c.in_default.ensures (omega arith) (omega arith))

pub returns : goal.returns
returns c = sym (c.loop-above.invariant ∙ none_left c.args.program.now c.args.frames.now c.loop-above.above c.loop-above.thrown.0 (omega arith))
