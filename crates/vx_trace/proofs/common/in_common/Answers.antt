use Rattle.std.proofs.Common.{arith, refl, sym, ◌∙◌}
use Rattle.vx_trace.proofs.Ends.{all_same, one_differs, one_same}
use Rattle.vx_trace.proofs.common.in_common.Goals as goal

pub returns-then-not-is_same-clause-count : goal.returns-then-not-is_same-clause-count
returns-then-not-is_same-clause-count c =
    one_differs c.args.above.now c.args.lines.now c.loop-common.common _ _ c.index-above-above.result c.index-lines-lines.result c.index-above-above.is c.index-lines-lines.is
    (omega (arith, c.min-most.ensures, c.loop-common-test.true)) (omega (arith, c.min-most.ensures, c.loop-common-test.true)) refl refl c.loop-common.invariant (sym c.is_same.ensures ∙ c.if-not-is_same.true)

pub loop-common-preserved : goal.loop-common-preserved
loop-common-preserved c =
    one_same c.args.above.now c.args.lines.now c.loop-common.common _ _ c.index-above-above.result c.index-lines-lines.result c.index-above-above.is c.index-lines-lines.is
    (omega (arith, c.min-most.ensures, c.loop-common-test.true)) (omega (arith, c.min-most.ensures, c.loop-common-test.true)) refl refl c.loop-common.invariant (sym c.is_same.ensures ∙ c.if-not-is_same.false)

pub returns-clause-count : goal.returns-clause-count
returns-clause-count c =
    all_same c.args.above.now c.args.lines.now c.min-most.result c.loop-common.common c.min-most.ensures (omega (arith, c.loop-common.auto.common-end, c.loop-common-test.false)) c.loop-common.invariant
