use Rattle.std.proofs.Common.{Some, ◌+◌, ◌∙◌, ap, arith, refl, sym}
use Rattle.vx_report_line.proofs.Numbers.{same_bytes_same}
use Rattle.vx_compare.proofs.FirstLines.{goes_on, nothing_left, shorter, told_first}
use Rattle.vx_compare.proofs.lines.line_difference.Goals as goal

pub returns-then-not-is_same : goal.returns-then-not-is_same
returns-then-not-is_same c =
    ap Some c.in_ok-told.ensures
    ∙ told_first c.args.stream c.loop-one.number c.loop-one.one.now c.loop-one.other.now _ _ c.split_line.ensures.first c.split_line-in-loop-one.ensures.first (sym c.is_same.ensures ∙ c.if-not-is_same.true)
    ∙ c.loop-one.invariant.0

pub loop-one-smaller : goal.loop-one-smaller
loop-one-smaller c =
    let same = same_bytes_same c.split_line.result.0.now c.split_line-in-loop-one.result.0.now (sym c.is_same.ensures ∙ c.if-not-is_same.false) in
    (shorter c.loop-one.one.now c.loop-one.other.now _ _ _ _ c.split_line.ensures.first c.split_line-in-loop-one.ensures.first c.split_line.ensures.all c.split_line-in-loop-one.ensures.all same (omega (arith, c.left.ensures, c.loop-one-test.true))).1

pub loop-one-preserved : goal.loop-one-preserved
loop-one-preserved c =
    let same = same_bytes_same c.split_line.result.0.now c.split_line-in-loop-one.result.0.now (sym c.is_same.ensures ∙ c.if-not-is_same.false) in
    let less = (shorter c.loop-one.one.now c.loop-one.other.now _ _ _ _ c.split_line.ensures.first c.split_line-in-loop-one.ensures.first c.split_line.ensures.all c.split_line-in-loop-one.ensures.all same (omega (arith, c.left.ensures, c.loop-one-test.true))).0 in
    let most = c.loop-one.invariant.1 in (
      goes_on c.args.stream c.loop-one.number (c.loop-one.number + 1) c.loop-one.one.now c.loop-one.other.now _ _ c.split_line.result.1.now c.split_line-in-loop-one.result.1.now c.split_line.ensures.first c.split_line-in-loop-one.ensures.first c.split_line.ensures.rest c.split_line-in-loop-one.ensures.rest same refl
          ∙ c.loop-one.invariant.0,
      omega (arith, less, most),
    )

pub returns : goal.returns
returns c = nothing_left c.args.stream c.loop-one.number c.loop-one.one.now c.loop-one.other.now (omega (arith, c.left.ensures, c.loop-one-test.false)) ∙ c.loop-one.invariant.0
