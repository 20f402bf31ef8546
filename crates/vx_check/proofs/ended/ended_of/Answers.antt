use Rattle.std.proofs.Common.{◌≡◌, ◌∙◌}
use Rattle.vx_check.proofs.Endings.{AreEndedTo-all, AreEndedTo-start, AreEndedTo-step}
use Rattle.vx_check.proofs.ended.ended_of.Goals as goal

pub loop-line-init : goal.loop-line-init
loop-line-init g c = rw c.new-all.ensures.items (AreEndedTo-start c.args.report.now c.args.firsts.now)

pub returns : goal.returns
returns g c = AreEndedTo-all c.args.report.now c.args.firsts.now _ c.loop-line.line-index c.loop-line.all.items c.as_slice-line-items.ensures c.loop-line-test.false c.loop-line.invariant

pub loop-line-preserved : goal.loop-line-preserved
loop-line-preserved g c =
    rw c.in_ok-push.ensures.items (AreEndedTo-step c.args.report.now c.args.firsts.now _ c.loop-line.line-index c.line-item.result c.index-firsts-place.result c.in_ok-with_words.field-0 c.loop-line.all.items c.requires c.as_slice-line-items.ensures c.loop-line-test.true c.line-item.is
    (rw place at c.index-firsts-place.is) (rw place at c.in_ok-with_words.ensures) c.loop-line.invariant)
  where
    place : c.len-place.result ≡ c.loop-line.line-index
    place = c.len-place.ensures ∙ c.loop-line.all.ok.0 ∙ c.loop-line.invariant.number
