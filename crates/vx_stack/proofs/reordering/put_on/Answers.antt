use Rattle.std.proofs.Common.{◌∙◌, ap}
use Rattle.vx_value.specs.Slot.{slot_cmp}
use Rattle.vx_cond.proofs.CondLaws.{IsCond-extends, cond_at-extends}
use Rattle.vx_cond.specs.Slots.{or_top}
use Rattle.vx_cond.proofs.RowSteps.{IsRow-get}
use Rattle.vx_stack.proofs.OrderLaws.{IsPutting-start, IsPutting-step}
use Rattle.vx_stack.proofs.reordering.put_on.Goals as goal

pub loop-i-init : goal.loop-i-init
loop-i-init g c = IsPutting-start _ c.args.stack.now c.args.values.now _ c.len-count.ensures c.requires.row

pub copied-requires : goal.copied-requires
copied-requires g c = IsCond-extends slot_cmp c.loop-i.invariant.extends c.get.result.now (IsRow-get slot_cmp _ c.args.values.now _ c.get.result.now c.requires.values c.get.ensures).0

pub loop-i-preserved : goal.loop-i-preserved
loop-i-preserved g c =
    let value = c.get.result.now in
    let there = IsRow-get slot_cmp _ c.args.values.now _ value c.requires.values c.get.ensures in
    let kept = c.loop-i.invariant in
    let copy = c.in_ok-copy.ensures in
    IsPutting-step c.args.stack.now c.loop-i.stack c.push.new.self c.args.values.now _ _ value c.in_ok-copy.copy c.loop-i-test.true c.get.ensures kept copy.extends copy.cond (copy.scope ∙ there.1 ∙ c.requires.scope) (λ d. copy.at d ∙ ap or_top (cond_at-extends slot_cmp kept.extends value there.0 d)) c.in_ok-push.ensures.ok
