use Rattle.std.proofs.Common.{arith, sym, ◌∙◌}
use Rattle.vx_bdd_tools.proofs.Supports.{IsSupportBelow-none, IsSupportBelow-asked, IsSupportBelow-unasked}
use Rattle.vx_interact.proofs.NodeOptions.{IsSupport-below, not_both}
use Rattle.vx_interact.proofs.bits.options_in.Goals as goal
use Rattle.vx_interact.proofs.bits.options_in.Goals.{then-has_bit+in_ok-push, else-has_bit}

pub loop-option-init : goal.loop-option-init
loop-option-init c = λ set h. rw c.new-found.ensures.items (IsSupportBelow-none set)

pub loop-option-preserved : goal.loop-option-preserved
loop-option-preserved c = λ set h. elim c.if-has_bit.branch [
  | then-has_bit+in_ok-push w ↦ rw (w.found-is, w.in_ok-push.ensures.items) (IsSupportBelow-asked set c.loop-option.option _ (c.loop-option.invariant set h) (h.each c.loop-option.option (sym c.has_bit.ensures ∙ w.if-has_bit.true)))
  | else-has_bit w ↦ rw w.found-is (IsSupportBelow-unasked set c.loop-option.option _ (c.loop-option.invariant set h) (λ d. not_both _ (h.all c.loop-option.option d) (sym c.has_bit.ensures ∙ w.if-has_bit.false)))
]

pub returns : goal.returns
returns c = λ set h f. IsSupport-below set c.args.options _ c.loop-option.option (omega (arith, c.loop-option-test.false)) f (c.loop-option.invariant set h)
