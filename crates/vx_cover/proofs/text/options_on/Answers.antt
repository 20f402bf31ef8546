use Rattle.std.proofs.Common.{sym, ◌∙◌}
use Rattle.vx_cover.proofs.On.{options_on-off, options_on-on}
use Rattle.vx_cover.proofs.text.options_on.Goals as goal
use Rattle.vx_cover.proofs.text.options_on.Goals.{then-is_on+in_ok-push, else-is_on}

pub loop-option-preserved : goal.loop-option-preserved
loop-option-preserved c = elim c.if-is_on.branch [
  | then-is_on+in_ok-push w ↦ rw w.found-is (options_on-on c.loop-option.option c.args.c.now c.loop-option.found.items _ (sym c.is_on.ensures ∙ w.if-is_on.true) w.in_ok-push.ensures.items c.loop-option.invariant)
  | else-is_on w ↦ rw w.found-is (options_on-off c.loop-option.option c.args.c.now c.loop-option.found.items (sym c.is_on.ensures ∙ w.if-is_on.false) c.loop-option.invariant)
]
