use Rattle.std.proofs.Common.{refl, ◌∙◌}
use Rattle.vx_explain.proofs.FirstLiterals.{one_literal}
use Rattle.vx_explain.proofs.literals.push_literals.Goals as goal

pub loop-option-preserved : goal.loop-option-preserved
loop-option-preserved c = rw c.in_ok-push.ensures.items (one_literal c.args.on c.args.options c.loop-option.option (record { option = c.loop-option.option; on = c.args.on }) c.loop-option.all.items c.loop-option-test.true refl ∙ c.loop-option.invariant)
