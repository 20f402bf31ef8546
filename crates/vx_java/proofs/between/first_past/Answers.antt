use Rattle.std.proofs.Common.{ap, inl, inr, Some, ◌∙◌}
use Rattle.vx_java.proofs.MemberNumbers.{past_first, past_none}
use Rattle.vx_java.proofs.between.first_past.Goals as goal
use Rattle.vx_java.proofs.between.first_past.Goals.{else-from-last-via-then-from-last+else-count-last, else-from-last-via-else-from-last}

pub returns-then-count-last : goal.returns-then-count-last
returns-then-count-last c = ap Some c.max.ensures ∙ past_first c.args.count c.args.from c.args.last c.if-from-last.true c.if-count-last.true

pub returns-else-from-last : goal.returns-else-from-last
returns-else-from-last c =
    elim c.else-from-last.branch [
      | else-from-last-via-then-from-last+else-count-last w ↦ past_none c.args.count c.args.from c.args.last (inr w.if-count-last.false)
      | else-from-last-via-else-from-last w ↦ past_none c.args.count c.args.from c.args.last (inl w.if-from-last.false)
    ]
