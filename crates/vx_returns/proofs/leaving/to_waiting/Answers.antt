use Rattle.vx_group.proofs.GroupLaws.{IsGroupIn-group}
use Rattle.vx_returns.proofs.LeaveLaws.{left_to_waiting, not_call}
use Rattle.vx_returns.proofs.leaving.to_waiting.Goals as goal

pub woken-awake-requires : goal.woken-awake-requires
woken-awake-requires g c = IsGroupIn-group _ _ c.in_ok-below.below c.in_ok-below.ensures.uncovered.is_group

pub returns-clause-gives : goal.returns-clause-gives
returns-clause-gives g c = λ site returns heap v s. rw (c.in_ok-below.ensures.callers, c.in_ok-outcomes.ensures.one) (left_to_waiting site returns heap c.args.callers.now c.args.group c.in_ok-below.below c.woken-awake.result c.in_ok-below._frame v s (not_call c.args.group.top.kind c.requires.kind) c.in_ok-below.ensures.extends (rw c.in_ok-below.ensures.callers at c.in_ok-below.ensures.uncovered) c.woken-awake.ensures)
