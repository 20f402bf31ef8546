use Rattle.vx_value.specs.Slot.{slot_cmp}
use Rattle.vx_group_states.proofs.SettleLaws.{lifting_cond}
use Rattle.vx_stack.proofs.OrderLaws.{copied-at}
use Rattle.vx_stack.proofs.reordering.copied.Goals as goal

pub returns-clause-cond : goal.returns-clause-cond
returns-clause-cond g c = lifting_cond slot_cmp _ _ _ c.in_ok-copy.copy c.in_ok-copy.ensures.ok

pub returns-clause-at : goal.returns-clause-at
returns-clause-at g c = copied-at _ (g.S.Space.sets c.args.space.now) _ c.args.value.now c.in_ok-copy.copy (λ a b h. h) c.in_ok-copy.ensures.ok
