use Rattle.std.specs.Ordering.{bool_cmp}
use Rattle.vx_frame.proofs.FrameLaws.{IsFrame-stack}
use Rattle.vx_group.proofs.GroupLaws.{IsGroup-top}
use Rattle.vx_group_states.proofs.SettleLaws.{lifting_cond}
use Rattle.vx_returns.proofs.ReceiveLaws.{IsSet-within}
use Rattle.vx_returns.proofs.receiving.where_within.Goals as goal

pub stack_size-requires-clause-row : goal.stack_size-requires-clause-row
stack_size-requires-clause-row g c = rw c.top_frame.ensures (IsFrame-stack _ c.args.group.now.top (IsGroup-top _ c.args.group.now c.requires.group))

pub stack_size-requires-clause-few : goal.stack_size-requires-clause-few
stack_size-requires-clause-few g c = rw c.top_frame.ensures c.requires.few

pub where_yes-requires : goal.where_yes-requires
where_yes-requires g c = lifting_cond bool_cmp _ _ _ c.in_ok-answers.answers c.in_ok-answers.ensures.ok

pub returns-clause-set : goal.returns-clause-set
returns-clause-set g c = IsSet-within _ c.args.room c.args.group.now c.in_ok-sizes.sizes c.in_ok-answers.answers c.where_yes.result c.requires.group c.in_ok-sizes.ensures.extends c.in_ok-sizes.ensures.cond (rw c.top_frame.ensures at c.in_ok-sizes.ensures.scope) (rw c.top_frame.ensures at c.in_ok-sizes.ensures.at) (λ n b h. rw c.from-room.ensures at h) c.in_ok-answers.ensures.ok c.where_yes.ensures
