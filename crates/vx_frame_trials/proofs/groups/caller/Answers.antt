use Rattle.std.proofs.Common.{refl, sym, ◌∙◌}
use Rattle.std.specs.Ordering.{nat_cmp}
use Rattle.vx_cond.proofs.CondLaws.{IsCond-of}
use Rattle.vx_frame.proofs.FrameLaws.{IsFrame-of}
use Rattle.vx_group.proofs.GroupLaws.{IsGroup-of_parts}
use Rattle.vx_frame_trials.proofs.CalledLaws.{few_operands, with_operand}
use Rattle.vx_frame_trials.proofs.groups.caller.Goals as goal

pub one-requires : goal.one-requires
one-requires g c = rw c.always.ensures (g.met.S.Space.lawful c.differing.new.space).always_known

pub new-requires : goal.new-requires
new-requires g c = rw c.always-2.ensures (g.met.S.Space.lawful c.differing.new.space).always_known

pub new-group-requires-clause-scope : goal.new-group-requires-clause-scope
new-group-requires-clause-scope g c = c.in_ok-frame.ensures.scope ∙ c.always-2.ensures ∙ sym (c.in_ok-attempts.ensures.scope ∙ c.always.ensures)

pub new-group-requires-clause-operands : goal.new-group-requires-clause-operands
new-group-requires-clause-operands g c = rw c.in_ok-push.ensures.ok (few_operands c.in_ok-frame.frame c.in_ok-operand.operand _ _ refl c.in_ok-frame.ensures.shape)

pub returns-clause-alone : goal.returns-clause-alone
returns-clause-alone g c = rw (c.new-group.ensures, c.in_ok-push.ensures.ok) (record {
  is_group = IsGroup-of_parts _ _ (IsCond-of nat_cmp _ _ c.in_ok-attempts.attempts c.in_ok-attempts.ensures.ok) (with_operand _ c.in_ok-frame.frame c.in_ok-operand.operand (IsFrame-of _ _ c.in_ok-frame.frame c.in_ok-frame.ensures.ok) (c.in_ok-frame.ensures.scope ∙ c.always-2.ensures) c.in_ok-operand.ensures.short) (c.in_ok-frame.ensures.scope ∙ c.always-2.ensures ∙ sym (c.in_ok-attempts.ensures.scope ∙ c.always.ensures));
  path = c.in_ok-attempts.ensures.scope ∙ c.always.ensures;
  below = refl;
  caller = refl;
})
