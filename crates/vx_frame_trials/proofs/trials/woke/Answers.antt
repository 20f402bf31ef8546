use Rattle.std.proofs.Common.{◌≡◌, ap, arith, length, sym, ◌∙◌}
use Rattle.std.specs.Ordering.{nat_cmp}
use Rattle.vx_cond.proofs.CondLaws.{IsCond-of}
use Rattle.vx_frame.specs.Frame.{Shape}
use Rattle.vx_frame.proofs.FrameLaws.{IsFrame-of}
use Rattle.vx_group.proofs.GroupLaws.{IsGroup-of_parts}
use Rattle.vx_frame_trials.proofs.CalledLaws.{no_arguments}
use Rattle.vx_frame_trials.proofs.trials.woke.Goals as goal

pub one-requires : goal.one-requires
one-requires g c = rw c.always-path.ensures (g.met.S.Space.lawful c.args.space.now).always_known

pub begun-requires-clause-known : goal.begun-requires-clause-known
begun-requires-clause-known g c = rw c.always-path.ensures (g.met.S.Space.lawful c.args.space.now).always_known

pub begun-requires-clause-values : goal.begun-requires-clause-values
begun-requires-clause-values g c = no_arguments _ _ _ _ c.new-arguments.ensures.items

pub new-waiting-requires-clause-scope : goal.new-waiting-requires-clause-scope
new-waiting-requires-clause-scope g c = c.in_ok-frame.ensures.scope ∙ sym c.in_ok-attempts.ensures.scope

pub new-waiting-requires-clause-operands : goal.new-waiting-requires-clause-operands
new-waiting-requires-clause-operands g c = let e : length c.in_ok-frame.frame.stack.conds ≡ 0 = ap (λ (q : Shape). q.part.depth) c.in_ok-frame.ensures.shape in omega arith

pub woken-group-requires : goal.woken-group-requires
woken-group-requires g c = rw c.new-waiting.ensures (IsGroup-of_parts _ _ (IsCond-of nat_cmp _ _ c.in_ok-attempts.attempts c.in_ok-attempts.ensures.ok) (IsFrame-of _ _ c.in_ok-frame.frame c.in_ok-frame.ensures.is_frame) (c.in_ok-frame.ensures.scope ∙ sym c.in_ok-attempts.ensures.scope))
