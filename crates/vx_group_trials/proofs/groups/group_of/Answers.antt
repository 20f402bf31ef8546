use Rattle.std.proofs.Common.{◌≡◌, ◌∙◌, sym, ap, arith, length, refl}
use Rattle.vx_cond.proofs.CondLaws.{IsCond-of}
use Rattle.vx_frame.specs.Frame.{Shape}
use Rattle.vx_frame.proofs.FrameLaws.{IsFrame-of}
use Rattle.vx_group.proofs.GroupLaws.{IsGroup-of_parts}
use Rattle.vx_group_trials.proofs.Trials.{fresh_attempts}
use Rattle.vx_group_trials.proofs.groups.group_of.Goals as goal

pub new-group-requires-clause-scope : goal.new-group-requires-clause-scope
new-group-requires-clause-scope g c = c.in_ok-frame.ensures.scope ∙ sym c.in_ok-attempts.ensures.scope

pub new-group-requires-clause-operands : goal.new-group-requires-clause-operands
new-group-requires-clause-operands g c = let e : length c.in_ok-frame.frame.stack.conds ≡ 0 = ap (λ (q : Shape). q.part.depth) c.in_ok-frame.ensures.shape in omega arith

pub returns-clause-single : goal.returns-clause-single
returns-clause-single g c = rw c.new-group.ensures (record {
  is_group = IsGroup-of_parts _ _ (IsCond-of _ _ _ _ c.in_ok-attempts.ensures.ok) (IsFrame-of _ _ _ c.in_ok-frame.ensures.ok) (c.in_ok-frame.ensures.scope ∙ sym c.in_ok-attempts.ensures.scope);
  below = refl;
  caller = refl;
  locals = ap (λ (q : Shape). q.locals) c.in_ok-frame.ensures.shape;
})

pub returns-clause-path : goal.returns-clause-path
returns-clause-path g c = rw c.new-group.ensures c.in_ok-attempts.ensures.scope

pub returns-clause-shape : goal.returns-clause-shape
returns-clause-shape g c = rw c.new-group.ensures c.in_ok-frame.ensures.shape

pub returns-clause-fresh : goal.returns-clause-fresh
returns-clause-fresh g c = λ c'. rw c.new-group.ensures (fresh_attempts (g.S.Space.sets c.args.space.now) c.args.path c.in_ok-attempts.attempts c.in_ok-attempts.ensures.ok c')
