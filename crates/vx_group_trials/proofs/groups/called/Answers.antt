use Rattle.std.proofs.Common.{◌≡◌, ◌∙◌, ◌∷◌, ap, arith, length, map}
use Rattle.vx_frame.specs.Frame.{Shape, shape_of}
use Rattle.vx_frame.proofs.FrameLaws.{IsFrame-of}
use Rattle.vx_group.proofs.GroupLaws.{IsGroup-path_known}
use Rattle.vx_group.specs.Group.{shapes_of}
use Rattle.vx_group_trials.proofs.groups.called.Goals as goal

pub new-requires : goal.new-requires
new-requires g c = rw c.path.ensures (IsGroup-path_known _ _ c.requires.single.is_group)

pub push-requires-clause-scope : goal.push-requires-clause-scope
push-requires-clause-scope g c = c.in_ok-frame.ensures.scope ∙ c.path.ensures

pub push-requires-clause-depth : goal.push-requires-clause-depth
push-requires-clause-depth g c = let e : length c.args.group.below ≡ 0 = ap length c.requires.single.below in omega arith

pub push-requires-clause-operands : goal.push-requires-clause-operands
push-requires-clause-operands g c = let e : length c.in_ok-frame.frame.stack.conds ≡ 0 = ap (λ (q : Shape). q.part.depth) c.in_ok-frame.ensures.shape in omega arith

pub push-requires-clause-frame : goal.push-requires-clause-frame
push-requires-clause-frame g c = IsFrame-of _ _ _ c.in_ok-frame.ensures.ok

pub returns-clause-shapes : goal.returns-clause-shapes
returns-clause-shapes g c = ap (map shape_of) c.in_ok-push.ensures.stack ∙ ap (λ s. s ∷ shapes_of c.args.callers.now c.args.group) c.in_ok-frame.ensures.shape
