use Rattle.std.proofs.Common.{◌≡◌, ◌∙◌, ap, arith, length, refl}
use Rattle.vx_frame.specs.Frame.{Shape}
use Rattle.vx_frame.proofs.FrameLaws.{IsFrame-of}
use Rattle.vx_group.proofs.GroupLaws.{IsGroup-path_known, IsGroupIn-group}
use Rattle.vx_frames.proofs.EnterLaws.{IsEntered-made}
use Rattle.vx_frames.proofs.LocalLaws.{AreArguments-at}
use Rattle.vx_frames.proofs.entering.entered.Goals as goal

pub begun-requires-clause-known : goal.begun-requires-clause-known
begun-requires-clause-known g c = rw c.path.ensures (IsGroup-path_known _ c.args.group (IsGroupIn-group _ _ c.args.group c.requires.group))

pub begun-requires-clause-values : goal.begun-requires-clause-values
begun-requires-clause-values g c = AreArguments-at _ _ _ _ _ c.args.arguments.items c.path.ensures refl c.requires.arguments

pub push-requires-clause-frame : goal.push-requires-clause-frame
push-requires-clause-frame g c = IsFrame-of _ _ c.in_ok-frame.frame c.in_ok-frame.ensures.is_frame

pub push-requires-clause-scope : goal.push-requires-clause-scope
push-requires-clause-scope g c = c.in_ok-frame.ensures.scope ∙ c.path.ensures

pub push-requires-clause-operands : goal.push-requires-clause-operands
push-requires-clause-operands g c = let e : length c.in_ok-frame.frame.stack.conds ≡ 0 = ap (λ (q : Shape). q.part.depth) c.in_ok-frame.ensures.shape in omega arith

pub returns-clause-entered : goal.returns-clause-entered
returns-clause-entered g c =
    let begun = rw c.path.ensures at c.in_ok-frame.ensures in
    IsEntered-made c.args.program.now _ _ _ c.args.group c.args.kind c.args.method c.args.arguments.items _ c.in_ok-frame.frame begun c.in_ok-push.ensures.attempts c.in_ok-push.ensures.stack c.requires.group c.in_ok-push.ensures.valid
