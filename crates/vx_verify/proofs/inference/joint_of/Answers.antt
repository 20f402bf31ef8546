use Rattle.std.proofs.Common.{ap, sym, ◌∙◌}
use Rattle.vx_verify.specs.Inference.{joint_by, joint_of}
use Rattle.vx_verify.proofs.inference.joint_of.Goals as goal

pub returns-in_default : goal.returns-in_default
returns-in_default c = sym (ap (joint_of c.args.known) c.in_default.is)

pub returns-then-is_same : goal.returns-then-is_same
returns-then-is_same c = sym (ap (joint_of c.args.known) c.in-Some.is ∙ ap (joint_by c.in-Some.both) (sym c.is_same.ensures ∙ c.if-is_same.true))

pub returns : goal.returns
returns c = sym (ap (joint_of c.args.known) c.in-Some.is ∙ ap (joint_by c.in-Some.both) (sym c.is_same.ensures ∙ c.if-is_same.false))
