use Rattle.std.proofs.Common.{◌∙◌, ap}
use Rattle.vx_link.specs.Names.{member}
use Rattle.vx_link.specs.declared.program.LinkedClass.{LinkedClass}
use Rattle.vx_references.proofs.Tables.{class_missing, class_there}
use Rattle.vx_references.proofs.members.named_member.Goals as goal

pub returns-in-Some : goal.returns-in-Some
returns-in-Some c = c.member.ensures ∙ ap (λ (x : LinkedClass). member x.pool c.args.index) (class_there c.args.program.now c.args.class.0 c.in-Some.class.now c.in-Some.ensures)

pub returns-in-None : goal.returns-in-None
returns-in-None c = ap (λ (x : LinkedClass). member x.pool c.args.index) (class_missing c.args.program.now c.args.class.0 c.in-None.ensures)
