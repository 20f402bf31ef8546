use Rattle.std.proofs.Common.{◌≡◌, refl, subst}
use Rattle.vx_link.specs.Names.{class_name, member}
use Rattle.vx_link.specs.declared.program.LinkedClass.{LinkedClass}
use Rattle.vx_references.proofs.Tables.{class_missing, class_there}
use Rattle.vx_references.proofs.named.owner_entry.Goals as goal

pub returns-in-Some : goal.returns-in-Some
returns-in-Some c =
    subst (λ (x : LinkedClass). class_name x.pool c.owner_in.result ≡ (member x.pool c.args.index).class) (class_there c.args.program.now c.args.class.0 c.in-Some.class.now c.in-Some.ensures) c.owner_in.ensures

pub returns-in-None : goal.returns-in-None
returns-in-None c =
    subst (λ (x : LinkedClass). class_name x.pool 0 ≡ (member x.pool c.args.index).class) (class_missing c.args.program.now c.args.class.0 c.in-None.ensures) refl
