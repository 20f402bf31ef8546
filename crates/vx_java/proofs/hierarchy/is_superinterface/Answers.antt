use Rattle.std.proofs.Common.{◌∙◌, ap}
use Rattle.std.specs.Prelude.{is_some, nat_eq}
use Rattle.vx_java.proofs.Specifics.{some_first}
use Rattle.vx_link.specs.Hierarchy.{superinterfaces}
use Rattle.vx_java.proofs.hierarchy.is_superinterface.Goals as goal

pub returns : goal.returns
returns c =
    c.is_some.ensures ∙ ap is_some c.ask_superinterfaces.ensures ∙ some_first (nat_eq c.args.wanted) (superinterfaces c.args.program.now c.args.class.0)
