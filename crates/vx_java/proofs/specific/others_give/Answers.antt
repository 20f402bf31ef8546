use Rattle.std.proofs.Common.{◌∙◌, ap}
use Rattle.std.specs.Prelude.{is_some}
use Rattle.vx_java.proofs.Specifics.{some_first}
use Rattle.vx_java.specs.Specific.{gives_beside, specific_in}
use Rattle.vx_link.specs.Hierarchy.{superinterfaces}
use Rattle.vx_java.proofs.specific.others_give.Goals as goal

pub returns : goal.returns
returns c =
    let p = c.args.program.now in
    let s = c.args.sought.now in
    c.is_some.ensures
    ∙ ap is_some c.ask_superinterfaces.ensures
    ∙ some_first (gives_beside (specific_in p s.0 s.1 c.args.class.0) c.args.first.0) (superinterfaces p c.args.class.0)
