use Rattle.std.proofs.Common.{ap, ◌∙◌}
use Rattle.std.specs.Prelude.{option_map}
use Rattle.vx_plain.specs.Views.{state_of}
use Rattle.vx_plain_here.proofs.Comes.{comes_as}
use Rattle.vx_plain_here.specs.Rows.{here_in}
use Rattle.vx_plain_casts.proofs.Laws.{instance_row}
use Rattle.vx_plain_casts.specs.Casts.{instance_by}
use Rattle.vx_plain_casts.proofs.casts.instance_of.Goals as goal

pub returns : goal.returns
returns c =
    let h = (here_in c.args.here.now (state_of c.args.state.now)) in
    comes_as c.instance_by.result _ _ _ _ (ap (instance_by h c.args.name.now (state_of c.args.state.now).top.operands) c.tested-answer.ensures ∙ instance_row h c.args.name.now (state_of c.args.state.now).top.operands (option_map (λ k. k.0) c.args.named) c.requires) c.instance_by.ensures
