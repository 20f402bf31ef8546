use Rattle.std.proofs.Common.{◌∙◌, ap, false}
use Rattle.std.specs.Prelude.{unwrap_or}
use Rattle.vx_space.proofs.Configs.{unwrap_or-slice_get}
use Rattle.vx_configuration.proofs.allowing.is_on.Goals as goal

pub returns : goal.returns
returns c = c.unwrap_or.ensures ∙ ap (λ o. unwrap_or o false) c.value.ensures ∙ unwrap_or-slice_get c.args.values.now c.args.option
