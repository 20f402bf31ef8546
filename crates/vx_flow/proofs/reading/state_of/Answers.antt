use Rattle.std.proofs.Common.{◌∙◌}
use Rattle.vx_flow.proofs.reading.state_of.Goals as goal

pub returns : goal.returns
returns c = λ j. record { locals = (c.of-locals.ensures ∙ c.in_ok-types.ensures) j; operands = (c.of-operands.ensures ∙ c.in_ok-tops.ensures) j }
