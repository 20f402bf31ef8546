use Rattle.std.proofs.Common.{◌∙◌}
use Rattle.vx_check.proofs.Demanding.{demand_accepted, demand_refused, demanded_options}
use Rattle.vx_check.proofs.expected.demanding.Goals as goal

pub returns-in-Ok-clause-model : goal.returns-in-Ok-clause-model
returns-in-Ok-clause-model c = demand_accepted c.args.names.now c.args.rule.now c.in-Ok.model c.as_slice.result.now c.requires.names c.requires.plain (c.as_slice.ensures.value ∙ c.in_ok-text.ensures) c.in-Ok.ensures.exact

pub returns-in-Ok-clause-of : goal.returns-in-Ok-clause-of
returns-in-Ok-clause-of c = (c.in-Ok.ensures.lawful, demanded_options c.args.names.now c.args.rule.now c.in-Ok.model (returns-in-Ok-clause-model c))

pub returns-clause-model : goal.returns-clause-model
returns-clause-model c = rw c.reason_of.ensures (demand_refused c.args.names.now c.args.rule.now c.in-Err.fault c.as_slice.result.now c.requires.names c.requires.plain (c.as_slice.ensures.value ∙ c.in_ok-text.ensures) c.in-Err.ensures.exact)
