use Rattle.vx_plain.specs.Views.{state_of, value_of}
use Rattle.vx_plain_casts.proofs.Laws.{tested_none, tested_there}
use Rattle.std.proofs.Common.{◌∙◌}
use Rattle.std.specs.Prelude.{option_map}
use Rattle.vx_plain_casts.proofs.casts.tested.Goals as goal

pub returns-in-Some : goal.returns-in-Some
returns-in-Some c = c.tested_value.ensures ∙ tested_there c.args.here.now.program.now (state_of c.args.state.now) (option_map (λ k. k.0) c.args.named) (state_of c.args.state.now).top.operands (value_of c.in-Some.value) c.in-Some.ensures

pub returns-in-None : goal.returns-in-None
returns-in-None c = c.missing.ensures ∙ tested_none c.args.here.now.program.now (state_of c.args.state.now) (option_map (λ k. k.0) c.args.named) (state_of c.args.state.now).top.operands c.in-None.ensures
