use Rattle.std.proofs.Common.{[], ◌∙◌, ◌∷◌}
use Rattle.vx_java.specs.Machine.{with_inits}
use Rattle.vx_value.specs.declared.slot.InitState.TheVariants.{Failed}
use Rattle.vx_plain_throw.proofs.unwinding.pass_initialisation.Goals as goal

pub returns : goal.returns
returns c = record {
  object = c.in_ok-thrown.ensures.object;
  state = c.mark_one.ensures ∙ (λ i. with_inits (c.in_ok-thrown.ensures.state i) Failed (c.current_class-class.ensures i ∷ []));
  err = tt;
}
