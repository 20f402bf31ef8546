use Rattle.std.proofs.Common.{ap, sym, ◌∙◌}
use Rattle.vx_java.specs.Checks.{is_instance_of}
use Rattle.vx_plain.specs.Views.{state_of, value_of}
use Rattle.vx_plain_here.specs.Rows.{here_in}
use Rattle.vx_plain_here.proofs.Comes.{comes_as}
use Rattle.vx_plain_casts.proofs.Laws.{fails, passes}
use Rattle.vx_plain_casts.proofs.objects.throw_value.Goals as goal

pub returns-then-is_instance : goal.returns-then-is_instance
returns-then-is_instance c = comes_as c.throw_object.result _ _ _ _ (passes _ _ _ (sym (c.is_instance.ensures ∙ ap (λ k. is_instance_of (here_in c.args.here.now (state_of c.args.state.now)) k (value_of c.args.value)) c.core-throwable.ensures) ∙ c.if-is_instance.true)) c.throw_object.ensures

pub returns-else-is_instance : goal.returns-else-is_instance
returns-else-is_instance c = comes_as c.illegal.result _ _ _ _ (fails _ _ _ (sym (c.is_instance.ensures ∙ ap (λ k. is_instance_of (here_in c.args.here.now (state_of c.args.state.now)) k (value_of c.args.value)) c.core-throwable.ensures) ∙ c.if-is_instance.false)) c.illegal.ensures
