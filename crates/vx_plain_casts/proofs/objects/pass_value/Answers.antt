use Rattle.std.proofs.Common.{sym, ◌∙◌}
use Rattle.vx_plain_here.proofs.Comes.{comes_as}
use Rattle.vx_plain_casts.proofs.Laws.{fails, passes}
use Rattle.vx_plain_casts.proofs.objects.pass_value.Goals as goal

pub returns-then-is_of : goal.returns-then-is_of
returns-then-is_of c = comes_as c.pass_object.result _ _ _ _ (passes _ _ _ (sym c.is_of.ensures ∙ c.if-is_of.true)) c.pass_object.ensures

pub returns-else-is_of : goal.returns-else-is_of
returns-else-is_of c = comes_as c.illegal.result _ _ _ _ (fails _ _ _ (sym c.is_of.ensures ∙ c.if-is_of.false)) c.illegal.ensures
