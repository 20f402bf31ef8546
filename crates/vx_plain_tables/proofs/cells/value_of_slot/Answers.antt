use Rattle.std.proofs.Common.{sym, ◌∙◌}
use Rattle.std.proofs.lemmas.Result.{IfOk-weaker}
use Rattle.vx_plain_tables.proofs.cells.value_of_slot.Goals as goal

pub returns : goal.returns
returns c = IfOk-weaker c.held.result _ _ (λ value is. sym is ∙ c.value_in.ensures) c.held.ensures.value
