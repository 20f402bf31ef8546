use Rattle.std.proofs.Common.{sym, ◌∙◌}
use Rattle.vx_asm.proofs.Walks.{row_given}
use Rattle.vx_asm.proofs.bodies.catch_line.Goals as goal

pub returns : goal.returns
returns c = row_given _ _ _ _ (sym c.are_known.ensures ∙ c.if-not-are_known.false) (sym c.is_lawful_row.ensures ∙ c.if-not-is_lawful_row.false) c.in_ok-push_row.ensures
