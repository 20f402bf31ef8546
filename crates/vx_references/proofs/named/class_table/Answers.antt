use Rattle.std.proofs.Common.{ap, ◌++◌, ◌∷◌, [], ◌∙◌}
use Rattle.vx_references.proofs.Tables.{row_more}
use Rattle.vx_references.proofs.named.class_table.Goals as goal

pub loop-class-preserved : goal.loop-class-preserved
loop-class-preserved c =
    row_more _ _ _ c.class-item.result _ _ c.loop-class-test.true c.class-item.is c.loop-class.invariant (c.in_ok-push.ensures.items ∙ ap (λ row. c.loop-class.table.items ++ row ∷ []) c.in_ok-row_of.ensures)
