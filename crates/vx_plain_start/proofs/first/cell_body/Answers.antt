use Rattle.std.proofs.Common.{[], ap, ◌++◌, ◌∙◌, ◌∷◌}
use Rattle.vx_plain.specs.Views.{values_of}
use Rattle.vx_plain_tables.proofs.CellLaws.{plain_is}
use Rattle.vx_plain_start.proofs.first.cell_body.Goals as goal

pub returns : goal.returns
returns c =
    ap values_of (c.in_ok-push.ensures.items ∙ ap (λ cells. cells ++ c.in_ok-value.value ∷ []) c.new-cells.ensures.items)
    ∙ ap (λ value. value ∷ []) (plain_is c.args._texts.now.texts c.args.slot c.in_ok-value.value c.in_ok-value.ensures)
