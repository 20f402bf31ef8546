use Rattle.std.proofs.Common.{◌≡◌, ap, length, subst, sym, ◌∙◌}
use Rattle.std.specs.Prelude.{IfOk}
use Rattle.vx_initial_heap.specs.First.{cells_in, is_cell_among}
use Rattle.vx_plain.specs.Views.{cells_of}
use Rattle.vx_plain_start.proofs.first.body_of.Goals as goal

pub body_with-requires : goal.body_with-requires
body_with-requires c = ap (is_cell_among (length c.args.texts.now.texts)) (sym c.in-Some.is) ∙ c.requires

pub returns-in-Some : goal.returns-in-Some
returns-in-Some c = subst (λ cell. IfOk c.body_with.result (λ body. cells_of body ≡ cells_in c.args.texts.now.texts cell)) (sym c.in-Some.is) c.body_with.ensures
