use Rattle.std.proofs.Common.{◌≡◌, [], ◌∷◌, length, subst, sym}
use Rattle.std.specs.Prelude.{IfOk}
use Rattle.vx_initial_heap.specs.First.{value_in}
use Rattle.vx_plain.specs.Views.{cells_of}
use Rattle.vx_plain_start.proofs.Laws.{text_known}
use Rattle.vx_plain_start.proofs.first.body_with.Goals as goal

pub text_body-requires : goal.text_body-requires
text_body-requires c = text_known (length c.args.texts.now.texts) c.in-Text.text c.args.slot c.in-Text.is c.requires

pub returns-in-Text : goal.returns-in-Text
returns-in-Text c = subst (λ slot. IfOk c.text_body.result (λ body. cells_of body ≡ value_in c.args.texts.now.texts slot ∷ [])) (sym c.in-Text.is) c.text_body.ensures
