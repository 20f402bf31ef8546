use Rattle.std.proofs.Common.{[], ap, ◌∙◌, ◌∷◌}
use Rattle.vx_java.specs.Machine.{Text}
use Rattle.vx_plain_start.proofs.first.text_body.Goals as goal

pub returns : goal.returns
returns c = c.of_text.ensures ∙ ap (λ units. Text units ∷ []) (c.in_ok-from_slice.ensures.items ∙ c.text.ensures)
