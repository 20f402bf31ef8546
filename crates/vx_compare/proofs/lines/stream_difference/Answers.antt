use Rattle.std.proofs.Common.{◌∙◌}
use Rattle.std.proofs.lemmas.Result.{IfOk-weaker}
use Rattle.vx_compare.specs.Lines.{line_difference, lines_of}
use Rattle.vx_compare.proofs.lines.stream_difference.Goals as goal

pub returns : goal.returns
returns c =
    let text = c.as_slice.ensures.value ∙ c.in_ok-text.ensures in
    let against = c.as_slice-2.ensures.value ∙ c.in_ok-against.ensures in
    IfOk-weaker c.line_difference.result _ _ (λ d h. h ∙ (λ i. line_difference c.args.stream 1 (lines_of (text i)) (lines_of (against i)))) c.line_difference.ensures
