use Rattle.std.proofs.Common.{◌∙◌}
use Rattle.std.specs.Str.{bytes_eq}
use Rattle.vx_report.specs.Projection.{output_at}
use Rattle.vx_compare.proofs.FirstLines.{marked_equal}
use Rattle.vx_compare.proofs.lines.is_same_output.Goals as goal

pub returns : goal.returns
returns c =
    let one = c.as_slice.ensures.value ∙ c.in_ok-printed.ensures in
    let other = c.as_slice-2.ensures.value ∙ c.in_ok-against.ensures in
    c.eq.ensures ∙ (λ i. bytes_eq (one i) (other i)) ∙ marked_equal (output_at c.args.one.now c.args.c.now) (output_at c.args.other.now c.args.c.now)
