use Rattle.std.proofs.Common.{◌∙◌, ap, map, sym, take}
use Rattle.std.specs.Prelude.{max}
use Rattle.vx_report.specs.declared.report.EndLine.{EndLine}
use Rattle.vx_picture.specs.Pictures.{greatest}
use Rattle.vx_picture.proofs.Numbered.{greatest-more}
use Rattle.vx_picture.proofs.drawing.greatest_end.Goals as goal

pub loop-line-preserved : goal.loop-line-preserved
loop-line-preserved c =
    c.max-last.ensures
    ∙ ap (λ n. max n c.line-item.result.node) c.loop-line.invariant
    ∙ ap (λ (x : EndLine). max (greatest c.args.number (map (λ (y : EndLine). y.node) (take c.loop-line.line-index c.args.ends.now))) x.node) c.line-item.is
    ∙ sym (greatest-more (λ (y : EndLine). y.node) c.args.number c.args.ends.now c.loop-line.line-index c.line-item.result c.loop-line-test.true)
