use Rattle.std.proofs.Common.{sym, ◌∙◌, ap, ◌++◌}
use Rattle.vx_report.specs.Projection.{attempts_line}
use Rattle.vx_report.proofs.Output.{projected}
use Rattle.vx_report.proofs.projection.project_text.Goals as goal

pub returns : goal.returns
returns c = projected c.args.report.now c.args.c.now c.in-Some.end.now c.new-out.result.items c.put_output.new.out.items c.put_end_part.new.out.items c.put_attempts_part.new.out.items
    c.new-out.ensures.items (sym c.in-Some.ensures) c.in_ok-put_output.ensures c.in_ok-put_end_part.ensures
    (c.in_ok-put_attempts_part.ensures ∙ ap (λ n. c.put_end_part.new.out.items ++ attempts_line n) c.attempts_of.ensures)
