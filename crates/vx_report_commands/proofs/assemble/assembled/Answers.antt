use Rattle.std.proofs.Common.{◌∙◌, ap, sym, inr, Ok}
use Rattle.vx_report_commands.specs.Assemble.{or_bad_source}
use Rattle.vx_report_commands.proofs.assemble.assembled.Goals as goal

pub returns-in-Ok : goal.returns-in-Ok
returns-in-Ok c = ap or_bad_source c.in-Ok.ensures.written.1 ∙ ap Ok (sym c.in-Ok.ensures.written.2)

pub returns-in-Err-Line : goal.returns-in-Err-Line
returns-in-Err-Line c = inr (ap or_bad_source (rw c.in-Err-Line.field-0-is at c.in-Err-Line.ensures.refused))
