-- The page of a report: the report's one text between a fixed front and a fixed back.
use Rattle.std.specs.Prelude.{ℕ, List, ◌++◌}
use Rattle.vx_report.specs.declared.report.Report.{Report}
use Rattle.vx_report.specs.Text.{report_text}
use Rattle.vx_page.specs.Back.{back}
use Rattle.vx_page.specs.Escapes.{escaped}
use Rattle.vx_page.specs.Front.{front}

unfoldable pub report_page : Report → List ℕ
report_page r = front ++ escaped (report_text r) ++ back
