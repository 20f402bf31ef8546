use Rattle.std.proofs.Common.{◌≡◌, List, [], length, map, string_bytes, drop}
use Rattle.std.specs.List.{AllByRecursion}
use Rattle.vx_plans.specs.KeepsFiles.{KeepsFiles}
use Rattle.vx_plans.specs.Plan.{Plan, Leads}
use Rattle.vx_report.specs.declared.report.Report.{Report}
use Rattle.vx_report_reader.specs.Lawful.{IsLawful}
use Rattle.vx_inputs.specs.Reports.{read_reports}
use Rattle.vx_inputs.proofs.reports.read_report_files.Given as goal

-- the reports so far lead to those that are left
abbrev pub invariant-loop-path : goal.invariant-loop-path
invariant-loop-path g l = let seen = g.F.Files.seen in record {
  leads : (next : List Report → Plan) → Leads (seen l.fn.files).held (read_reports next [] (map string_bytes l.paths)) (read_reports next l.found.items (map string_bytes (drop l.path-index l.paths)));
  keeps : KeepsFiles (seen l.fn.files) (seen l.files);
  lawful : AllByRecursion IsLawful l.found.items;
  count : length l.found.items ≡ l.path-index;
}
