-- The part of a plan that reads a report.
use Rattle.std.specs.Prelude.{ℕ, List, [], ◌∷◌, ◌++◌}
use Rattle.vx_report.specs.declared.report.Report.{Report}
use Rattle.vx_plans.specs.Plan.{Plan, As_report}
use Rattle.vx_plans.specs.Sized.{read_sized}

-- the room for a report
abbrev pub most_report_bytes : ℕ
most_report_bytes = 268435456

-- reads the report of a file, and goes on with it
abbrev pub read_report : List ℕ → (Report → Plan) → Plan
read_report path next = read_sized most_report_bytes path path (λ bytes. As_report bytes next)

-- reads the reports of files, one after another, and goes on with them behind those before
abbrev pub read_reports : (List Report → Plan) → List Report → List (List ℕ) → Plan
read_reports next front [] = next front
read_reports next front (path ∷ paths) = read_report path (λ report. read_reports next (front ++ report ∷ []) paths)
