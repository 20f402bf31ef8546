-- What `agree` made of two reports, in terms of its plan.
use Rattle.std.proofs.Common.{◌≡◌, ℕ, List, Some, Result, Ok, Err, inl, inr, refl, ◌⊎◌, IfOk, IfErr, MatchResult, Vec, Global}
use Rattle.vx_io.specs.Held.{FilesState}
use Rattle.vx_plans.specs.declared.status.Status.{Status}
use Rattle.vx_plans.specs.declared.status.Status.TheVariants.{NoMemory}
use Rattle.vx_plans.specs.Plan.{Plan, Write, Leads, MayGive, MayStop, done_with}
use Rattle.vx_plans.specs.Job.{Agreement}
use Rattle.vx_report.specs.declared.report.Report.{Report}
use Rattle.vx_report_commands.specs.Agree.{GivesAgreement, agree_plan, agree_reports, unlike}
use Rattle.vx_plans.specs.KeepsFiles.{KeepsFiles}
use Rattle.vx_inputs.specs.Reports.{read_report}
use Rattle.vx_plans.proofs.Plans.{goes_on, refuses, then_leads, stops_behind, no_memory, stops_for, keeps_then}

-- a plan that compares two reports, or refuses where their options differ
pub agree_ok : (old mid new : FilesState) (path other : List ℕ) (r s : Report) (made : Result (Vec ℕ Global) Status) → KeepsFiles old mid → ((next : Report → Plan) → Leads old.held (read_report path next) (next r)) → ((next : Report → Plan) → Leads mid.held (read_report other next) (next s))
    → MatchResult made (λ text. GivesAgreement r s text.items) (λ status. (status ≡ NoMemory) ⊎ (unlike r s ≡ Some status))
    → IfOk made (λ text. MayGive old.held old.faults new.faults (agree_plan path other) (done_with text.items))
agree_ok old mid new path other r s (Err status) keeps first second gives = tt
agree_ok old mid new path other r s (Ok text) keeps first second gives =
    let there = then_leads (first (λ report. read_report other (agree_reports report))) (rw keeps.held at (second (agree_reports r))) in
    (then_leads there (goes_on old.held (unlike r s) (Write (Agreement r s)) gives.alike)).to old.faults new.faults (done_with text.items) (text.items, gives.shows, refl)

pub agree_err : (old mid new : FilesState) (path other : List ℕ) (r s : Report) (made : Result (Vec ℕ Global) Status) → KeepsFiles old mid → KeepsFiles mid new → ((next : Report → Plan) → Leads old.held (read_report path next) (next r)) → ((next : Report → Plan) → Leads mid.held (read_report other next) (next s))
    → MatchResult made (λ text. GivesAgreement r s text.items) (λ status. (status ≡ NoMemory) ⊎ (unlike r s ≡ Some status))
    → IfErr made (λ status. MayStop old new (agree_plan path other) status)
agree_err old mid new path other r s (Ok text) before keeps first second gives = tt
agree_err old mid new path other r s (Err status) before keeps first second gives = by_cause gives
  where
    there : Leads old.held (agree_plan path other) (agree_reports r s)
    there = then_leads (first (λ report. read_report other (agree_reports report))) (rw before.held at (second (agree_reports r)))

    by_cause : (status ≡ NoMemory) ⊎ (unlike r s ≡ Some status) → MayStop old new (agree_plan path other) status
    by_cause (inl e) = no_memory old new _ status e
    by_cause (inr e) = stops_behind old new new (agree_plan path other) (agree_reports r s) status (keeps_then before keeps) there (stops_for new new (unlike r s) (Write (Agreement r s)) status e)
