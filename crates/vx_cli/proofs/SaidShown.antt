-- What a plan that says something of a report gave shows in terms of the files.
use Rattle.std.proofs.Common.{◌≡◌, ◌≤◌, ◌<◌, ℕ, List, length, IfSome, Some, Result, Ok, Err, inl, inr, ◌⊎◌, refl, ap, sym, ◌∙◌, arith}
use Rattle.vx_io.specs.Call.{Reading}
use Rattle.vx_io.specs.Held.{Held, FilesState, contents}
use Rattle.vx_report.specs.declared.report.Report.{Report}
use Rattle.vx_plans.specs.declared.status.Status.{Status}
use Rattle.vx_plans.specs.declared.status.Status.TheVariants.{Done, ReadFault, BadReport, NotAllowed, TooLarge}
use Rattle.vx_cli.specs.Causes.{CanSay, IsBadAt, IsReportIn, IsSaidOf, SayCause}
use Rattle.vx_plans.specs.Job.{Exactly}
use Rattle.vx_plans.specs.Plan.{MayGive, Plan, Write, Outcome, attempt}
use Rattle.vx_inputs.specs.Reports.{most_report_bytes, read_report}
use Rattle.vx_cli.proofs.ReportTold.{ReportShows, not_bad, report_shows}
use Rattle.vx_plans.proofs.Told.{told_map, attempt_cases, ok_and_err}

-- writes what is said of a report
abbrev pub say_report : (Report → Result (List ℕ) Status) → Report → Plan
say_report said report = attempt (said report) (λ text. Write (Exactly text))

-- what is said, or the cause of a refusal
abbrev pub SaidShows : (Report → Result (List ℕ) Status) → FilesState → FilesState → List ℕ → Outcome → Type 0
SaidShows said old new path (Ok text) = (text.1 ≡ Done) × IfSome old.held (λ held. IsSaidOf said held path text.0)
SaidShows said old new path (Err status) = SayCause said old new path status

-- nothing else is refused than what isn't allowed
abbrev pub RefusesNotAllowed : (Report → Result (List ℕ) Status) → Type 0
RefusesNotAllowed said = (report : Report) (status : Status) → said report ≡ Err status → status ≡ NotAllowed

-- whatever the plan gave is shown by the files
pub said_shows : (said : Report → Result (List ℕ) Status) → RefusesNotAllowed said → (old new : FilesState) (path : List ℕ) (outcome : Outcome) → MayGive old.held old.faults new.faults (read_report path (say_report said)) outcome → SaidShows said old new path outcome
said_shows said alone old new path outcome g = by_file (report_shows old new path (say_report said) outcome g)
  where
    refused : (status : Status) → outcome ≡ Err status → SayCause said old new path status → SaidShows said old new path outcome
    refused status e cause = rw e cause

    by_text : (report : Report) → IfSome old.held (λ held. IsReportIn held path report)
        → ((status : Status) × (said report ≡ Err status) × (outcome ≡ Err status)) ⊎ ((text : List ℕ) × (said report ≡ Ok text) × MayGive old.held old.faults new.faults (Write (Exactly text)) outcome)
        → SaidShows said old new path outcome
    by_text report told (inl bad) =
        let is = alone report bad.0 bad.1 in
        refused NotAllowed (bad.2 ∙ ap Err is) (told_map old.held _ _ (λ held h. (report, h, bad.1 ∙ ap Err is)) told)
    by_text report told (inr good) =
        rw good.2.2 (refl, told_map old.held _ _ (λ held h. record { report = report; is_report = h; is_text = good.1 ∙ ap Ok (sym good.2.1) }) told)

    by_file : ReportShows old new path (say_report said) outcome → SaidShows said old new path outcome
    by_file (inl fault) = refused (ReadFault path) fault.1 (refl, fault.0)
    by_file (inr (inl large)) = refused (TooLarge path most_report_bytes) large.1 (refl, refl, large.0)
    by_file (inr (inr (inl bad))) = refused (BadReport bad.0) bad.2 bad.1
    by_file (inr (inr (inr read))) = by_text read.0 read.1 (attempt_cases old.held old.faults new.faults (said read.0) _ outcome read.2)

-- nothing refuses a good report, where nothing fails
pub no_say_cause : (said : Report → Result (List ℕ) Status) (old new : FilesState) (path : List ℕ) (held : Held) (status : Status) → old.held ≡ Some held → CanSay said held path → new.faults (Reading path) ≤ old.faults (Reading path)
    → SayCause said old new path status → ⊥
no_say_cause said old new path held status told good fails cause = by_status status cause
  where
    here : (P : Held → Type 0) → IfSome old.held P → P held
    here P h = rw told at h

    allowed : (r : Report) × IsReportIn held path r × (said r ≡ Err NotAllowed) → ⊥
    allowed h = let text = good.1 h.0 h.1 in ok_and_err text.0 NotAllowed (said h.0) text.1 h.2

    by_status : (s : Status) → SayCause said old new path s → ⊥
    by_status (ReadFault p) h = omega (arith, h.1, fails)
    by_status (TooLarge p room) h = let k = here (λ held. most_report_bytes < length (contents held path)) h.2 in omega (arith, k, good.0.1.fits)
    by_status (BadReport line) h = not_bad held path line good.0.0 good.0.1 (here (λ held. IsBadAt held path line) h)
    by_status NotAllowed h = allowed (here (λ held. (r : Report) × IsReportIn held path r × (said r ≡ Err NotAllowed)) h)
    by_status s h = h
