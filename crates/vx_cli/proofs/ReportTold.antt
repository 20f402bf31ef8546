-- What plans that read a report gave, in terms of the files.
use Rattle.std.proofs.Common.{◌≡◌, ◌≤◌, ◌<◌, ℕ, List, length, IfSome, Err, inl, inr, ◌⊎◌, subst}
use Rattle.vx_io.specs.Call.{Reading}
use Rattle.vx_io.specs.Held.{Held, FilesState, contents}
use Rattle.vx_report.specs.declared.report.Report.{Report}
use Rattle.vx_report_reader.specs.Rules.{ReportText}
use Rattle.vx_plans.specs.declared.status.Status.TheVariants.{ReadFault, BadReport, TooLarge}
use Rattle.vx_cli.specs.Causes.{IsBadAt, IsReportIn}
use Rattle.vx_plans.specs.Plan.{Plan, MayGive, As_report, IsBadReport, Outcome}
use Rattle.vx_inputs.specs.Reports.{most_report_bytes, read_report}
use Rattle.vx_plans.proofs.Told.{told_map, IsText, SizedShows, sized_shows}

-- a read fault, a size, a bad line, or a report with what was made of it
abbrev pub ReportShows : FilesState → FilesState → List ℕ → (Report → Plan) → Outcome → Type 0
ReportShows old new path next outcome =
    ((old.faults (Reading path) < new.faults (Reading path)) × (outcome ≡ Err (ReadFault path)))
    ⊎ (IfSome old.held (λ held. most_report_bytes < length (contents held path)) × (outcome ≡ Err (TooLarge path most_report_bytes)))
    ⊎ ((line : ℕ) × IfSome old.held (λ held. IsBadAt held path line) × (outcome ≡ Err (BadReport line)))
    ⊎ ((report : Report) × IfSome old.held (λ held. IsReportIn held path report) × MayGive old.held old.faults new.faults (next report) outcome)

pub report_shows : (old new : FilesState) (path : List ℕ) (next : Report → Plan) (outcome : Outcome) → MayGive old.held old.faults new.faults (read_report path next) outcome → ReportShows old new path next outcome
report_shows old new path next outcome g = by_file (sized_shows old new most_report_bytes path path (λ bytes. As_report bytes next) outcome g)
  where
    is_report : (bytes : List ℕ) (report : Report) (held : Held) → ReportText bytes report → (length (contents held path) ≤ most_report_bytes) × (bytes ≡ contents held path) → IsReportIn held path report
    is_report bytes report held spells h = record { fits = h.0; spells = (let P : List ℕ → Type 0 = λ b. ReportText b report in subst P h.1 spells) }

    is_bad : (bytes : List ℕ) (line : ℕ) (held : Held) → IsBadReport bytes line → (length (contents held path) ≤ most_report_bytes) × (bytes ≡ contents held path) → IsBadAt held path line
    is_bad bytes line held bad h = (h.0, (let P : List ℕ → Type 0 = λ b. IsBadReport b line in subst P h.1 bad))

    by_report : (bytes : List ℕ) → IsText old most_report_bytes path bytes → MayGive old.held old.faults new.faults (As_report bytes next) outcome → ReportShows old new path next outcome
    by_report bytes told (inl bad) = inr (inr (inl (bad.0, told_map old.held _ _ (λ held h. is_bad bytes bad.0 held bad.1 h) told, bad.2)))
    by_report bytes told (inr good) = inr (inr (inr (good.0, told_map old.held _ _ (λ held h. is_report bytes good.0 held good.1 h) told, good.2)))

    by_file : SizedShows old new most_report_bytes path path (λ bytes. As_report bytes next) outcome → ReportShows old new path next outcome
    by_file (inl (inl fault)) = inl fault
    by_file (inl (inr large)) = inr (inl large)
    by_file (inr read) = by_report read.0 read.1 read.3

-- what spells a report has no bad line
pub not_bad : (held : Held) (path : List ℕ) (line : ℕ) (report : Report) → IsReportIn held path report → IsBadAt held path line → ⊥
not_bad held path line report good bad = bad.1.none report good.spells
