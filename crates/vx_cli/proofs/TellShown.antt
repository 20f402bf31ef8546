-- What the plan of a command that tells of a report gave shows in terms of the files.
use Rattle.std.proofs.Common.{◌≡◌, ◌<◌, ℕ, List, length, IfSome, None, Some, Err, inl, inr, ◌⊎◌, refl, ap, ◌∙◌, arith}
use Rattle.vx_io.specs.Held.{Held, FilesState, contents}
use Rattle.vx_io.specs.Sink.{SinkState}
use Rattle.vx_report.specs.declared.report.Report.{Report}
use Rattle.vx_plans.specs.declared.status.Status.{Status}
use Rattle.vx_plans.specs.declared.status.Status.TheVariants.{Done, NoMemory, ReadFault, WriteFault, BadReport, NotAllowed, TooLarge}
use Rattle.vx_cli.specs.Causes.{TellCause, IsBadAt, IsReportIn, Shows, IsShown, IsGood, NothingFails}
use Rattle.vx_cli.specs.Command.{Tell}
use Rattle.vx_plans.specs.Job.{Told}
use Rattle.vx_plans.specs.Plan.{MayGive, Write, Outcome}
use Rattle.vx_inputs.specs.Reports.{most_report_bytes}
use Rattle.vx_report_commands.specs.Tell.{tell_plan, tell_report, untold}
use Rattle.vx_people.specs.declared.telling.Telling.{Telling}
use Rattle.vx_cli.proofs.ReportTold.{ReportShows, not_bad, report_shows}
use Rattle.vx_plans.proofs.Told.{told_map, unless_cases}
use Rattle.vx_report_commands.proofs.Tellings.{not_both, untold_alone}

-- whatever the plan gave is shown by the files
pub tell_shows : (old new : FilesState) (telling : Telling) (path : List ℕ) (outcome : Outcome) → MayGive old.held old.faults new.faults (tell_plan telling path) outcome → Shows old new (Tell telling path) outcome
tell_shows old new telling path outcome g = by_file (report_shows old new path (tell_report telling) outcome g)
  where
    refused : (status : Status) → outcome ≡ Err status → TellCause old new telling path status → Shows old new (Tell telling path) outcome
    refused status e cause = rw e cause

    by_text : (report : Report) → IfSome old.held (λ held. IsReportIn held path report)
        → ((status : Status) × (untold telling report ≡ Some status) × (outcome ≡ Err status)) ⊎ ((untold telling report ≡ None) × MayGive old.held old.faults new.faults (Write (Told telling report)) outcome)
        → Shows old new (Tell telling path) outcome
    by_text report told (inl bad) =
        let is = untold_alone telling report bad.0 bad.1 in
        refused NotAllowed (bad.2 ∙ ap Err is) (told_map old.held _ _ (λ held h. (report, h, bad.1 ∙ ap Some is)) told)
    by_text report told (inr good) =
        let made = good.1 in
        rw made.2 (inl (refl, told_map old.held _ _ (λ held h. record { report = report; is_report = h; is_there = good.0; is_text = made.1 }) told))

    by_file : ReportShows old new path (tell_report telling) outcome → Shows old new (Tell telling path) outcome
    by_file (inl fault) = refused (ReadFault path) fault.1 (refl, fault.0)
    by_file (inr (inl large)) = refused (TooLarge path most_report_bytes) large.1 (refl, refl, large.0)
    by_file (inr (inr (inl bad))) = refused (BadReport bad.0) bad.2 bad.1
    by_file (inr (inr (inr read))) = by_text read.0 read.1 (unless_cases old.held old.faults new.faults (untold telling read.0) (Write (Told telling read.0)) outcome read.2)

-- what is told of a good report, where nothing fails, is done
pub tell_completes : (old new : FilesState) (out out' : SinkState) (telling : Telling) (path : List ℕ) (held : Held) (status : Status) → old.held ≡ Some held → IsGood held (Tell telling path) → NothingFails held old new out out' (Tell telling path)
    → IsShown old new out out' (Tell telling path) status → (status ≡ Done) ⊎ (status ≡ NoMemory)
tell_completes old new out out' telling path held status told good fails shown = by_status status shown
  where
    here : (P : Held → Type 0) → IfSome old.held P → P held
    here P h = rw told at h

    there : (r : Report) × IsReportIn held path r × (untold telling r ≡ Some NotAllowed) → ⊥
    there h = not_both telling h.0 NotAllowed (good.1 h.0 h.1) h.2

    by_status : (s : Status) → IsShown old new out out' (Tell telling path) s → (s ≡ Done) ⊎ (s ≡ NoMemory)
    by_status Done h = inl refl
    by_status NoMemory h = inr refl
    by_status WriteFault h = absurd (fails.1 h.0)
    by_status (ReadFault p) h = absurd (omega (arith, h.0.1, fails.0))
    by_status (TooLarge p room) h = let k = here (λ held. most_report_bytes < length (contents held path)) h.0.2 in absurd (omega (arith, k, good.0.1.fits))
    by_status (BadReport line) h = absurd (not_bad held path line good.0.0 good.0.1 (here (λ held. IsBadAt held path line) h.0))
    by_status NotAllowed h = absurd (there (here (λ held. (r : Report) × IsReportIn held path r × (untold telling r ≡ Some NotAllowed)) h.0))
    by_status s h = absurd h.0
