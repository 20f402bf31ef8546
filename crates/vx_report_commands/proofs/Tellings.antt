-- What is told of a report, in terms of the plan.
use Rattle.std.proofs.Common.{◌≡◌, ℕ, Bool, true, false, List, Result, Ok, Err, inl, inr, refl, ap, sym, ◌∙◌, ◌⊎◌, IfOk, IfErr, MatchResult, Vec, Global}
use Rattle.std.specs.Prelude.{Option, Some, None, if◌then◌else◌}
use Rattle.vx_io.specs.Held.{FilesState}
use Rattle.vx_people.specs.Tellings.{is_told}
use Rattle.vx_people.specs.declared.telling.Telling.{Telling}
use Rattle.vx_report.specs.declared.report.Report.{Report}
use Rattle.vx_inputs.specs.Reports.{read_report}
use Rattle.vx_plans.specs.Job.{Told}
use Rattle.vx_plans.specs.KeepsFiles.{KeepsFiles}
use Rattle.vx_plans.specs.Plan.{Plan, Write, Leads, MayGive, MayStop, done_with}
use Rattle.vx_plans.specs.declared.status.Status.{Status}
use Rattle.vx_plans.specs.declared.status.Status.TheVariants.{NoMemory, NotAllowed}
use Rattle.vx_plans.proofs.Plans.{goes_on, no_memory, stops_behind, stops_for, then_leads}
use Rattle.vx_report_commands.specs.Tell.{GivesTelling, tell_plan, tell_report, untold}

abbrev refused_unless : Bool → Option Status
refused_unless b = if b then None else Some NotAllowed

pub is_there : (telling : Telling) (report : Report) → (is_told telling report ≡ false → ⊥) → untold telling report ≡ None
is_there telling report h = by (is_told telling report) h
  where
    by : (b : Bool) → (b ≡ false → ⊥) → refused_unless b ≡ None
    by true h = refl
    by false h = absurd (h refl)

pub is_not_there : (telling : Telling) (report : Report) → is_told telling report ≡ false → untold telling report ≡ Some NotAllowed
is_not_there telling report e = ap refused_unless e

-- only as not allowed is something not told
pub untold_alone : (telling : Telling) (report : Report) (status : Status) → untold telling report ≡ Some status → status ≡ NotAllowed
untold_alone telling report status e = by (is_told telling report) e
  where
    by : (b : Bool) → refused_unless b ≡ Some status → status ≡ NotAllowed
    by true e = cc (e)
    by false e = cc (e)

pub not_both : (telling : Telling) (report : Report) (status : Status) → untold telling report ≡ None → untold telling report ≡ Some status → ⊥
not_both telling report status e f = let clash : None ≡ Some status = sym e ∙ f in cc (clash)

pub tell_ok : (old new : FilesState) (telling : Telling) (path : List ℕ) (report : Report) (made : Result (Vec ℕ Global) Status) → ((next : Report → Plan) → Leads old.held (read_report path next) (next report))
    → MatchResult made (λ text. GivesTelling telling report text.items) (λ status. (status ≡ NoMemory) ⊎ (untold telling report ≡ Some status))
    → IfOk made (λ text. MayGive old.held old.faults new.faults (tell_plan telling path) (done_with text.items))
tell_ok old new telling path report (Err status) read gives = tt
tell_ok old new telling path report (Ok text) read gives =
    (then_leads (read (tell_report telling)) (goes_on old.held (untold telling report) (Write (Told telling report)) gives.is_there)).to old.faults new.faults (done_with text.items) (text.items, gives.shows, refl)

pub tell_err : (old new : FilesState) (telling : Telling) (path : List ℕ) (report : Report) (made : Result (Vec ℕ Global) Status) → KeepsFiles old new → ((next : Report → Plan) → Leads old.held (read_report path next) (next report))
    → MatchResult made (λ text. GivesTelling telling report text.items) (λ status. (status ≡ NoMemory) ⊎ (untold telling report ≡ Some status))
    → IfErr made (λ status. MayStop old new (tell_plan telling path) status)
tell_err old new telling path report (Ok text) keeps read gives = tt
tell_err old new telling path report (Err status) keeps read gives = by_cause gives
  where
    by_cause : (status ≡ NoMemory) ⊎ (untold telling report ≡ Some status) → MayStop old new (tell_plan telling path) status
    by_cause (inl e) = no_memory old new _ status e
    by_cause (inr e) = stops_behind old new new (tell_plan telling path) (tell_report telling report) status keeps (read (tell_report telling)) (stops_for new new (untold telling report) (Write (Told telling report)) status e)
