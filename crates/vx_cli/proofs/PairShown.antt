-- What a plan over two reports gave shows in terms of the files.
use Rattle.std.proofs.Common.{◌≡◌, ◌≤◌, ◌<◌, ℕ, List, length, IfSome, Option, Some, None, Err, inl, inr, ◌⊎◌, refl, ap, sym, ◌∙◌, arith}
use Rattle.vx_io.specs.Call.{Reading}
use Rattle.vx_io.specs.Held.{Held, FilesState, contents}
use Rattle.vx_report.specs.declared.report.Report.{Report}
use Rattle.vx_plans.specs.declared.status.Status.{Status}
use Rattle.vx_plans.specs.declared.status.Status.TheVariants.{ReadFault, BadReport, TooLarge, Unlike}
use Rattle.vx_cli.specs.Causes.{AreUnlike, HasCause, HasReport, IsBadAt, IsReportIn, PairCause, Shows}
use Rattle.vx_cli.specs.Command.{Command}
use Rattle.vx_plans.specs.Plan.{MayGive, Outcome, Plan, unless}
use Rattle.vx_inputs.specs.Reports.{most_report_bytes, read_report}
use Rattle.vx_cli.proofs.ReportTold.{ReportShows, not_bad, report_shows}
use Rattle.vx_plans.proofs.Told.{told_both, told_map, unless_cases}

-- the plan of a command that reads two reports, may refuse both together, and then says something of them
abbrev pub pair_plan : (refused : Report → Report → Option Status) → (say : Report → Report → Plan) → List ℕ → List ℕ → Plan
pair_plan refused say path other = read_report path (λ r. read_report other (λ s. unless (refused r s) (say r s)))

-- what is said of two reports of files, which aren't refused, is shown
abbrev pub SaidShows : FilesState → FilesState → (refused : Report → Report → Option Status) → (say : Report → Report → Plan) → Command → List ℕ → List ℕ → Outcome → Type 0
SaidShows old new refused say command path other outcome =
    (r s : Report) → IfSome old.held (λ held. IsReportIn held path r) → IfSome old.held (λ held. IsReportIn held other s) → refused r s ≡ None → MayGive old.held old.faults new.faults (say r s) outcome → Shows old new command outcome

-- whatever such a plan gave is shown by the files
pub pair_shows : (old new : FilesState) (refused : Report → Report → Option Status) (say : Report → Report → Plan) (command : Command) (path other : List ℕ) (outcome : Outcome)
    → ((r s : Report) (status : Status) → refused r s ≡ Some status → status ≡ Unlike)
    → ((status : Status) → PairCause refused old new path other status → HasCause old new command status)
    → SaidShows old new refused say command path other outcome
    → MayGive old.held old.faults new.faults (pair_plan refused say path other) outcome → Shows old new command outcome
pair_shows old new refused say command path other outcome alone cause_of shows g = by_file (report_shows old new path (λ r. read_report other (λ s. unless (refused r s) (say r s))) outcome g)
  where
    refusal : (status : Status) → outcome ≡ Err status → PairCause refused old new path other status → Shows old new command outcome
    refusal status e cause = rw e (cause_of status cause)

    by_both : (r s : Report) → IfSome old.held (λ held. IsReportIn held path r) → IfSome old.held (λ held. IsReportIn held other s)
        → ((status : Status) × (refused r s ≡ Some status) × (outcome ≡ Err status)) ⊎ ((refused r s ≡ None) × MayGive old.held old.faults new.faults (say r s) outcome)
        → Shows old new command outcome
    by_both r s told also (inl bad) =
        let is = alone r s bad.0 bad.1 in
        refusal Unlike (bad.2 ∙ ap Err is) (told_both old.held _ _ _ (λ held h k. record { report = r; is_report = h; against = s; is_other = k; differ = bad.1 ∙ ap Some is }) told also)
    by_both r s told also (inr good) = shows r s told also good.0 good.1

    by_other : (r : Report) → IfSome old.held (λ held. IsReportIn held path r) → ReportShows old new other (λ s. unless (refused r s) (say r s)) outcome → Shows old new command outcome
    by_other r told (inl fault) = refusal (ReadFault other) fault.1 (inr (refl, fault.0, told_map old.held _ _ (λ held h. (r, h)) told))
    by_other r told (inr (inl large)) = refusal (TooLarge other most_report_bytes) large.1 (inr (refl, refl, told_both old.held _ _ _ (λ held h k. ((r, h), k)) told large.0))
    by_other r told (inr (inr (inl bad))) = refusal (BadReport bad.0) bad.2 (inr (told_both old.held _ _ _ (λ held h k. ((r, h), k)) told bad.1))
    by_other r told (inr (inr (inr read))) = by_both r read.0 told read.1 (unless_cases old.held old.faults new.faults (refused r read.0) (say r read.0) outcome read.2)

    by_file : ReportShows old new path (λ r. read_report other (λ s. unless (refused r s) (say r s))) outcome → Shows old new command outcome
    by_file (inl fault) = refusal (ReadFault path) fault.1 (inl (refl, fault.0))
    by_file (inr (inl large)) = refusal (TooLarge path most_report_bytes) large.1 (inl (refl, refl, large.0))
    by_file (inr (inr (inl bad))) = refusal (BadReport bad.0) bad.2 (inl bad.1)
    by_file (inr (inr (inr read))) = by_other read.0 read.1 (report_shows old new other (λ s. unless (refused read.0 s) (say read.0 s)) outcome read.2)

-- two files spell reports that aren't refused, and can be read
pub record IsPair (refused : Report → Report → Option Status) (held : Held) (old new : FilesState) (path other : List ℕ) : Type 0 where
  pub told : old.held ≡ Some held
  pub report : HasReport held path
  pub against : HasReport held other
  pub passes : (r s : Report) → IsReportIn held path r → IsReportIn held other s → refused r s ≡ None
  pub reads : new.faults (Reading path) ≤ old.faults (Reading path)
  pub reads_other : new.faults (Reading other) ≤ old.faults (Reading other)

-- then there is no cause of a refusal
pub no_pair_cause : (refused : Report → Report → Option Status) (held : Held) (old new : FilesState) (path other : List ℕ) (status : Status) → IsPair refused held old new path other → PairCause refused old new path other status → ⊥
no_pair_cause refused held old new path other status pair cause = by status cause
  where
    here : (P : Held → Type 0) → IfSome old.held P → P held
    here P h = rw pair.told at h

    by : (s : Status) → PairCause refused old new path other s → ⊥
    by (ReadFault p) (inl h) = omega (arith, h.1, pair.reads)
    by (ReadFault p) (inr h) = omega (arith, h.1, pair.reads_other)
    by (TooLarge p room) (inl h) = let k = here (λ held. most_report_bytes < length (contents held path)) h.2 in omega (arith, k, pair.report.1.fits)
    by (TooLarge p room) (inr h) = let k = here (λ held. HasReport held path × (most_report_bytes < length (contents held other))) h.2 in omega (arith, k.1, pair.against.1.fits)
    by (BadReport line) (inl h) = not_bad held path line pair.report.0 pair.report.1 (here (λ held. IsBadAt held path line) h)
    by (BadReport line) (inr h) = let k = here (λ held. HasReport held path × IsBadAt held other line) h in not_bad held other line pair.against.0 pair.against.1 k.1
    by Unlike h =
        let k = here (λ held. AreUnlike refused held path other) h in
        let clash : None ≡ Some Unlike = sym (pair.passes k.report k.against k.is_report k.is_other) ∙ k.differ in
        cc (clash)
    by s h = h
