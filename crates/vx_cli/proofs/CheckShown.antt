-- What the plan of `check` gave shows in terms of the files.
use Rattle.std.proofs.Common.{◌≡◌, ◌≤◌, ◌<◌, ℕ, Bool, true, false, List, [], length, IfSome, Option, None, Some, Result, Ok, Err, inl, inr, ◌⊎◌, refl, ap, subst, sym, ◌∙◌, arith}
use Rattle.std.specs.Prelude.{nat_eq, if◌then◌else◌}
use Rattle.vx_check.specs.Expected.{expected_of}
use Rattle.vx_check.specs.Failing.{NoneFails, SomeFails, failing, fails}
use Rattle.vx_check.specs.declared.expected.Expectation.{Expectation}
use Rattle.vx_check.proofs.Numbers.{no_failing, some_failing}
use Rattle.vx_check_commands.specs.Check.{check_plan, check_report, expected_in, or_bad_expected, read_expected}
use Rattle.vx_io.specs.Call.{Reading}
use Rattle.vx_io.specs.Held.{Held, FilesState, contents}
use Rattle.vx_io.specs.Sink.{Gains, SinkState}
use Rattle.vx_model.specs.Text.{BadLine}
use Rattle.vx_report.specs.declared.report.Report.{Report}
use Rattle.vx_plans.specs.declared.status.Status.{Status}
use Rattle.vx_plans.specs.declared.status.Status.TheVariants.{BadExpected, BadReport, Differing, Done, Failing, NoMemory, ReadFault, TooLarge, WriteFault}
use Rattle.vx_cli.specs.Causes.{CheckCause, HasReport, IsBadAt, IsBadExpected, IsChecking, IsExpectedIn, IsFailed, IsFailing, IsGood, IsReportIn, IsShown, NoFileRose, NothingFails, Shows}
use Rattle.vx_cli.specs.Command.{Check}
use Rattle.vx_inputs.specs.Reports.{most_report_bytes}
use Rattle.vx_plans.specs.Job as product
use Rattle.vx_plans.specs.Job.{IsTextOf}
use Rattle.vx_plans.specs.Plan.{MayGive, Outcome, Plan, attempt}
use Rattle.vx_plans.specs.Sized.{most_bytes}
use Rattle.vx_plans.proofs.Told.{IsText, SizedShows, attempt_cases, same_value, sized_shows, told_both, told_map}
use Rattle.vx_cli.proofs.ReportTold.{ReportShows, not_bad, report_shows}

-- what is expected is refused by its first bad line alone
expected_refused : (r : Result (List Expectation) BadLine) (status : Status) → or_bad_expected r ≡ Err status → (line : ℕ) × (reason : ℕ) × (status ≡ BadExpected line reason)
expected_refused (Ok expected) status e = cc (e)
expected_refused (Err bad) status e = (bad.line, bad.reason, cc (e))

-- the text of a check is shown by the report and by what is expected of it
check_said : (old new : FilesState) (path : List ℕ) (file : Option (List ℕ)) (r : Report) (xs : List Expectation) (outcome : Outcome) → IfSome old.held (λ held. IsReportIn held path r) → IfSome old.held (λ held. IsExpectedIn held file r xs)
    → MayGive old.held old.faults new.faults (check_report r xs) outcome → Shows old new (Check path file) outcome
check_said old new path file r xs outcome told also g = rw g.2 (by (nat_eq (failing r xs) 0) refl)
  where
    checking : (held : Held) → IsReportIn held path r → IsExpectedIn held file r xs → IsChecking held path file g.0
    checking held h k = record { report = r; is_report = h; expected = xs; is_expected = k; is_text = g.1 }

    by : (t : Bool) → nat_eq (failing r xs) 0 ≡ t → Shows old new (Check path file) (Ok (g.0, (if t then Done else Failing)))
    by true e = inl (refl, told_both old.held _ _ _ (λ held h k. record { checking = checking held h k; none = no_failing r xs e }) told also)
    by false e = inr (refl, told_both old.held _ _ _ (λ held h k. record { checking = checking held h k; some = some_failing r xs e }) told also)

refused : (old new : FilesState) (path : List ℕ) (file : Option (List ℕ)) (outcome : Outcome) (status : Status) → outcome ≡ Err status → CheckCause old new path file status → Shows old new (Check path file) outcome
refused old new path file outcome status e cause = rw e cause

-- what is expected by a file
file_shows : (old new : FilesState) (path q : List ℕ) (r : Report) (outcome : Outcome) → IfSome old.held (λ held. IsReportIn held path r) → MayGive old.held old.faults new.faults (read_expected (Some q) r (check_report r)) outcome → Shows old new (Check path (Some q)) outcome
file_shows old new path q r outcome told g = by_file (sized_shows old new most_bytes q q (λ bytes. attempt (expected_in r bytes) (check_report r)) outcome g)
  where
    by_refusal : (bytes : List ℕ) (status : Status) → IsText old most_bytes q bytes → expected_in r bytes ≡ Err status → outcome ≡ Err status → (line : ℕ) × (reason : ℕ) × (status ≡ BadExpected line reason) → Shows old new (Check path (Some q)) outcome
    by_refusal bytes status text bad is n =
        refused old new path (Some q) outcome (BadExpected n.0 n.1) (is ∙ ap Err n.2) (q, refl, told_both old.held _ _ _ (λ held h k. record { report = r; is_report = h; fits = k.0; bad = ap (expected_in r) (sym k.1) ∙ bad ∙ ap Err n.2 }) told text)

    by_text : (bytes : List ℕ) → IsText old most_bytes q bytes
        → ((status : Status) × (expected_in r bytes ≡ Err status) × (outcome ≡ Err status)) ⊎ ((xs : List Expectation) × (expected_in r bytes ≡ Ok xs) × MayGive old.held old.faults new.faults (check_report r xs) outcome)
        → Shows old new (Check path (Some q)) outcome
    by_text bytes text (inl bad) = by_refusal bytes bad.0 text bad.1 bad.2 (expected_refused (expected_of r.options bytes) bad.0 bad.1)
    by_text bytes text (inr good) = check_said old new path (Some q) r good.0 outcome told (told_map old.held _ _ (λ held k. (k.0, ap (expected_in r) (sym k.1) ∙ good.1)) text) good.2

    by_file : SizedShows old new most_bytes q q (λ bytes. attempt (expected_in r bytes) (check_report r)) outcome → Shows old new (Check path (Some q)) outcome
    by_file (inl (inl fault)) = refused old new path (Some q) outcome (ReadFault q) fault.1 (inr (refl, fault.0, told_map old.held _ _ (λ held h. (r, h)) told))
    by_file (inl (inr large)) = refused old new path (Some q) outcome (TooLarge q most_bytes) large.1 (inr (refl, refl, told_both old.held _ _ _ (λ held h k. ((r, h), k)) told large.0))
    by_file (inr read) = by_text read.0 read.1 (attempt_cases old.held old.faults new.faults (expected_in r read.0) (check_report r) outcome read.3)

nothing : (o : Option Held) (r : Report) → IfSome o (λ held. IsExpectedIn held None r [])
nothing None r = tt
nothing (Some held) r = refl

expected_shows : (old new : FilesState) (path : List ℕ) (file : Option (List ℕ)) (r : Report) (outcome : Outcome) → IfSome old.held (λ held. IsReportIn held path r) → MayGive old.held old.faults new.faults (read_expected file r (check_report r)) outcome → Shows old new (Check path file) outcome
expected_shows old new path None r outcome told g = check_said old new path None r [] outcome told (nothing old.held r) g
expected_shows old new path (Some q) r outcome told g = file_shows old new path q r outcome told g

-- whatever the plan of `check` gave is shown by the files
pub check_shows : (old new : FilesState) (path : List ℕ) (file : Option (List ℕ)) (outcome : Outcome) → MayGive old.held old.faults new.faults (check_plan path file) outcome → Shows old new (Check path file) outcome
check_shows old new path file outcome g = by_file (report_shows old new path (λ r. read_expected file r (check_report r)) outcome g)
  where
    by_file : ReportShows old new path (λ r. read_expected file r (check_report r)) outcome → Shows old new (Check path file) outcome
    by_file (inl fault) = refused old new path file outcome (ReadFault path) fault.1 (inl (refl, fault.0))
    by_file (inr (inl large)) = refused old new path file outcome (TooLarge path most_report_bytes) large.1 (inl (refl, refl, large.0))
    by_file (inr (inr (inl bad))) = refused old new path file outcome (BadReport bad.0) bad.2 bad.1
    by_file (inr (inr (inr read))) = expected_shows old new path file read.0 outcome read.1 read.2

-- one file expects one thing
one_expected : (held : Held) (file : Option (List ℕ)) (r : Report) (xs ys : List Expectation) → IsExpectedIn held file r xs → IsExpectedIn held file r ys → xs ≡ ys
one_expected held None r xs ys h k = h ∙ sym k
one_expected held (Some q) r xs ys h k = same_value xs ys (expected_in r (contents held q)) h.1 k.1

-- a check of a report in which no configuration fails, where nothing fails, is done
pub check_completes : (old new : FilesState) (out out' : SinkState) (path : List ℕ) (file : Option (List ℕ)) (held : Held) (status : Status) → old.held ≡ Some held → IsGood held (Check path file) → NothingFails held old new out out' (Check path file)
    → IsShown old new out out' (Check path file) status → (status ≡ Done) ⊎ (status ≡ NoMemory)
check_completes old new out out' path file held status told good fails_not shown = by_status status shown
  where
    here : (P : Held → Type 0) → IfSome old.held P → P held
    here P h = rw told at h

    no_rose : (q : List ℕ) → file ≡ Some q → new.faults (Reading q) ≤ old.faults (Reading q)
    no_rose q is = subst (NoFileRose old new) is fails_not.1

    -- what the file expects of the report
    expected_at : (q : List ℕ) (r : Report) → IsReportIn held path r → file ≡ Some q → (xs : List Expectation) × IsExpectedIn held (Some q) r xs
    expected_at q r is e = let g = good.1 r is in (g.0, subst (λ o. IsExpectedIn held o r g.0) e g.1)

    faulted : (p : List ℕ) → CheckCause old new path file (ReadFault p) → ⊥
    faulted p (inl m) = omega (arith, m.1, fails_not.0)
    faulted p (inr x) = omega (arith, x.1, no_rose p x.0)

    too_large : (p : List ℕ) (room : ℕ) → CheckCause old new path file (TooLarge p room) → ⊥
    too_large p room (inl m) = let k = here (λ held. most_report_bytes < length (contents held path)) m.2 in omega (arith, k, good.0.1.fits)
    too_large p room (inr x) =
        let k = here (λ held. HasReport held path × (most_bytes < length (contents held p))) x.2 in
        let fits = (expected_at p k.0.0 k.0.1 x.0).1.0 in
        omega (arith, k.1, fits)

    bad_expected : (line reason : ℕ) → CheckCause old new path file (BadExpected line reason) → ⊥
    bad_expected line reason h =
        let k = here (λ held. IsBadExpected held path h.0 line reason) h.2 in
        let x = expected_at h.0 k.report k.is_report h.1 in
        let clash : Ok x.0 ≡ Err (BadExpected line reason) = sym x.1.1 ∙ k.bad in
        cc (clash)

    no_one : (text : List ℕ) → IsFailed held path file text → ⊥
    no_one text k =
        let c = k.checking in
        let g = good.1 c.report c.is_report in
        let same : c.expected ≡ g.0 = one_expected held file c.report c.expected g.0 c.is_expected g.1 in
        let none : fails c.report c.expected k.some.0 ≡ false = subst (NoneFails c.report) (sym same) g.2 k.some.0 k.some.1 in
        let clash : true ≡ false = sym k.some.2 ∙ none in
        cc (clash)

    by_status : (s : Status) → IsShown old new out out' (Check path file) s → (s ≡ Done) ⊎ (s ≡ NoMemory)
    by_status Done h = inl refl
    by_status NoMemory h = inr refl
    by_status WriteFault h = absurd (fails_not.2 h.0)
    by_status Failing h = let k = here (λ held. (text : List ℕ) × IsFailed held path file text × Gains out out' text) h.1 in absurd (no_one k.0 k.1)
    by_status Differing h = cc (h.0)
    by_status (ReadFault p) h = absurd (faulted p h.0)
    by_status (TooLarge p room) h = absurd (too_large p room h.0)
    by_status (BadReport line) h = absurd (not_bad held path line good.0.0 good.0.1 (here (λ held. IsBadAt held path line) h.0))
    by_status (BadExpected line reason) h = absurd (bad_expected line reason h.0)
    by_status s h = absurd h.0
