-- What the plan of `join` gave shows in terms of the files.
use Rattle.std.proofs.Common.{◌≡◌, ◌≤◌, ◌<◌, ℕ, Bool, true, false, List, [], ◌∷◌, ◌++◌, length, IfSome, Some, None, Err, inl, inr, ◌⊎◌, refl, ap, sym, subst, suc, ◌∙◌, arith, append-nil, append_assoc}
use Rattle.std.specs.List.{AllByRecursion, AllZip, list_all}
use Rattle.std.specs.Prelude.{Contains, Option, if◌then◌else◌}
use Rattle.vx_io.specs.Call.{Reading}
use Rattle.vx_io.specs.Held.{Held, FilesState, contents}
use Rattle.vx_io.specs.Sink.{SinkState}
use Rattle.vx_join.specs.Joined.{is_joinable}
use Rattle.vx_report.specs.declared.report.Report.{Report}
use Rattle.vx_report_reader.proofs.Verdicts.{report_same}
use Rattle.vx_plans.specs.declared.status.Status.{Status}
use Rattle.vx_plans.specs.declared.status.Status.TheVariants.{Done, NoMemory, ReadFault, WriteFault, BadReport, TooLarge, Unlike, NotJoinable}
use Rattle.vx_report_commands.specs.Join.{are_like, join_plan, join_reports, unjoined}
use Rattle.vx_cli.specs.Causes.{AreReportsIn, AreUnjoined, HasReport, IsBadAt, IsReachedAmong, IsReportIn, Shows, IsShown, IsGood, NothingFails}
use Rattle.vx_cli.specs.Command.{Join}
use Rattle.vx_plans.specs.Job as product
use Rattle.vx_plans.specs.Plan.{MayGive, Write, Outcome}
use Rattle.vx_inputs.specs.Reports.{most_report_bytes, read_reports}
use Rattle.vx_cli.proofs.ReportTold.{ReportShows, not_bad, report_shows}
use Rattle.vx_plans.proofs.Told.{told_both, told_map, unless_cases}

-- reports have no join for one of two reasons
unjoined_cases : (reports : List Report) (status : Status) → unjoined reports ≡ Some status → (status ≡ Unlike) ⊎ (status ≡ NotJoinable)
unjoined_cases [] status e = inr cc
unjoined_cases (first ∷ others) status e = by (list_all (are_like first) others) (is_joinable (first ∷ others)) e
  where
    by : (a b : Bool) → (if a then (if b then None else Some NotJoinable) else Some Unlike) ≡ Some status → (status ≡ Unlike) ⊎ (status ≡ NotJoinable)
    by true true d = absurd cc
    by true false d = inr cc
    by false b d = inl cc

-- one file more among those that were read
zip_more : {A B : Type 0} (R : A → B → Type 0) (xs : List A) (ys : List B) (x : A) (y : B) → AllZip R xs ys → R x y → AllZip R (xs ++ x ∷ []) (ys ++ y ∷ [])
zip_more R [] [] x y h k = (k, tt)
zip_more R [] (b ∷ ys) x y h k = absurd h
zip_more R (a ∷ xs) [] x y h k = absurd h
zip_more R (a ∷ xs) (b ∷ ys) x y h k = (h.0, zip_more R xs ys x y h.1 k)

among : {A : Type 0} (xs ys : List A) (x : A) → Contains (xs ++ x ∷ ys) x
among [] ys x = (0, omega arith, refl)
among (y ∷ xs) ys x = let rest = among xs ys x in let within = rest.1 in (suc rest.0, omega arith, rest.2)

-- what stands between the files that were read and those that are left
join_from : (old new : FilesState) (all before paths : List (List ℕ)) (front : List Report) (outcome : Outcome) → all ≡ before ++ paths → IfSome old.held (λ held. AreReportsIn held before front)
    → MayGive old.held old.faults new.faults (read_reports join_reports front paths) outcome → Shows old new (Join all) outcome
join_from old new all before [] front outcome split told g = by_reason (unless_cases old.held old.faults new.faults (unjoined front) (Write (product.Join front)) outcome g)
  where
    whole : all ≡ before
    whole = split ∙ append-nil before

    there : (held : Held) → AreReportsIn held before front → AreReportsIn held all front
    there held h = subst (λ (ps : List (List ℕ)). AreReportsIn held ps front) (sym whole) h

    by_status : (status : Status) → unjoined front ≡ Some status → outcome ≡ Err status → (status ≡ Unlike) ⊎ (status ≡ NotJoinable) → Shows old new (Join all) outcome
    by_status status why gives (inl is) = rw (gives ∙ ap Err is) (told_map old.held _ _ (λ held h. record { reports = front; are = there held h; why = why ∙ ap Some is }) told)
    by_status status why gives (inr is) = rw (gives ∙ ap Err is) (told_map old.held _ _ (λ held h. record { reports = front; are = there held h; why = why ∙ ap Some is }) told)

    by_reason : ((status : Status) × (unjoined front ≡ Some status) × (outcome ≡ Err status)) ⊎ ((unjoined front ≡ None) × MayGive old.held old.faults new.faults (Write (product.Join front)) outcome) → Shows old new (Join all) outcome
    by_reason (inl bad) = by_status bad.0 bad.1 bad.2 (unjoined_cases front bad.0 bad.1)
    by_reason (inr good) = rw good.1.2 (inl (refl, told_map old.held _ _ (λ held h. record { reports = front; are = there held h; joinable = good.0; is_text = good.1.1 }) told))
join_from old new all before (path ∷ paths) front outcome split told g =
    by_file (report_shows old new path (λ report. read_reports join_reports (front ++ report ∷ []) paths) outcome g)
    (λ report read more. join_from old new all (before ++ path ∷ []) paths (front ++ report ∷ []) outcome (split ∙ sym (append_assoc before (path ∷ []) paths)) read more)
  where
    inside : Contains all path
    inside = subst (λ (ps : List (List ℕ)). Contains ps path) (sym split) (among before paths path)

    reached : (held : Held) → AreReportsIn held before front → IsReachedAmong held all path
    reached held h = record { before = before; after = paths; split = split; reports = front; good = h }

    by_file : ReportShows old new path (λ report. read_reports join_reports (front ++ report ∷ []) paths) outcome
        → ((report : Report) → IfSome old.held (λ held. AreReportsIn held (before ++ path ∷ []) (front ++ report ∷ [])) → MayGive old.held old.faults new.faults (read_reports join_reports (front ++ report ∷ []) paths) outcome → Shows old new (Join all) outcome)
        → Shows old new (Join all) outcome
    by_file (inl fault) rest = rw fault.1 (inside, fault.0, told_map old.held _ _ reached told)
    by_file (inr (inl large)) rest = rw large.1 (refl, inside, told_both old.held _ _ _ (λ held h k. (reached held h, k)) told large.0)
    by_file (inr (inr (inl bad))) rest = rw bad.2 (told_both old.held _ _ _ (λ held h k. (path, reached held h, k)) told bad.1)
    by_file (inr (inr (inr read))) rest = rest read.0 (told_both old.held _ _ _ (λ held h k. zip_more (IsReportIn held) before front path read.0 h k) told read.1) read.2

-- whatever the plan of `join` gave is shown by the files
pub join_shows : (old new : FilesState) (paths : List (List ℕ)) (outcome : Outcome) → MayGive old.held old.faults new.faults (join_plan paths) outcome → Shows old new (Join paths) outcome
join_shows old new paths outcome g = join_from old new paths [] paths [] outcome refl (told_none old.held) g
  where
    told_none : (o : Option Held) → IfSome o (λ held. AreReportsIn held [] [])
    told_none None = tt
    told_none (Some held) = tt

-- what holds of all items holds of one that stands among them
at_one : {A : Type 0} (P : A → Type 0) (before after : List A) (x : A) → AllByRecursion P (before ++ x ∷ after) → P x
at_one P [] after x all = all.0
at_one P (y ∷ before) after x all = at_one P before after x all.1

-- the join of good reports, where nothing fails, is done
pub join_completes : (old new : FilesState) (out out' : SinkState) (paths : List (List ℕ)) (held : Held) (status : Status) → old.held ≡ Some held → IsGood held (Join paths) → NothingFails held old new out out' (Join paths)
    → IsShown old new out out' (Join paths) status → (status ≡ Done) ⊎ (status ≡ NoMemory)
join_completes old new out out' paths held status told good fails shown = by_status status shown
  where
    here : (P : Held → Type 0) → IfSome old.held P → P held
    here P h = rw told at h

    report_at : (path : List ℕ) → IsReachedAmong held paths path → HasReport held path
    report_at path h = at_one (HasReport held) h.before h.after path (subst (AllByRecursion (HasReport held)) h.split good.0)

    faulted : (path : List ℕ) → IsReachedAmong held paths path → old.faults (Reading path) < new.faults (Reading path) → ⊥
    faulted path h rose =
        let kept = at_one (λ p. new.faults (Reading p) ≤ old.faults (Reading p)) h.before h.after path (subst (AllByRecursion (λ p. new.faults (Reading p) ≤ old.faults (Reading p))) h.split fails.0) in
        omega (arith, kept, rose)

    large : (path : List ℕ) → IsReachedAmong held paths path → most_report_bytes < length (contents held path) → ⊥
    large path h more = let fits = (report_at path h).1.fits in omega (arith, fits, more)

    unjoined_there : (s : Status) → AreUnjoined held paths s → ⊥
    unjoined_there s h = let clash : None ≡ Some s = sym (good.1 h.reports h.are) ∙ h.why in absurd cc

    by_status : (s : Status) → IsShown old new out out' (Join paths) s → (s ≡ Done) ⊎ (s ≡ NoMemory)
    by_status Done h = inl refl
    by_status NoMemory h = inr refl
    by_status WriteFault h = absurd (fails.1 h.0)
    by_status (ReadFault p) h = absurd (faulted p (here (λ held. IsReachedAmong held paths p) h.0.2) h.0.1)
    by_status (TooLarge p room) h = let k = here (λ held. IsReachedAmong held paths p × (most_report_bytes < length (contents held p))) h.0.2 in absurd (large p k.0 k.1)
    by_status (BadReport line) h =
        let k = here (λ held. (path : List ℕ) × IsReachedAmong held paths path × IsBadAt held path line) h.0 in
        let r = report_at k.0 k.1 in
        absurd (not_bad held k.0 line r.0 r.1 k.2)
    by_status Unlike h = absurd (unjoined_there Unlike (here (λ held. AreUnjoined held paths Unlike) h.0))
    by_status NotJoinable h = absurd (unjoined_there NotJoinable (here (λ held. AreUnjoined held paths NotJoinable) h.0))
    by_status s h = absurd h.0

-- the files spell one list of reports
pub reports_same : (held : Held) (paths : List (List ℕ)) (one other : List Report) → AreReportsIn held paths one → AreReportsIn held paths other → one ≡ other
reports_same held [] [] [] h k = refl
reports_same held [] [] (s ∷ other) h k = absurd k
reports_same held [] (r ∷ one) other h k = absurd h
reports_same held (path ∷ paths) [] other h k = absurd h
reports_same held (path ∷ paths) (r ∷ one) [] h k = absurd k
reports_same held (path ∷ paths) (r ∷ one) (s ∷ other) h k =
    let first = report_same (contents held path) r s h.0.spells k.0.spells in
    let rest = reports_same held paths one other h.1 k.1 in
    λ i. first i ∷ rest i
