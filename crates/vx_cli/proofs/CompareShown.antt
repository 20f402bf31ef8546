-- What the plan of `compare` gave shows in terms of the files.
use Rattle.std.proofs.Common.{◌≡◌, ◌≤◌, ℕ, Bool, true, false, List, IfSome, Option, None, Some, Ok, inl, inr, ◌⊎◌, refl, sym, ◌∙◌, length}
use Rattle.std.specs.Prelude.{nat_eq, nat_le, if◌then◌else◌}
use Rattle.vx_check.proofs.Numbers.{none_of, some_of}
use Rattle.vx_check_commands.specs.Compare.{compare_plan, last_of, too_many}
use Rattle.vx_compare.specs.Differ.{differing_seen, differs_seen}
use Rattle.vx_compare.specs.Names.{all_names}
use Rattle.vx_io.specs.Held.{Held, FilesState}
use Rattle.vx_io.specs.Sink.{Gains, SinkState}
use Rattle.vx_report.specs.declared.report.Report.{Report}
use Rattle.vx_plans.specs.declared.status.Status.{Status}
use Rattle.vx_plans.specs.declared.status.Status.TheVariants.{Differing, Done, Failing, NoMemory, Unlike, WriteFault}
use Rattle.vx_cli.specs.Causes.{IsComparing, IsDiffering, IsGood, IsReportIn, IsShown, NothingFails, Shows}
use Rattle.vx_cli.specs.Command.{Compare}
use Rattle.vx_plans.specs.Job.{Comparison}
use Rattle.vx_plans.specs.Plan.{MayGive, Outcome, Plan, Say}
use Rattle.vx_cli.proofs.PairShown.{IsPair, SaidShows, no_pair_cause, pair_shows}
use Rattle.vx_plans.proofs.Told.{told_both}

-- reports are refused as unlike alone
too_many_alone : (r s : Report) (status : Status) → too_many r s ≡ Some status → status ≡ Unlike
too_many_alone r s status e = by (nat_le (length (all_names r.options s.options)) 64) e
  where
    by : (b : Bool) → (if b then None else Some Unlike) ≡ Some status → status ≡ Unlike
    by true e = cc (e)
    by false e = cc (e)

-- what is said of two reports
abbrev said : Report → Report → Plan
said r s = Say (Comparison r s) (last_of (differing_seen r s))

-- the text of a comparison is shown by both
compare_said : (old new : FilesState) (path other : List ℕ) (outcome : Outcome) → SaidShows old new too_many said (Compare path other) path other outcome
compare_said old new path other outcome r s told also few given = rw given.2 (by (nat_eq (differing_seen r s) 0) refl)
  where
    comparing : (held : Held) → IsReportIn held path r → IsReportIn held other s → IsComparing held path other given.0
    comparing held h k = record { report = r; is_report = h; against = s; is_other = k; few = few; is_text = given.1 }

    by : (t : Bool) → nat_eq (differing_seen r s) 0 ≡ t → Shows old new (Compare path other) (Ok (given.0, (if t then Done else Differing)))
    by true e = inl (refl, told_both old.held _ _ _ (λ held h k. record { comparing = comparing held h k; none = none_of (length (all_names r.options s.options)) (differs_seen r s) e }) told also)
    by false e = inr (refl, told_both old.held _ _ _ (λ held h k. record { comparing = comparing held h k; some = some_of (length (all_names r.options s.options)) (differs_seen r s) e }) told also)

-- whatever the plan of `compare` gave is shown by the files
pub compare_shows : (old new : FilesState) (path other : List ℕ) (outcome : Outcome) → MayGive old.held old.faults new.faults (compare_plan path other) outcome → Shows old new (Compare path other) outcome
compare_shows old new path other outcome g = pair_shows old new too_many said (Compare path other) path other outcome too_many_alone (λ status cause. cause) (compare_said old new path other outcome) g

-- a comparison of good reports of which no configuration differs, where nothing fails, is done
pub compare_completes : (old new : FilesState) (out out' : SinkState) (path other : List ℕ) (held : Held) (status : Status) → old.held ≡ Some held → IsGood held (Compare path other) → NothingFails held old new out out' (Compare path other)
    → IsShown old new out out' (Compare path other) status → (status ≡ Done) ⊎ (status ≡ NoMemory)
compare_completes old new out out' path other held status told good fails shown = by_status status shown
  where
    here : (P : Held → Type 0) → IfSome old.held P → P held
    here P h = rw told at h

    pair : IsPair too_many held old new path other
    pair = record { told = told; report = good.0; against = good.1; passes = λ r s h k. (good.2 r s h k).0; reads = fails.0; reads_other = fails.1 }

    no_one : (text : List ℕ) → IsDiffering held path other text → ⊥
    no_one text k =
        let c = k.comparing in
        let none : differs_seen c.report c.against k.some.0 ≡ false = (good.2 c.report c.against c.is_report c.is_other).1 k.some.0 k.some.1 in
        let clash : true ≡ false = sym k.some.2 ∙ none in
        cc (clash)

    by_status : (s : Status) → IsShown old new out out' (Compare path other) s → (s ≡ Done) ⊎ (s ≡ NoMemory)
    by_status Done h = inl refl
    by_status NoMemory h = inr refl
    by_status WriteFault h = absurd (fails.2 h.0)
    by_status Failing h = cc (h.0)
    by_status Differing h = let k = here (λ held. (text : List ℕ) × IsDiffering held path other text × Gains out out' text) h.1 in absurd (no_one k.0 k.1)
    by_status s h = absurd (no_pair_cause too_many held old new path other s pair h.0)
