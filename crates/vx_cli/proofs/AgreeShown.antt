-- What the plan of `agree` gave shows in terms of the files.
use Rattle.std.proofs.Common.{◌≡◌, ℕ, List, Some, inl, inr, ◌⊎◌, refl}
use Rattle.vx_io.specs.Held.{Held, FilesState}
use Rattle.vx_io.specs.Sink.{SinkState}
use Rattle.vx_plans.specs.declared.status.Status.{Status}
use Rattle.vx_plans.specs.declared.status.Status.TheVariants.{Differing, Done, Failing, NoMemory, WriteFault}
use Rattle.vx_report_commands.specs.Agree.{agree_plan, unlike}
use Rattle.vx_cli.specs.Causes.{IsGood, IsShown, NothingFails, Shows}
use Rattle.vx_cli.specs.Command.{Agree}
use Rattle.vx_plans.specs.Job.{Agreement}
use Rattle.vx_plans.specs.Plan.{MayGive, Outcome, Write}
use Rattle.vx_report_commands.proofs.Alike.{unlike_alone}
use Rattle.vx_cli.proofs.PairShown.{IsPair, SaidShows, no_pair_cause, pair_shows}
use Rattle.vx_plans.proofs.Told.{told_both}

-- whatever the plan of `agree` gave is shown by the files
pub agree_shows : (old new : FilesState) (path other : List ℕ) (outcome : Outcome) → MayGive old.held old.faults new.faults (agree_plan path other) outcome → Shows old new (Agree path other) outcome
agree_shows old new path other outcome g = pair_shows old new unlike (λ r s. Write (Agreement r s)) (Agree path other) path other outcome unlike_alone (λ status cause. cause) said g
  where
    said : SaidShows old new unlike (λ r s. Write (Agreement r s)) (Agree path other) path other outcome
    said r s told also alike given = rw given.2 (inl (refl, told_both old.held _ _ _ (λ held h k. record { report = r; is_report = h; against = s; is_other = k; alike = alike; is_text = given.1 }) told also))

-- the agreement of good reports, where nothing fails, is done
pub agree_completes : (old new : FilesState) (out out' : SinkState) (path other : List ℕ) (held : Held) (status : Status) → old.held ≡ Some held → IsGood held (Agree path other) → NothingFails held old new out out' (Agree path other)
    → IsShown old new out out' (Agree path other) status → (status ≡ Done) ⊎ (status ≡ NoMemory)
agree_completes old new out out' path other held status told good fails shown = by_status status shown
  where
    pair : IsPair unlike held old new path other
    pair = record { told = told; report = good.0; against = good.1; passes = good.2; reads = fails.0; reads_other = fails.1 }

    by_status : (s : Status) → IsShown old new out out' (Agree path other) s → (s ≡ Done) ⊎ (s ≡ NoMemory)
    by_status Done h = inl refl
    by_status NoMemory h = inr refl
    by_status WriteFault h = absurd (fails.2 h.0)
    by_status Failing h = absurd h.0
    by_status Differing h = absurd h.0
    by_status s h = absurd (no_pair_cause unlike held old new path other s pair h.0)
