-- What the plan of `load` gave shows in terms of the files.
use Rattle.std.proofs.Common.{◌≡◌, ℕ, IfSome, Option, None, Some, inl, inr, ◌⊎◌, refl}
use Rattle.vx_io.specs.Held.{Held, FilesState}
use Rattle.vx_io.specs.Sink.{SinkState}
use Rattle.vx_plans.specs.declared.status.Status.{Status}
use Rattle.vx_plans.specs.declared.status.Status.TheVariants.{Done, NoMemory, WriteFault}
use Rattle.vx_cli.specs.Causes.{Shows, IsShown, NothingFails}
use Rattle.vx_cli.specs.Command.{Load}
use Rattle.vx_plans.specs.Plan.{MayGive, Outcome}
use Rattle.vx_cli.specs.PlanOf.{plan_of}

always : {A : Type 0} (held : Option Held) → A → IfSome held (λ _. A)
always None x = tt
always (Some held) x = x

-- whatever the plan gave is the summary
pub load_shows : (old new : FilesState) (seed options : ℕ) (outcome : Outcome) → MayGive old.held old.faults new.faults (plan_of (Load seed options)) outcome → Shows old new (Load seed options) outcome
load_shows old new seed options outcome g = rw g.2 (inl (refl, always old.held g.1))

-- where nothing fails, it is done
pub load_completes : (old new : FilesState) (out out' : SinkState) (seed options : ℕ) (held : Held) (status : Status) → NothingFails held old new out out' (Load seed options)
    → IsShown old new out out' (Load seed options) status → (status ≡ Done) ⊎ (status ≡ NoMemory)
load_completes old new out out' seed options held status fails shown = by_status status shown
  where
    by_status : (s : Status) → IsShown old new out out' (Load seed options) s → (s ≡ Done) ⊎ (s ≡ NoMemory)
    by_status Done h = inl refl
    by_status NoMemory h = inr refl
    by_status WriteFault h = absurd (fails h.0)
    by_status s h = absurd h.0
