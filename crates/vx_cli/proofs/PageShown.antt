-- What the plan of a page gave shows in terms of the files.
use Rattle.std.proofs.Common.{◌≡◌, IfSome, Option, None, Some, inl, inr, ◌⊎◌, refl}
use Rattle.vx_io.specs.Held.{Held, FilesState}
use Rattle.vx_io.specs.Sink.{SinkState}
use Rattle.vx_cli.specs.declared.page.Page.{Page}
use Rattle.vx_plans.specs.declared.status.Status.{Status}
use Rattle.vx_plans.specs.declared.status.Status.TheVariants.{Done, NoMemory, WriteFault}
use Rattle.vx_cli.specs.Causes.{Shows, IsShown, NothingFails}
use Rattle.vx_cli.specs.Command.{Show}
use Rattle.vx_plans.specs.Plan.{MayGive, Outcome}
use Rattle.vx_cli.specs.PlanOf.{plan_of}

always : {A : Type 0} (held : Option Held) → A → IfSome held (λ _. A)
always None x = tt
always (Some held) x = x

-- whatever the plan gave is the page
pub page_shows : (old new : FilesState) (page : Page) (outcome : Outcome) → MayGive old.held old.faults new.faults (plan_of (Show page)) outcome → Shows old new (Show page) outcome
page_shows old new page outcome g = rw g.2 (inl (refl, always old.held g.1))

-- a page, where nothing fails, is done
pub page_completes : (old new : FilesState) (out out' : SinkState) (page : Page) (held : Held) (status : Status) → NothingFails held old new out out' (Show page)
    → IsShown old new out out' (Show page) status → (status ≡ Done) ⊎ (status ≡ NoMemory)
page_completes old new out out' page held status fails shown = by_status status shown
  where
    by_status : (s : Status) → IsShown old new out out' (Show page) s → (s ≡ Done) ⊎ (s ≡ NoMemory)
    by_status Done h = inl refl
    by_status NoMemory h = inr refl
    by_status WriteFault h = absurd (fails h.0)
    by_status s h = absurd h.0
