-- What the plans of `project` and `output` gave shows in terms of the files.
use Rattle.std.proofs.Common.{◌≡◌, ℕ, List, Option, None, Some, Ok, Err, inl, inr, ◌⊎◌, refl}
use Rattle.vx_io.specs.Held.{Held, FilesState}
use Rattle.vx_io.specs.Sink.{SinkState}
use Rattle.vx_value.specs.declared.end.Stream.{Stream}
use Rattle.vx_plans.specs.declared.status.Status.{Status}
use Rattle.vx_plans.specs.declared.status.Status.TheVariants.{Done, NoMemory, WriteFault, NotAllowed}
use Rattle.vx_cli.specs.Causes.{Shows, IsShown, IsGood, NothingFails}
use Rattle.vx_cli.specs.Command.{Output, Project}
use Rattle.vx_plans.specs.Plan.{MayGive, Outcome}
use Rattle.vx_report_commands.specs.Output.{output_plan, printed}
use Rattle.vx_report_commands.specs.Project.{or_not_allowed, projected, project_plan}
use Rattle.vx_cli.proofs.SaidShown.{no_say_cause, said_shows}

-- a configuration is refused as not allowed alone
not_allowed_alone : (o : Option (List ℕ)) (status : Status) → or_not_allowed o ≡ Err status → status ≡ NotAllowed
not_allowed_alone None status e = cc
not_allowed_alone (Some text) status e = cc

-- whatever the plan of `project` gave is shown by the files
pub project_shows : (old new : FilesState) (path word : List ℕ) (outcome : Outcome) → MayGive old.held old.faults new.faults (project_plan path word) outcome → Shows old new (Project path word) outcome
project_shows old new path word (Ok text) g = inl (said_shows (λ r. projected r word) (λ r. not_allowed_alone _) old new path (Ok text) g)
project_shows old new path word (Err status) g = said_shows (λ r. projected r word) (λ r. not_allowed_alone _) old new path (Err status) g

pub project_completes : (old new : FilesState) (out out' : SinkState) (path word : List ℕ) (held : Held) (status : Status) → old.held ≡ Some held → IsGood held (Project path word) → NothingFails held old new out out' (Project path word)
    → IsShown old new out out' (Project path word) status → (status ≡ Done) ⊎ (status ≡ NoMemory)
project_completes old new out out' path word held status told good fails shown = by_status status shown
  where
    by_status : (s : Status) → IsShown old new out out' (Project path word) s → (s ≡ Done) ⊎ (s ≡ NoMemory)
    by_status Done h = inl refl
    by_status NoMemory h = inr refl
    by_status WriteFault h = absurd (fails.1 h.0)
    by_status s h = absurd (no_say_cause (λ r. projected r word) old new path held s told good fails.0 h.0)

-- whatever the plan of `output` gave is shown by the files
pub output_shows : (old new : FilesState) (path word : List ℕ) (stream : Stream) (outcome : Outcome) → MayGive old.held old.faults new.faults (output_plan path word stream) outcome → Shows old new (Output path word stream) outcome
output_shows old new path word stream (Ok text) g = inl (said_shows (λ r. printed r stream word) (λ r. not_allowed_alone _) old new path (Ok text) g)
output_shows old new path word stream (Err status) g = said_shows (λ r. printed r stream word) (λ r. not_allowed_alone _) old new path (Err status) g

pub output_completes : (old new : FilesState) (out out' : SinkState) (path word : List ℕ) (stream : Stream) (held : Held) (status : Status) → old.held ≡ Some held → IsGood held (Output path word stream) → NothingFails held old new out out' (Output path word stream)
    → IsShown old new out out' (Output path word stream) status → (status ≡ Done) ⊎ (status ≡ NoMemory)
output_completes old new out out' path word stream held status told good fails shown = by_status status shown
  where
    by_status : (s : Status) → IsShown old new out out' (Output path word stream) s → (s ≡ Done) ⊎ (s ≡ NoMemory)
    by_status Done h = inl refl
    by_status NoMemory h = inr refl
    by_status WriteFault h = absurd (fails.1 h.0)
    by_status s h = absurd (no_say_cause (λ r. printed r stream word) old new path held s told good fails.0 h.0)
