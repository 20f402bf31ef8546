-- A call of `run` over files that hold the same as those of a call of `doctor`.
use Rattle.std.specs.Prelude.{Some, ℕ, ◌≡◌, ◌≢◌, ◌≤◌, List}
use Rattle.vx_io.specs.Call.{Call}
use Rattle.vx_io.specs.Held.{FilesState, Held}
use Rattle.vx_io.specs.Rose.{Rose}
use Rattle.vx_io.specs.Sink.{SinkState}
use Rattle.vx_cli.specs.Ends.{Ends}
use Rattle.vx_plans.specs.declared.status.Status.{Status}
use Rattle.vx_plans.specs.declared.status.Status.TheVariants.{NoMemory}
use Rattle.vx_run_commands.specs.Run.{run_plan}

-- no call of the files failed, nor one of the sink
pub record NoneFailed (old new : FilesState) (out out' : SinkState) : Type 0 where
  pub files : (call : Call) → new.faults call ≤ old.faults call
  pub sink : Rose out.faults out'.faults → ⊥

-- a call, with what was before and behind it, and how it ended
pub record Ran : Type 0 where
  pub old : FilesState
  pub new : FilesState
  pub out : SinkState
  pub out' : SinkState
  pub limit : ℕ
  pub version : ℕ
  pub status : Status

-- it was one of `run` with these words over files that hold this, of which none failed, and memory was not wanting
pub record IsRun (held : Held) (folder model main : List ℕ) (ran : Ran) : Type 0 where
  pub holds : ran.old.held ≡ Some held
  pub ends : Ends ran.old ran.new ran.out ran.out' (run_plan folder model main ran.limit ran.version) ran.status
  pub none_failed : NoneFailed ran.old ran.new ran.out ran.out'
  pub enough : ran.status ≢ NoMemory
