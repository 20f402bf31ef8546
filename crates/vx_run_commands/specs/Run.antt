-- The plan of `run`: the order of its questions and of its refusals.
use Rattle.std.specs.Prelude.{◌≡◌, ℕ, Bool, true, false, List}
use Rattle.vx_class.specs.declared.class_file.ClassFile.{ClassFile}
use Rattle.vx_class.specs.Class.{class_of}
use Rattle.vx_io.specs.Sink.{SinkState}
use Rattle.vx_model.specs.declared.model.Model.{Model}
use Rattle.vx_plans.specs.Job.{program_in, Report}
use Rattle.vx_plans.specs.Plan.{Plan, Write, attempt}
use Rattle.vx_inputs.specs.Folder.{read_folder}
use Rattle.vx_inputs.specs.ModelFile.{read_model}
use Rattle.vx_watch.specs.Telling.{HasWatched}

-- the report of the program of the class files that were read, where they link
abbrev pub run_classes : List ℕ → ℕ → ℕ → Model → List ClassFile → Plan
run_classes main limit version model classes = attempt (program_in main model classes) (λ program. Write (Report version model limit program))

-- the plan of `run`: the model first, then the folder, then its class files in ascending order, then linking, and then the runs
abbrev pub run_plan : List ℕ → List ℕ → List ℕ → ℕ → ℕ → Plan
run_plan folder path main limit version = read_model path (λ model. read_folder class_of folder (run_classes main limit version model))

-- what is written while runs are made: lines that tell how far they have come where they are watched, and else nothing
abbrev pub HasTold : (watched : Bool) → SinkState → SinkState → Type 0
HasTold true old new = HasWatched old new
HasTold false old new = new ≡ old
