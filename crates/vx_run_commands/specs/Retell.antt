-- The plan of `replay` and of `trace`: the order of their questions and of their refusals.
use Rattle.std.specs.Prelude.{Bool, Err, List, None, Ok, Option, Some, if◌then◌else◌, map, ℕ, ◌≡◌}
use Rattle.std.specs.declared.result.Result.{Result}
use Rattle.vx_configuration.specs.Configuration.{configuration_of}
use Rattle.vx_link.specs.declared.program.Program.{Program}
use Rattle.vx_model.specs.Models.{is_allowed}
use Rattle.vx_model.specs.declared.model.Model.{Model}
use Rattle.vx_java.specs.Step.{start, steps}
use Rattle.vx_replay.specs.ReplayText.{replay_text}
use Rattle.vx_plans.specs.Job.{Exactly, names_of, program_in}
use Rattle.vx_plans.specs.Plan.{Plan, Write, attempt}
use Rattle.vx_inputs.specs.Folder.{read_folder}
use Rattle.vx_inputs.specs.Traced.{traced_of}
use Rattle.vx_inputs.specs.ModelFile.{read_any_model}
use Rattle.vx_plans.specs.declared.status.Status.{Status}
use Rattle.vx_plans.specs.declared.status.Status.TheVariants.{NotAllowed}
use Rattle.vx_inputs.specs.declared.taken.Traced.{Traced}
use Rattle.vx_lines.specs.declared.table.LineTable.{LineTable}
use Rattle.vx_run_commands.specs.declared.words.Retelling.{Retelling}
use Rattle.vx_run_commands.specs.declared.words.Retelling.TheVariants.{Replay, Trace}
use Rattle.vx_trace.specs.TraceText.{traced_text}

-- a configuration that a model allows; one that it forbids, and none, is not allowed
abbrev pub if_allowed : Model → Option (List Bool) → Result (List Bool) Status
if_allowed model None = Err NotAllowed
if_allowed model (Some c) = if is_allowed model c then Ok c else Err NotAllowed

-- the configuration that a word names, where the model allows it, or the refusal
abbrev pub allowed_at : Model → List ℕ → Result (List Bool) Status
allowed_at model word = if_allowed model (configuration_of (names_of model) word)

-- reads a model, and goes on with it and with the configuration that a word names
abbrev pub read_choice : List ℕ → List ℕ → (Model → List Bool → Plan) → Plan
read_choice path word next = read_any_model path (λ model. attempt (allowed_at model word) (next model))

-- the program of class files that were read, where they link
abbrev pub traced_program : List ℕ → Model → List Traced → Result Program Status
traced_program main model traced = program_in main model (map (λ t. t.class) traced)

-- what is told of the run of a configuration of a program, whose first classes have these line tables and source files
abbrev pub told_of : Retelling → ℕ → List Bool → List LineTable → List (Option (List ℕ)) → Program → List ℕ
told_of Replay limit c tables files program = replay_text program tables (steps program limit (start program c))
told_of Trace limit c tables files program = traced_text program tables files limit (start program c)

-- and of the program of class files that were read
abbrev pub retold_text : Retelling → ℕ → List Bool → List Traced → Program → List ℕ
retold_text retelling limit c traced program = told_of retelling limit c (map (λ t. t.lines) traced) (map (λ t. t.file) traced) program

-- and the run itself, where the class files that were read link
abbrev pub retell_classes : Retelling → List ℕ → ℕ → Model → List Bool → List Traced → Plan
retell_classes retelling main limit model c traced =
    attempt (traced_program main model traced) (λ program. Write (Exactly (retold_text retelling limit c traced program)))

-- the plan of `replay` and of `trace`: the model first, then the configuration, then the folder, then its class files in ascending order, then linking, and then the run
abbrev pub retell_plan : Retelling → List ℕ → List ℕ → List ℕ → ℕ → List ℕ → Plan
retell_plan retelling folder path main limit word =
    read_choice path word (λ model c. read_folder traced_of folder (retell_classes retelling main limit model c))

-- the class files link, and the text is what is told of the run of a configuration of their program
pub record IsRetoldOf (retelling : Retelling) (main : List ℕ) (limit : ℕ) (model : Model) (c : List Bool) (traced : List Traced) (text : List ℕ) : Type 0 where
  pub program : Program
  pub is_program : traced_program main model traced ≡ Ok program
  pub is_text : text ≡ retold_text retelling limit c traced program
