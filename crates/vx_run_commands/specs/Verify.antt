-- The plan of `verify`: the order of its questions and of its refusals.
use Rattle.std.specs.Prelude.{List, Ok, ℕ, ◌≡◌}
use Rattle.vx_class.specs.Class.{class_of}
use Rattle.vx_class.specs.declared.class_file.ClassFile.{ClassFile}
use Rattle.vx_link.specs.declared.program.Program.{Program}
use Rattle.vx_model.specs.declared.model.Model.{Model}
use Rattle.vx_plans.specs.Job.{Judged, program_in}
use Rattle.vx_plans.specs.Plan.{Plan, Write, attempt}
use Rattle.vx_inputs.specs.Folder.{read_folder}
use Rattle.vx_plans.specs.Verdicts.{IsVerdictText}
use Rattle.vx_inputs.specs.ModelFile.{read_any_model}

-- the verdict over the program of the class files that were read, where they link
abbrev pub judge_classes : List ℕ → Model → List ClassFile → Plan
judge_classes main model classes = attempt (program_in main model classes) (λ program. Write (Judged program))

-- the plan of `verify`: the model first, then the folder, then its class files in ascending order, then linking
abbrev pub verify_plan : List ℕ → List ℕ → List ℕ → Plan
verify_plan folder path main = read_any_model path (λ model. read_folder class_of folder (judge_classes main model))

-- the class files link, and the text is that of the verdict over their program
pub record IsVerdictOf (main : List ℕ) (model : Model) (classes : List ClassFile) (text : List ℕ) : Type 0 where
  pub program : Program
  pub is_program : program_in main model classes ≡ Ok program
  pub is_text : IsVerdictText program text
