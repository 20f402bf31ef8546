-- What `doctor` writes: its parts, each behind those before it, and the text of files that can be run (own).
use Rattle.std.specs.Prelude.{Bool, List, [], codes, decimal, if◌then◌else◌, length, ℕ, ◌++◌, ◌≡◌}
use Rattle.vx_class.specs.declared.class_file.ClassFile.{ClassFile}
use Rattle.vx_lines.specs.declared.table.LineTable.{LineTable}
use Rattle.vx_link.specs.declared.program.Program.{Program}
use Rattle.vx_may_end.specs.Listed.{spots}
use Rattle.vx_model.specs.declared.model.Model.{Model}
use Rattle.vx_overview.specs.Overview.{overview_text}
use Rattle.vx_overview.specs.Remarks.{remarks_text}
use Rattle.vx_refusals.specs.Refusals.{versions_text}
use Rattle.vx_spots.specs.Parts.{IsSpotsText}
use Rattle.vx_value.specs.Words.{word_of}
use Rattle.vx_plans.specs.Status.{code_of, name_of}
use Rattle.vx_plans.specs.declared.status.Status.{Status}
use Rattle.vx_plans.specs.declared.status.Status.TheVariants.{Done}

abbrev pub first_line : List ℕ
first_line = codes "varexj doctor 1\n"

-- the number of a status and its name
unfoldable pub last_line : Status → List ℕ
last_line status = codes "status " ++ decimal (code_of status) ++ codes " " ++ name_of status ++ codes "\n"

-- comments of a model in DIMACS form that begin as name lines do, and are none
abbrev pub remarks_if : (dimacs : Bool) → (text : List ℕ) → Model → List ℕ
remarks_if dimacs text model = if dimacs then remarks_text (length model.options) text else []

-- what is said up to the model
unfoldable pub model_part : (dimacs : Bool) → (text : List ℕ) → Model → List ℕ
model_part dimacs text model = first_line ++ overview_text model ++ remarks_if dimacs text model

-- and up to the classes
abbrev pub classes_part : (dimacs : Bool) → (text : List ℕ) → Model → List ClassFile → List ℕ
classes_part dimacs text model classes = model_part dimacs text model ++ versions_text classes

-- the class whose `main` runs
unfoldable pub main_text : List ℕ → List ℕ
main_text main = codes "main " ++ word_of main ++ codes "\n"

-- A text tells of a model and of class files that link under it, and of what may end a run of their program as unsupported. Which methods are marked as reached bears on the order alone.
pub record IsHealthText (dimacs : Bool) (text : List ℕ) (model : Model) (classes : List ClassFile) (tables : List LineTable) (main : List ℕ) (program : Program) (bytes : List ℕ) : Type 0 where
  pub marks : List Bool
  pub lacks : List ℕ
  pub lacking : IsSpotsText program tables marks (spots program) lacks
  pub is : bytes ≡ classes_part dimacs text model classes ++ main_text main ++ lacks ++ last_line Done
