-- What a stage gives: what a plan that asks nothing says; what a class file is taken for; what is told of a program.
use Rattle.std.specs.Prelude.{Bool, Err, List, MatchResult, Ok, Option, ℕ, ◌++◌, ◌≡◌}
use Rattle.std.specs.declared.result.Result.{Result}
use Rattle.std.proofs.Common.{◌⊎◌}
use Rattle.vx_inputs.specs.Folder.{or_bad_class}
use Rattle.vx_inputs.specs.Traced.{traced_of}
use Rattle.vx_inputs.specs.declared.taken.Traced.{Traced}
use Rattle.vx_io.specs.Call.{Call}
use Rattle.vx_io.specs.Held.{FilesState, Held}
use Rattle.vx_lines.specs.declared.table.LineTable.{LineTable}
use Rattle.vx_link.specs.declared.program.Program.{Program}
use Rattle.vx_may_end.specs.Listed.{spots}
use Rattle.vx_plans.specs.Health.{last_line, main_text}
use Rattle.vx_plans.specs.Plan.{IsGiven, MayGive, Outcome, Plan, Said}
use Rattle.vx_plans.specs.declared.status.Status.TheVariants.{BadClass, Done, NoMemory}
use Rattle.vx_refusals.specs.Refusals.{class_text}
use Rattle.vx_spots.specs.Parts.{IsSpotsText}
use Rattle.vx_doctor_command.specs.Saying.{bytes, say, say_unread}
use Rattle.vx_doctor_command.specs.declared.reading.Stop.{Stop}
use Rattle.vx_doctor_command.specs.declared.reading.Stop.TheVariants.{NoClass, Unread}

-- a plan that asks nothing gave this, or memory was wanting
abbrev pub IsSaid : Plan → Outcome → Type 0
IsSaid plan outcome = (outcome ≡ Err NoMemory) ⊎ ((held : Option Held) (before after : Call → ℕ) → MayGive held before after plan outcome)

-- what ends the reading of class files, behind a text
abbrev pub stop_plan : (front : List ℕ) → Stop → Plan
stop_plan front (Unread refusal) = say_unread front bytes refusal
stop_plan front (NoClass path text at reason) = say (front ++ class_text path text.items at reason) (BadClass path at reason)

-- what the one plan says, the other may give
pub record EndsAs (old new : FilesState) (plan rest : Plan) : Type 0 where
  pub to : (outcome : Outcome) → IsSaid rest outcome → IsGiven old new plan outcome

-- what a class file is taken for, or why it is none, with its bytes
abbrev pub IsTaken : (path bytes : List ℕ) → Result Traced Stop → Type 0
IsTaken path text (Ok taken) = or_bad_class path (traced_of text) ≡ Ok taken
IsTaken path text (Err (Unread refusal)) = refusal ≡ NoMemory
IsTaken path text (Err (NoClass shown found at reason)) =
    (shown ≡ path) × (found.items ≡ text) × (or_bad_class path (traced_of text) ≡ Err (BadClass path at reason))

-- the text of what a program may lack, whatever methods are marked as reached
pub record AreLacks (program : Program) (tables : List LineTable) (text : List ℕ) : Type 0 where
  pub marks : List Bool
  pub is : IsSpotsText program tables marks (spots program) text

-- what is told of a program behind a text
pub record IsHealthy (front main : List ℕ) (tables : List LineTable) (program : Program) (said : Said) : Type 0 where
  pub lacks : List ℕ
  pub are : AreLacks program tables lacks
  pub is : said ≡ (front ++ main_text main ++ lacks ++ last_line Done, Done)
