-- What `doctor` says in the place of a refusal: the text up to there, why it is refused, and the status (own).
use Rattle.std.specs.Prelude.{Err, List, None, Ok, Option, Some, codes, decimal, if◌then◌else◌, map, ℕ, ◌++◌}
use Rattle.std.specs.declared.result.Result.{Result}
use Rattle.vx_class.specs.declared.class_file.ClassFile.{ClassFile}
use Rattle.vx_link.specs.CoreFiles.{core_files}
use Rattle.vx_model.specs.declared.fault.ModelFault.{ModelFault}
use Rattle.vx_model.specs.declared.fault.ModelFault.TheVariants as fault
use Rattle.vx_model.specs.declared.model.Model.{Model}
use Rattle.vx_outlines.specs.Outlines.{outline_of}
use Rattle.vx_outlines.specs.Refusals.{refusal_text}
use Rattle.vx_outlines.specs.declared.outline.Outline.{Outline}
use Rattle.vx_plans.specs.Health.{first_line, last_line, model_part}
use Rattle.vx_plans.specs.Job.{Exactly, is_dimacs_path, slashed}
use Rattle.vx_plans.specs.Plan.{Plan, Refuse, Say}
use Rattle.vx_plans.specs.declared.status.Status.{Status}
use Rattle.vx_plans.specs.declared.status.Status.TheVariants.{BadClass, BadLink, BadModel, NoConfiguration, NoMemory, TooLarge}
use Rattle.vx_reasons.specs.declared.sentences.Form.{Form}
use Rattle.vx_reasons.specs.declared.sentences.Form.TheVariants.{Dimacs, Model as model}
use Rattle.vx_refusals.specs.Refusals.{class_text, model_text}
use Rattle.vx_value.specs.Words.{word_of}

-- says a text, and behind it the status with which it ends
abbrev pub say : List ℕ → Status → Plan
say text status = Say (Exactly (text ++ last_line status)) status

-- says why, where there is a reason to refuse
abbrev pub or_say : Option Status → (Status → Plan) → Plan → Plan
or_say None refuse plan = plan
or_say (Some status) refuse plan = refuse status

-- goes on with a value, or says why there is none
abbrev pub value_or_say : {A : Type 0} → Result A Status → (Status → Plan) → (A → Plan) → Plan
value_or_say (Ok x) refuse next = next x
value_or_say (Err status) refuse next = refuse status

-- ---- what is too large

-- of which a file has too many: bytes; and a folder: class files
abbrev pub bytes : List ℕ
bytes = codes " bytes\n"

abbrev pub class_files : List ℕ
class_files = codes " class files\n"

unfoldable pub large_text : (path : List ℕ) → (room : ℕ) → (of : List ℕ) → List ℕ
large_text path room of = word_of path ++ codes " has more than " ++ decimal room ++ of

-- what could not be read is refused as by each command
abbrev pub say_unread : (front of : List ℕ) → Status → Plan
say_unread front of (TooLarge path room) = say (front ++ large_text path room of) (TooLarge path room)
say_unread front of status = Refuse status

-- ---- the model

abbrev pub form_of : (path : List ℕ) → Form
form_of path = if is_dimacs_path path then Dimacs else model

abbrev pub say_model : (path text : List ℕ) → Status → Plan
say_model path text (BadModel line reason) = say (first_line ++ model_text (form_of path) text line reason) (BadModel line reason)
say_model path text status = Refuse status

-- what is said where bytes spell no model
abbrev pub say_fault : (path text : List ℕ) → ModelFault → Plan
say_fault path text fault.NoMemory = Refuse NoMemory
say_fault path text (fault.Line line reason) = say_model path text (BadModel line reason)

abbrev pub none_line : List ℕ
none_line = codes "no configuration meets all rules\n"

abbrev pub say_none : (path text : List ℕ) → Model → Plan
say_none path text m = say (model_part (is_dimacs_path path) text m ++ none_line) NoConfiguration

-- ---- class files

abbrev pub say_class : (front text : List ℕ) → Status → Plan
say_class front text (BadClass path at reason) = say (front ++ class_text path text at reason) (BadClass path at reason)
say_class front text status = Refuse status

-- the core classes, as linking sees them
unfoldable pub core_outlines : List Outline
core_outlines = map outline_of core_files

abbrev pub say_link : (front : List ℕ) → List ClassFile → (paths : List (List ℕ)) → Model → (main : List ℕ) → Status → Plan
say_link front classes paths m main (BadLink fault) =
    say (front ++ refusal_text (map outline_of classes) paths core_outlines m.options (slashed main) fault) (BadLink fault)
say_link front classes paths m main status = Refuse status
