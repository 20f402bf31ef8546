-- The plan of `doctor`: that of `run`, but that each refusal is said, and that what is told of a program stands in the place of its report.
use Rattle.std.specs.Prelude.{List, [], length, map, ℕ, ◌+◌, ◌++◌, ◌∷◌}
use Rattle.vx_inputs.specs.Folder.{class_paths, most_classes, or_bad_class, place_of}
use Rattle.vx_inputs.specs.Traced.{traced_of}
use Rattle.vx_inputs.specs.declared.taken.Traced.{Traced}
use Rattle.vx_model.specs.declared.model.Model.{Model}
use Rattle.vx_plans.specs.Health.{classes_part, first_line, model_part}
use Rattle.vx_plans.specs.Job.{Health, is_dimacs_path, model_of, program_in, slashed}
use Rattle.vx_plans.specs.Plan.{By_allowed, List_below, Plan, Read, Write}
use Rattle.vx_plans.specs.Sized.{most_bytes, too_large}
use Rattle.vx_plans.specs.declared.status.Status.TheVariants.{ReadFault}
use Rattle.vx_class.specs.declared.class_file.ClassFile.{ClassFile}
use Rattle.vx_doctor_command.specs.Saying.{bytes, class_files, or_say, say_class, say_link, say_model, say_none, say_unread, value_or_say}

-- reads a file for which there is so much room, behind a text; where it has more bytes, that is said
abbrev pub read_told : (front : List ℕ) → (room : ℕ) → (place shown : List ℕ) → (List ℕ → Plan) → Plan
read_told front room place shown next =
    Read place (room + 1) (ReadFault shown) (λ text. or_say (too_large shown room (length text)) (say_unread front bytes) (next text))

-- reads a class file, behind a text
abbrev pub read_class_told : (front folder path : List ℕ) → (Traced → Plan) → Plan
read_class_told front folder path next =
    read_told front most_bytes (place_of folder path) path (λ text. value_or_say (or_bad_class path (traced_of text)) (say_class front text) next)

-- reads the class files at these paths, one after another, and goes on with them behind those before
abbrev pub read_classes_told : (front folder : List ℕ) → (List Traced → Plan) → List Traced → List (List ℕ) → Plan
read_classes_told front folder next done [] = next done
read_classes_told front folder next done (path ∷ paths) =
    read_class_told front folder path (λ more. read_classes_told front folder next (done ++ more ∷ []) paths)

-- lists a folder, behind a text, and goes on with the paths of its class files
abbrev pub list_told : (front folder : List ℕ) → (List (List ℕ) → Plan) → Plan
list_told front folder next =
    List_below folder (ReadFault folder) (λ paths. or_say (too_large folder most_classes (length (class_paths paths))) (say_unread front class_files) (next (class_paths paths)))

abbrev pub classes_of : List Traced → List ClassFile
classes_of traced = map (λ t. t.class) traced

-- what is told of class files that were read
abbrev pub doctor_classes : (path text main : List ℕ) → Model → (paths : List (List ℕ)) → List Traced → Plan
doctor_classes path text main model paths traced =
    value_or_say (program_in main model (classes_of traced))
    (say_link (classes_part (is_dimacs_path path) text model (classes_of traced)) (classes_of traced) paths model main)
    (λ program. Write (Health (is_dimacs_path path) text model (classes_of traced) (map (λ t. t.lines) traced) (slashed main) program))

-- behind a model that allows a configuration, the folder
abbrev pub doctor_paths : (folder path text main : List ℕ) → Model → List (List ℕ) → Plan
doctor_paths folder path text main model paths =
    read_classes_told (model_part (is_dimacs_path path) text model) folder (doctor_classes path text main model paths) [] paths

abbrev pub doctor_folder : (folder path text main : List ℕ) → Model → Plan
doctor_folder folder path text main model =
    list_told (model_part (is_dimacs_path path) text model) folder (doctor_paths folder path text main model)

abbrev pub doctor_model : (folder path text main : List ℕ) → Model → Plan
doctor_model folder path text main model = By_allowed model (say_none path text model) (doctor_folder folder path text main model)

-- behind the model's file, what it spells
abbrev pub doctor_text : (folder path main text : List ℕ) → Plan
doctor_text folder path main text = value_or_say (model_of path text) (say_model path text) (doctor_model folder path text main)

-- the plan of `doctor`
abbrev pub doctor_plan : (folder path main : List ℕ) → Plan
doctor_plan folder path main = read_told first_line most_bytes path path (doctor_text folder path main)
