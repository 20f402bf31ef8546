-- The part of a plan that lists a folder and reads its class files.
use Rattle.std.specs.Prelude.{ℕ, List, Option, [], ◌∷◌, ◌++◌, ◌≡◌, ◌≤◌, IfSome, length, filter, Ok, Err}
use Rattle.std.specs.declared.result.Result.{Result}
use Rattle.vx_io.specs.Held.{Held, IsListing}
use Rattle.vx_pool.specs.Reading.{Fault}
use Rattle.vx_plans.specs.declared.status.Status.{Status}
use Rattle.vx_plans.specs.declared.status.Status.TheVariants.{ReadFault, BadClass}
use Rattle.vx_plans.specs.Job.{is_class_path}
use Rattle.vx_plans.specs.Plan.{Plan, List_below, unless, attempt}
use Rattle.vx_plans.specs.Sized.{most_bytes, too_large, read_sized}

-- the room for the class files of a folder
abbrev pub most_classes : ℕ
most_classes = 1024

-- a path below a folder
abbrev pub place_of : List ℕ → List ℕ → List ℕ
place_of folder path = folder ++ 47 ∷ path

-- what a class file gives, or the refusal by its path
abbrev pub or_bad_class : {A : Type 0} → List ℕ → Result A Fault → Result A Status
or_bad_class path (Ok given) = Ok given
or_bad_class path (Err fault) = Err (BadClass path fault.at fault.reason)

-- reads a class file and goes on with what its bytes give: its class, or more
abbrev pub read_checked : {A : Type 0} → (List ℕ → Result A Fault) → List ℕ → List ℕ → (A → Plan) → Plan
read_checked given folder path next = read_sized most_bytes (place_of folder path) path (λ bytes. attempt (or_bad_class path (given bytes)) next)

-- reads the class files at these paths, one after another, and goes on with what they give behind what those before gave
abbrev pub read_classes : {A : Type 0} → (List ℕ → Result A Fault) → List ℕ → (List A → Plan) → List A → List (List ℕ) → Plan
read_classes given folder next front [] = next front
read_classes given folder next front (path ∷ paths) =
    read_checked given folder path (λ more. read_classes given folder next (front ++ more ∷ []) paths)

-- the class files among the paths of a folder
abbrev pub class_paths : List (List ℕ) → List (List ℕ)
class_paths paths = filter is_class_path paths

-- these are the paths of the class files of a folder that was listed, not too many
pub record WasListed (held : Option Held) (folder : List ℕ) (paths : List (List ℕ)) : Type 0 where
  pub listing : List (List ℕ)
  pub told : IfSome held (λ files. IsListing files folder listing)
  pub classes : paths ≡ class_paths listing
  pub few : length paths ≤ most_classes

-- lists the folder and goes on with its class files
abbrev pub list_classes : List ℕ → (List (List ℕ) → Plan) → Plan
list_classes folder next =
    List_below folder (ReadFault folder) (λ paths. unless (too_large folder most_classes (length (class_paths paths))) (next (class_paths paths)))

-- lists a folder and reads its class files
abbrev pub read_folder : {A : Type 0} → (List ℕ → Result A Fault) → List ℕ → (List A → Plan) → Plan
read_folder given folder next = list_classes folder (λ paths. read_classes given folder next [] paths)
