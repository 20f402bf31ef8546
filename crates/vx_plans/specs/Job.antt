-- The job of `run`: what the bytes of a model and of class files ask for.
use Rattle.std.specs.Prelude.{◌≡◌, ◌≢◌, ◌⊎◌, ℕ, Bool, true, List, length, map, ◌||◌, if◌then◌else◌, codes, Ok, Err, nat_eq}
use Rattle.std.specs.declared.result.Result.{Result}
use Rattle.std.specs.List.{ends_with}
use Rattle.vx_agree.specs.Text.{IsAgreementText}
use Rattle.vx_class.specs.declared.class_file.ClassFile.{ClassFile}
use Rattle.vx_check.specs.Text.{IsCheckText}
use Rattle.vx_check.specs.declared.expected.Expectation.{Expectation}
use Rattle.vx_compare.specs.Text.{IsComparisonText}
use Rattle.vx_cut.specs.Cuts.{IsCutText}
use Rattle.vx_model.specs.declared.model.Model.{Model}
use Rattle.vx_model.specs.Models.{HasOptionNames, IsModel, is_allowed}
use Rattle.vx_dimacs.specs.Dimacs.{dimacs_of}
use Rattle.vx_join.specs.Text.{IsJoinedText}
use Rattle.vx_link.specs.Linked.{linked_program}
use Rattle.vx_link.specs.declared.fault.LinkFault.{LinkFault}
use Rattle.vx_link.specs.declared.program.Program.{Program}
use Rattle.vx_model.specs.Text.{BadLine, slash}
use Rattle.vx_model.specs.Text as text
use Rattle.vx_people.specs.Tellings.{IsToldText}
use Rattle.vx_people.specs.declared.telling.Telling.{Telling}
use Rattle.vx_report.specs.declared.report.Report as read
use Rattle.vx_reporting.specs.Reported.{IsReported}
use Rattle.vx_lines.specs.declared.table.LineTable.{LineTable}
use Rattle.vx_plans.specs.Health.{IsHealthText}
use Rattle.vx_space.specs.Sets.{IsSet, Sets}
use Rattle.vx_plans.specs.Load.{IsSummary}
use Rattle.vx_plans.specs.Verdicts.{IsVerdictText}
use Rattle.vx_plans.specs.declared.status.Status.{Status}
use Rattle.vx_plans.specs.declared.status.Status.TheVariants.{BadLink, BadModel, NoMemory}

-- whether a path names a class file
abbrev pub is_class_path : List ℕ → Bool
is_class_path path = ends_with nat_eq path (codes ".class")

-- whether a path names a model in DIMACS form
abbrev pub is_dimacs_path : List ℕ → Bool
is_dimacs_path path = ends_with nat_eq path (codes ".cnf") || ends_with nat_eq path (codes ".dimacs")

-- a model, or the refusal of its first bad line
abbrev pub or_bad_model : Result Model BadLine → Result Model Status
or_bad_model (Ok model) = Ok model
or_bad_model (Err bad) = Err (BadModel bad.line bad.reason)

-- the model that the bytes of a file of this path spell, or the first bad line
abbrev pub spelled_model : List ℕ → List ℕ → Result Model BadLine
spelled_model path bytes = if is_dimacs_path path then dimacs_of bytes else text.model_of bytes

-- the model of a file of this path, or the refusal
abbrev pub model_of : List ℕ → List ℕ → Result Model Status
model_of path bytes = or_bad_model (spelled_model path bytes)

-- a model whose options a space has, with the set of the configurations that it allows, of which there is one
pub record IsModeled {I : Type 0} (model : Model) (sets : Sets I) (allowed : I) : Type 0 where
  pub lawful : IsModel model
  pub names : HasOptionNames model
  pub allows : (c : List Bool) × (is_allowed model c ≡ true)
  pub options : sets.options ≡ length model.options
  pub is_set : IsSet sets allowed (is_allowed model)
  pub some : allowed ≢ sets.never

abbrev pub names_of : Model → List (List ℕ)
names_of model = map (λ option. option.name) model.options

-- a name of a class with `/` for `.`
abbrev pub slashed : List ℕ → List ℕ
slashed name = map slash name

-- a program, or the refusal of the first fault of linking
abbrev pub or_bad_link : Result Program LinkFault → Result Program Status
or_bad_link (Ok program) = Ok program
or_bad_link (Err fault) = Err (BadLink fault)

-- the program that class files link to with the core classes, a model's options and a main class, or the refusal
unfoldable pub program_in : List ℕ → Model → List ClassFile → Result Program Status
program_in main model classes = or_bad_link (linked_program classes model.options (slashed main))

-- why class files give no program, where they were read: memory, or the first fault of linking
abbrev pub IsNoProgram : (main : List ℕ) → Model → List ClassFile → Status → Type 0
IsNoProgram main model classes status = (status ≡ NoMemory) ⊎ (program_in main model classes ≡ Err status)

-- what a command makes: the report of a program's runs, of a version, with a model's options and the limit on attempts; what is told of a report; where two reports agree; the join of several reports; the summary of the workload of a seed and a number of options; the verdict over a program; the parts of a model's text by chosen options; whether the configurations of a report end as is expected; where two reports differ; what is told of a model and of class files that link under it to a program; or these bytes
pub data Product : Type 0 where
  Report : (version : ℕ) (model : Model) (limit : ℕ) (program : Program) → Product
  Told : (telling : Telling) (report : read.Report) → Product
  Agreement : (one other : read.Report) → Product
  Join : (reports : List read.Report) → Product
  Summary : (seed options : ℕ) → Product
  Judged : (program : Program) → Product
  Parts : (dimacs : Bool) (text : List ℕ) (model : Model) (chosen : List Bool) → Product
  Check : (report : read.Report) (expected : List Expectation) → Product
  Comparison : (one other : read.Report) → Product
  Health : (dimacs : Bool) (text : List ℕ) (model : Model) (classes : List ClassFile) (tables : List LineTable) (main : List ℕ) (program : Program) → Product
  Exactly : List ℕ → Product

-- a text is that of a product; a report speaks of the configurations that its model allows
abbrev pub IsTextOf : Product → List ℕ → Type 0
IsTextOf (Report version model limit program) bytes = IsReported version (names_of model) limit (is_allowed model) program bytes
IsTextOf (Told telling report) bytes = IsToldText telling report bytes
IsTextOf (Agreement one other) bytes = IsAgreementText one other bytes
IsTextOf (Join reports) bytes = IsJoinedText reports bytes
IsTextOf (Summary seed options) bytes = IsSummary seed options bytes
IsTextOf (Judged program) bytes = IsVerdictText program bytes
IsTextOf (Parts dimacs text model chosen) bytes = IsCutText dimacs text model chosen bytes
IsTextOf (Check report expected) bytes = IsCheckText report expected bytes
IsTextOf (Comparison one other) bytes = IsComparisonText one other bytes
IsTextOf (Health dimacs text model classes tables main program) bytes = IsHealthText dimacs text model classes tables main program bytes
IsTextOf (Exactly given) bytes = bytes ≡ given

-- a text is the report of the program of these class files under a model
pub record IsReportOf (main : List ℕ) (limit version : ℕ) (model : Model) (classes : List ClassFile) (bytes : List ℕ) : Type 0 where
  pub program : Program
  pub is_program : program_in main model classes ≡ Ok program
  pub is_report : IsTextOf (Report version model limit program) bytes
