-- What `run` made of a model and of class files, in terms of its plan.
use Rattle.std.proofs.Common.{ℕ, List, Result, Ok, Err, refl, IfOk, IfErr, MatchResult, Vec, Global}
use Rattle.vx_io.specs.Held.{FilesState}
use Rattle.vx_plans.specs.declared.status.Status.{Status}
use Rattle.vx_plans.specs.Plan.{Plan, Write, Leads, MayGive, MayStop, done_with}
use Rattle.vx_class.specs.Class.{class_of}
use Rattle.vx_class.specs.declared.class_file.ClassFile.{ClassFile}
use Rattle.vx_model.specs.declared.model.Model.{Model}
use Rattle.vx_plans.specs.Job.{IsNoProgram, IsReportOf, Report as Reported, program_in}
use Rattle.vx_plans.specs.KeepsFiles.{KeepsFiles}
use Rattle.vx_inputs.specs.Folder.{read_folder}
use Rattle.vx_inputs.specs.ModelFile.{read_model}
use Rattle.vx_run_commands.specs.Run.{run_classes, run_plan}
use Rattle.vx_plans.proofs.Plans.{then_leads, keeps_then, attempt_goes, value_stops}

-- what a report was made of, or the refusal in its place
pub run_ok : (old mid new : FilesState) (folder path main : List ℕ) (limit version : ℕ) (model : Model) (classes : List ClassFile) (r : Result (Vec ℕ Global) Status) → KeepsFiles old mid
    → ((next : Model → Plan) → Leads old.held (read_model path next) (next model)) → ((next : List ClassFile → Plan) → Leads mid.held (read_folder class_of folder next) (next classes))
    → MatchResult r (λ text. IsReportOf main limit version model classes text.items) (IsNoProgram main model classes)
    → IfOk r (λ text. MayGive old.held old.faults new.faults (run_plan folder path main limit version) (done_with text.items))
run_ok old mid new folder path main limit version model classes (Err e) keeps modeled found made = tt
run_ok old mid new folder path main limit version model classes (Ok text) keeps modeled found made =
    let there = then_leads (modeled (λ m. read_folder class_of folder (run_classes main limit version m))) (rw keeps.held at (found (run_classes main limit version model))) in
    (then_leads there (attempt_goes old.held (program_in main model classes) (λ p. Write (Reported version model limit p)) made.program made.is_program)).to old.faults new.faults (done_with text.items) (text.items, made.is_report, refl)

pub run_err : (old mid new : FilesState) (folder path main : List ℕ) (limit version : ℕ) (model : Model) (classes : List ClassFile) (r : Result (Vec ℕ Global) Status) → KeepsFiles old mid → KeepsFiles mid new
    → ((next : Model → Plan) → Leads old.held (read_model path next) (next model)) → ((next : List ClassFile → Plan) → Leads mid.held (read_folder class_of folder next) (next classes))
    → MatchResult r (λ text. IsReportOf main limit version model classes text.items) (IsNoProgram main model classes)
    → IfErr r (λ status. MayStop old new (run_plan folder path main limit version) status)
run_err old mid new folder path main limit version model classes (Ok text) keeps more modeled found made = tt
run_err old mid new folder path main limit version model classes (Err status) keeps more modeled found made =
    let there = then_leads (modeled (λ m. read_folder class_of folder (run_classes main limit version m))) (rw keeps.held at (found (run_classes main limit version model))) in
    value_stops old new (run_plan folder path main limit version) (program_in main model classes) (λ p. Write (Reported version model limit p)) status (keeps_then keeps more) there made
