-- What the plan of `run` gave shows in terms of the files.
use Rattle.std.proofs.Common.{◌≡◌, ◌≤◌, ◌<◌, ℕ, Bool, true, false, List, ◌∷◌, ◌++◌, length, IfSome, Some, Result, Ok, Err, inl, inr, ◌⊎◌, refl, ap, sym, ◌∙◌, arith}
use Rattle.vx_io.specs.Call.{Reading}
use Rattle.vx_io.specs.Held.{Held, FilesState, contents}
use Rattle.vx_io.specs.Sink.{SinkState}
use Rattle.vx_class.specs.declared.class_file.ClassFile.{ClassFile}
use Rattle.vx_class.specs.Class.{class_of}
use Rattle.vx_model.specs.declared.model.Model.{Model}
use Rattle.vx_model.specs.Models.{is_allowed}
use Rattle.vx_model.specs.Text.{BadLine}
use Rattle.vx_link.specs.Linked.{linked_program}
use Rattle.vx_link.specs.declared.fault.LinkFault.{LinkFault}
use Rattle.vx_link.specs.declared.program.Program.{Program}
use Rattle.vx_plans.specs.declared.status.Status.{Status}
use Rattle.vx_plans.specs.declared.status.Status.TheVariants.{Done, NoMemory, ReadFault, WriteFault, BadModel, NoConfiguration, BadClass, BadLink, TooLarge}
use Rattle.vx_cli.specs.Causes.{HasClasses, IsReached, IsModelOf, IsGoodModel, IsNotLinked, AreAll, class_bytes, InputCause, RunCause, Shows, IsShown, IsGood, NothingFails}
use Rattle.vx_cli.specs.Command.{Run}
use Rattle.vx_plans.specs.Job.{model_of, or_bad_link, or_bad_model, program_in, slashed, spelled_model, Report}
use Rattle.vx_plans.specs.Plan.{Plan, MayGive, Write, If_allowed, AllowsSome, AllowsNone, attempt, Outcome}
use Rattle.vx_inputs.specs.ModelFile.{read_model}
use Rattle.vx_inputs.specs.Folder.{read_folder, most_classes}
use Rattle.vx_run_commands.specs.Run.{run_classes, run_plan}
use Rattle.vx_plans.specs.Sized.{most_bytes}
use Rattle.vx_cli.proofs.FolderShown.{FolderShows, class_at, classes_alone, folder_shows, same_given}
use Rattle.vx_plans.proofs.Told.{told_map, told_both, IsText, SizedShows, sized_shows, attempt_cases, ok_and_err, same_value}

-- ---- the model

-- a text is refused by its first bad line
bad_model_refused : (r : Result Model BadLine) (status : Status) → or_bad_model r ≡ Err status → (line : ℕ) × (reason : ℕ) × (status ≡ BadModel line reason)
bad_model_refused (Err bad) status e = (bad.line, bad.reason, cc)
bad_model_refused (Ok model) status e = cc

pub model_refused : (path bytes : List ℕ) (status : Status) → model_of path bytes ≡ Err status → (line : ℕ) × (reason : ℕ) × (status ≡ BadModel line reason)
model_refused path bytes status e = bad_model_refused (spelled_model path bytes) status e

abbrev ModelShows : FilesState → FilesState → List ℕ → List ℕ → List ℕ → (Model → Plan) → Outcome → Type 0
ModelShows old new folder path main next outcome =
    ((status : Status) × (outcome ≡ Err status) × RunCause old new folder path main status)
    ⊎ ((model : Model) × IfSome old.held (λ held. IsGoodModel held path model) × MayGive old.held old.faults new.faults (next model) outcome)

model_shows : (old new : FilesState) (folder path main : List ℕ) (next : Model → Plan) (outcome : Outcome)
    → MayGive old.held old.faults new.faults (read_model path next) outcome → ModelShows old new folder path main next outcome
model_shows old new folder path main next outcome g = by_file (sized_shows old new most_bytes path path _ outcome g)
  where
    is_refused : (bytes : List ℕ) (refusal status : Status) → IsText old most_bytes path bytes → model_of path bytes ≡ Err refusal → refusal ≡ status → IfSome old.held (λ held. (length (contents held path) ≤ most_bytes) × (model_of path (contents held path) ≡ Err status))
    is_refused bytes refusal status told bad is = told_map old.held _ _ (λ held h. (h.0, ap (model_of path) (sym h.1) ∙ bad ∙ ap Err is)) told

    by_refusal : (bytes : List ℕ) (status : Status) → IsText old most_bytes path bytes → model_of path bytes ≡ Err status → outcome ≡ Err status
        → (line : ℕ) × (reason : ℕ) × (status ≡ BadModel line reason) → ModelShows old new folder path main next outcome
    by_refusal bytes status told bad is e = inl (BadModel e.0 e.1, is ∙ ap Err e.2, is_refused bytes status (BadModel e.0 e.1) told bad e.2)

    is_model : (bytes : List ℕ) (model : Model) (held : Held) → model_of path bytes ≡ Ok model → (length (contents held path) ≤ most_bytes) × (bytes ≡ contents held path) → IsModelOf held path model
    is_model bytes model held taken h = record { fits = h.0; reads = ap (model_of path) (sym h.1) ∙ taken }

    by_allowed : (bytes : List ℕ) (model : Model) → IsText old most_bytes path bytes → model_of path bytes ≡ Ok model
        → (AllowsNone model × (outcome ≡ Err NoConfiguration)) ⊎ (AllowsSome model × MayGive old.held old.faults new.faults (next model) outcome) → ModelShows old new folder path main next outcome
    by_allowed bytes model told taken (inl none) = inl (NoConfiguration, none.1, told_map old.held _ _ (λ held h. (model, is_model bytes model held taken h, none.0)) told)
    by_allowed bytes model told taken (inr some) = inr (model, told_map old.held _ _ (λ held h. record { spelled = is_model bytes model held taken h; allows = some.0 }) told, some.1)

    by_test : (bytes : List ℕ) → IsText old most_bytes path bytes
        → ((status : Status) × (model_of path bytes ≡ Err status) × (outcome ≡ Err status)) ⊎ ((model : Model) × (model_of path bytes ≡ Ok model) × MayGive old.held old.faults new.faults (If_allowed model (next model)) outcome) → ModelShows old new folder path main next outcome
    by_test bytes told (inl bad) = by_refusal bytes bad.0 told bad.1 bad.2 (model_refused path bytes bad.0 bad.1)
    by_test bytes told (inr good) = by_allowed bytes good.0 told good.1 good.2

    by_file : SizedShows old new most_bytes path path (λ t. attempt (model_of path t) (λ m. If_allowed m (next m))) outcome → ModelShows old new folder path main next outcome
    by_file (inl (inl fault)) = inl (ReadFault path, fault.1, inl (refl, fault.0))
    by_file (inl (inr large)) = inl (TooLarge path most_bytes, large.1, inl (refl, refl, large.0))
    by_file (inr read) = by_test read.0 read.1 (attempt_cases old.held old.faults new.faults (model_of path read.0) _ outcome read.3)

-- ---- the whole run

-- what refuses the files of any command that links them refuses them here
run_cause : (old new : FilesState) (folder model main : List ℕ) (status : Status) → InputCause old new folder model status → RunCause old new folder model main status
run_cause old new folder model main NoConfiguration cause = absurd cause
run_cause old new folder model main (BadLink fault) cause = absurd cause
run_cause old new folder model main status cause = cause

-- class files are refused by their first fault
refused_link : (r : Result Program LinkFault) (status : Status) → or_bad_link r ≡ Err status → (fault : LinkFault) × (status ≡ BadLink fault) × (r ≡ Err fault)
refused_link (Ok program) status e = cc
refused_link (Err fault) status e = (fault, cc, refl)

pub refused_program : (main : List ℕ) (model : Model) (classes : List ClassFile) (status : Status) → program_in main model classes ≡ Err status
    → (fault : LinkFault) × (status ≡ BadLink fault) × (linked_program classes model.options (slashed main) ≡ Err fault)
unfolding program_in
refused_program main model classes status e = refused_link (linked_program classes model.options (slashed main)) status e

-- class files with a fault are refused
pub faulty_program : (main : List ℕ) (model : Model) (classes : List ClassFile) (fault : LinkFault) → linked_program classes model.options (slashed main) ≡ Err fault
    → program_in main model classes ≡ Err (BadLink fault)
unfolding program_in
faulty_program main model classes fault e = ap or_bad_link e

-- whatever the plan of `run` gave is shown by the files
pub run_shows : (old new : FilesState) (watched : Bool) (folder path main : List ℕ) (limit version : ℕ) (outcome : Outcome) → MayGive old.held old.faults new.faults (run_plan folder path main limit version) outcome → Shows old new (Run watched folder path main limit version) outcome
run_shows old new watched folder path main limit version outcome g = by_model (model_shows old new folder path main _ outcome g)
  where
    refused : (status : Status) → outcome ≡ Err status → RunCause old new folder path main status → Shows old new (Run watched folder path main limit version) outcome
    refused status e cause = rw e cause

    by_refusal : (model : Model) (paths : List (List ℕ)) (classes : List ClassFile) → IfSome old.held (λ held. IsGoodModel held path model) → IfSome old.held (λ held. AreAll held folder paths classes)
        → (status : Status) → outcome ≡ Err status → (fault : LinkFault) × (status ≡ BadLink fault) × (linked_program classes model.options (slashed main) ≡ Err fault)
        → Shows old new (Run watched folder path main limit version) outcome
    by_refusal model paths classes modeled all status is n =
        refused (BadLink n.0) (is ∙ ap Err n.1) (told_both old.held _ _ _ (λ held m h. record { model = model; modeled = m; paths = paths; classes = classes; all = h; faulty = n.2 }) modeled all)

    by_program : (model : Model) (paths : List (List ℕ)) (classes : List ClassFile) → IfSome old.held (λ held. IsGoodModel held path model) → IfSome old.held (λ held. AreAll held folder paths classes)
        → ((status : Status) × (program_in main model classes ≡ Err status) × (outcome ≡ Err status)) ⊎ ((program : Program) × (program_in main model classes ≡ Ok program) × MayGive old.held old.faults new.faults (Write (Report version model limit program)) outcome)
        → Shows old new (Run watched folder path main limit version) outcome
    by_program model paths classes modeled all (inl bad) = by_refusal model paths classes modeled all bad.0 bad.2 (refused_program main model classes bad.0 bad.1)
    by_program model paths classes modeled all (inr good) =
        let written = good.2 in
        rw written.2 (inl (
          refl,
          told_both old.held _ _ _ (λ held m h. record {
            model = model;
            modeled = m;
            paths = paths;
            classes = classes;
            all = h;
            reported = record { program = good.0; is_program = good.1; is_report = written.1 };
          }) modeled all,
        ))

    by_folder : (model : Model) → IfSome old.held (λ held. IsGoodModel held path model) → FolderShows class_of (λ class. class) old new folder path (run_classes main limit version model) outcome → Shows old new (Run watched folder path main limit version) outcome
    by_folder model modeled (inl stop) = refused stop.0 stop.1 (run_cause old new folder path main stop.0 stop.2)
    by_folder model modeled (inr read) = by_program model read.0 read.1 modeled read.2 (attempt_cases old.held old.faults new.faults (program_in main model read.1) _ outcome read.4)

    by_model : ModelShows old new folder path main (λ model. read_folder class_of folder (run_classes main limit version model)) outcome → Shows old new (Run watched folder path main limit version) outcome
    by_model (inl stop) = refused stop.0 stop.1 stop.2
    by_model (inr modeled) = by_folder modeled.0 modeled.1 (folder_shows class_of (λ class. class) classes_alone old new folder path (run_classes main limit version modeled.0) outcome modeled.2)

-- a run over good files, in which nothing fails, is done
pub run_completes : (old new : FilesState) (out out' : SinkState) (watched : Bool) (folder model main : List ℕ) (limit version : ℕ) (held : Held) (status : Status) → old.held ≡ Some held → IsGood held (Run watched folder model main limit version) → NothingFails held old new out out' (Run watched folder model main limit version)
    → IsShown old new out out' (Run watched folder model main limit version) status → (status ≡ Done) ⊎ (status ≡ NoMemory)
run_completes old new out out' watched folder model main limit version held status told good fails shown = by_status status shown
  where
    here : (P : Held → Type 0) → IfSome old.held P → P held
    here P h = rw told at h

    is_reached : (path : List ℕ) → IsReached held folder path → (length (class_bytes held folder path) ≤ most_bytes) × ((class : ClassFile) × (class_of (class_bytes held folder path) ≡ Ok class))
    is_reached path r = let k = good.2 (r.before ++ path ∷ r.after) r.listed in class_at held folder path r.before r.after k.0 k.1.good

    not_linked : (fault : LinkFault) → IsNotLinked held folder model main fault → ⊥
    not_linked fault h =
        let n = good.2 h.paths h.all.listed in
        let m : h.model ≡ good.0 = same_value h.model good.0 _ h.modeled.spelled.reads good.1.spelled.reads in
        let classes : h.classes ≡ n.0 = same_given class_of held folder h.paths h.classes n.0 h.all.good n.1.good in
        ok_and_err n.2.0 (BadLink fault) (program_in main h.model h.classes) (rw (m, classes) n.2.1) (faulty_program main h.model h.classes fault h.faulty)

    bad_model : (s : Status) → IfSome old.held (λ held. (length (contents held model) ≤ most_bytes) × (model_of model (contents held model) ≡ Err s)) → ⊥
    bad_model s h = ok_and_err good.0 s _ good.1.spelled.reads (here (λ held. (length (contents held model) ≤ most_bytes) × (model_of model (contents held model) ≡ Err s)) h).1

    no_configuration : (m : Model) × IsModelOf held model m × AllowsNone m → ⊥
    no_configuration h =
        let m : h.0 ≡ good.0 = same_value h.0 good.0 _ h.1.reads good.1.spelled.reads in
        let none : is_allowed good.0 good.1.allows.0 ≡ false = (rw m at h.2) good.1.allows.0 in
        let clash : true ≡ false = sym good.1.allows.1 ∙ none in
        cc

    by_status : (s : Status) → IsShown old new out out' (Run watched folder model main limit version) s → (s ≡ Done) ⊎ (s ≡ NoMemory)
    by_status Done h = inl refl
    by_status NoMemory h = inr refl
    by_status WriteFault h = absurd (fails.3 h.0)
    by_status (ReadFault path) h = absurd (elim h.0 [
      | inl m ↦ (let e = ap (λ p. new.faults (Reading p)) m.0 in omega (arith, m.1, fails.0))
      | inr k ↦ elim k [ inl l ↦ omega (arith, l.1, fails.1) | inr c ↦ omega (arith, c.1, fails.2 path (here (λ held. IsReached held folder path) c.2)) ]
    ])
    by_status (BadClass path at reason) h =
        let k = here (λ held. IsReached held folder path × (class_of (class_bytes held folder path) ≡ Err (record { at = at; reason = reason }))) h.0 in
        let r = is_reached path k.0 in
        absurd (ok_and_err r.1.0 (record { at = at; reason = reason }) _ r.1.1 k.1)
    by_status (BadLink fault) h = absurd (not_linked fault (here (λ held. IsNotLinked held folder model main fault) h.0))
    by_status (TooLarge path room) h = absurd (elim h.0 [
      | inl m ↦ (let k = here (λ held. most_bytes < length (contents held model)) m.2 in omega (arith, k, good.1.spelled.fits))
      | inr n ↦ elim n [
        | inl f ↦ (let k = here (λ held. (paths : List (List ℕ)) × HasClasses held folder paths × (most_classes < length paths)) f.2 in omega (arith, k.2, (good.2 k.0 k.1).1.few))
        | inr c ↦ (let k = here (λ held. IsReached held folder path × (most_bytes < length (class_bytes held folder path))) c.1 in omega (arith, k.1, (is_reached path k.0).0))
      ]
    ])
    by_status (BadModel line reason) h = absurd (bad_model (BadModel line reason) h.0)
    by_status NoConfiguration h = absurd (no_configuration (here (λ held. (m : Model) × IsModelOf held model m × AllowsNone m) h.0))
    by_status s h = absurd h.0
