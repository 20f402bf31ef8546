-- What the plan of `verify` gave shows in terms of the files.
use Rattle.std.proofs.Common.{◌≡◌, ◌≤◌, ◌<◌, ℕ, List, ◌∷◌, ◌++◌, length, IfSome, Some, Ok, Err, inl, inr, ◌⊎◌, refl, ap, sym, ◌∙◌, arith}
use Rattle.std.specs.Prelude.{All}
use Rattle.vx_io.specs.Call.{Reading}
use Rattle.vx_io.specs.Held.{Held, FilesState, contents}
use Rattle.vx_io.specs.Sink.{SinkState}
use Rattle.vx_class.specs.declared.class_file.ClassFile.{ClassFile}
use Rattle.vx_class.specs.Class.{class_of}
use Rattle.vx_class.specs.File.{Holds}
use Rattle.vx_model.specs.declared.model.Model.{Model}
use Rattle.vx_link.specs.Linked.{linked_program}
use Rattle.vx_link.specs.declared.fault.LinkFault.{LinkFault}
use Rattle.vx_link.specs.declared.program.Program.{Program}
use Rattle.vx_plans.specs.declared.status.Status.{Status}
use Rattle.vx_plans.specs.declared.status.Status.TheVariants.{Done, NoMemory, ReadFault, WriteFault, BadModel, BadClass, BadLink, TooLarge}
use Rattle.vx_cli.specs.Causes.{HasClasses, InputCause, IsReached, IsModelOf, IsUnlinked, AreAll, class_bytes, Shows, IsShown, IsGood, NothingFails, VerifyCause}
use Rattle.vx_cli.specs.Command.{Verify}
use Rattle.vx_plans.specs.Job.{Judged, model_of, program_in, slashed}
use Rattle.vx_plans.specs.Plan.{Plan, MayGive, Write, attempt, Outcome}
use Rattle.vx_inputs.specs.Folder.{most_classes, read_folder}
use Rattle.vx_plans.specs.Sized.{most_bytes}
use Rattle.vx_run_commands.specs.Verify.{IsVerdictOf, judge_classes, verify_plan}
use Rattle.vx_inputs.specs.ModelFile.{read_any_model}
use Rattle.vx_cli.proofs.FolderShown.{FolderShows, class_at, classes_alone, folder_shows, same_given}
use Rattle.vx_cli.proofs.RunShown.{faulty_program, model_refused, refused_program}
use Rattle.vx_plans.proofs.Told.{told_map, told_both, IsText, SizedShows, sized_shows, attempt_cases, ok_and_err, same_value}

-- ---- the model

abbrev pub ModelShows : FilesState → FilesState → List ℕ → List ℕ → (Model → Plan) → Outcome → Type 0
ModelShows old new folder path next outcome =
    ((status : Status) × (outcome ≡ Err status) × InputCause old new folder path status)
    ⊎ ((model : Model) × IfSome old.held (λ held. IsModelOf held path model) × MayGive old.held old.faults new.faults (next model) outcome)

pub model_shows : (old new : FilesState) (folder path : List ℕ) (next : Model → Plan) (outcome : Outcome)
    → MayGive old.held old.faults new.faults (read_any_model path next) outcome → ModelShows old new folder path next outcome
model_shows old new folder path next outcome g = by_file (sized_shows old new most_bytes path path _ outcome g)
  where
    by_refusal : (bytes : List ℕ) (status : Status) → IsText old most_bytes path bytes → model_of path bytes ≡ Err status → outcome ≡ Err status
        → (line : ℕ) × (reason : ℕ) × (status ≡ BadModel line reason) → ModelShows old new folder path next outcome
    by_refusal bytes status told bad is e =
        inl (BadModel e.0 e.1, is ∙ ap Err e.2, told_map old.held _ _ (λ held h. (h.0, ap (model_of path) (sym h.1) ∙ bad ∙ ap Err e.2)) told)

    by_test : (bytes : List ℕ) → IsText old most_bytes path bytes
        → ((status : Status) × (model_of path bytes ≡ Err status) × (outcome ≡ Err status)) ⊎ ((model : Model) × (model_of path bytes ≡ Ok model) × MayGive old.held old.faults new.faults (next model) outcome)
        → ModelShows old new folder path next outcome
    by_test bytes told (inl bad) = by_refusal bytes bad.0 told bad.1 bad.2 (model_refused path bytes bad.0 bad.1)
    by_test bytes told (inr good) = inr (good.0, told_map old.held _ _ (λ held h. record { fits = h.0; reads = ap (model_of path) (sym h.1) ∙ good.1 }) told, good.2)

    by_file : SizedShows old new most_bytes path path (λ t. attempt (model_of path t) next) outcome → ModelShows old new folder path next outcome
    by_file (inl (inl fault)) = inl (ReadFault path, fault.1, inl (refl, fault.0))
    by_file (inl (inr large)) = inl (TooLarge path most_bytes, large.1, inl (refl, refl, large.0))
    by_file (inr read) = by_test read.0 read.1 (attempt_cases old.held old.faults new.faults (model_of path read.0) _ outcome read.3)

-- ---- the whole

-- what refuses the files of any command that links them refuses them here
pub input_cause : (old new : FilesState) (folder model main : List ℕ) (status : Status) → InputCause old new folder model status → VerifyCause old new folder model main status
input_cause old new folder model main (BadLink fault) cause = absurd cause
input_cause old new folder model main status cause = cause

-- The text is that of the verdict over the class files of a folder under a model. The bytes of each were read, so that it meets every check, which the files that are held don't show.
pub record IsJudged (old : FilesState) (folder path main text : List ℕ) : Type 0 where
  pub model : Model
  pub modeled : IfSome old.held (λ held. IsModelOf held path model)
  pub paths : List (List ℕ)
  pub classes : List ClassFile
  pub all : IfSome old.held (λ held. AreAll held folder paths classes)
  pub read : All Holds classes
  pub judged : IsVerdictOf main model classes text

-- what the plan of `verify` gave: the text of a verdict, or a refusal with its cause
abbrev pub VerifyGave : FilesState → FilesState → (folder path main : List ℕ) → Outcome → Type 0
VerifyGave old new folder path main (Ok said) = (said.1 ≡ Done) × IsJudged old folder path main said.0
VerifyGave old new folder path main (Err status) = VerifyCause old new folder path main status

pub verify_gave : (old new : FilesState) (folder path main : List ℕ) (outcome : Outcome) → MayGive old.held old.faults new.faults (verify_plan folder path main) outcome → VerifyGave old new folder path main outcome
verify_gave old new folder path main outcome g = by_model (model_shows old new folder path _ outcome g)
  where
    refused : (status : Status) → outcome ≡ Err status → VerifyCause old new folder path main status → VerifyGave old new folder path main outcome
    refused status e cause = rw e cause

    by_refusal : (model : Model) (paths : List (List ℕ)) (classes : List ClassFile) → IfSome old.held (λ held. IsModelOf held path model) → IfSome old.held (λ held. AreAll held folder paths classes)
        → (status : Status) → outcome ≡ Err status → (fault : LinkFault) × (status ≡ BadLink fault) × (linked_program classes model.options (slashed main) ≡ Err fault)
        → VerifyGave old new folder path main outcome
    by_refusal model paths classes modeled all status is n =
        refused (BadLink n.0) (is ∙ ap Err n.1) (told_both old.held _ _ _ (λ held m h. record { model = model; modeled = m; paths = paths; classes = classes; all = h; faulty = n.2 }) modeled all)

    by_program : (model : Model) (paths : List (List ℕ)) (classes : List ClassFile) → IfSome old.held (λ held. IsModelOf held path model) → IfSome old.held (λ held. AreAll held folder paths classes) → All Holds classes
        → ((status : Status) × (program_in main model classes ≡ Err status) × (outcome ≡ Err status)) ⊎ ((program : Program) × (program_in main model classes ≡ Ok program) × MayGive old.held old.faults new.faults (Write (Judged program)) outcome)
        → VerifyGave old new folder path main outcome
    by_program model paths classes modeled all read (inl bad) = by_refusal model paths classes modeled all bad.0 bad.2 (refused_program main model classes bad.0 bad.1)
    by_program model paths classes modeled all read (inr good) =
        let written = good.2 in
        rw written.2 (
          refl,
          record {
            model = model;
            modeled = modeled;
            paths = paths;
            classes = classes;
            all = all;
            read = read;
            judged = record { program = good.0; is_program = good.1; is_text = written.1 };
          },
        )

    by_folder : (model : Model) → IfSome old.held (λ held. IsModelOf held path model) → FolderShows class_of (λ class. class) old new folder path (judge_classes main model) outcome → VerifyGave old new folder path main outcome
    by_folder model modeled (inl stop) = refused stop.0 stop.1 (input_cause old new folder path main stop.0 stop.2)
    by_folder model modeled (inr found) = by_program model found.0 found.1 modeled found.2 found.3 (attempt_cases old.held old.faults new.faults (program_in main model found.1) _ outcome found.4)

    by_model : ModelShows old new folder path (λ model. read_folder class_of folder (judge_classes main model)) outcome → VerifyGave old new folder path main outcome
    by_model (inl stop) = refused stop.0 stop.1 (input_cause old new folder path main stop.0 stop.2)
    by_model (inr modeled) = by_folder modeled.0 modeled.1 (folder_shows class_of (λ class. class) classes_alone old new folder path (judge_classes main modeled.0) outcome modeled.2)

-- whatever the plan of `verify` gave is shown by the files
pub verify_shows : (old new : FilesState) (folder path main : List ℕ) (outcome : Outcome) → MayGive old.held old.faults new.faults (verify_plan folder path main) outcome → Shows old new (Verify folder path main) outcome
verify_shows old new folder path main (Ok said) g =
    let all = verify_gave old new folder path main (Ok said) g in
    let gave : IsJudged old folder path main said.0 = all.1 in
    inl (all.0, told_both old.held _ _ _ (λ held m h. record { model = gave.model; modeled = m; paths = gave.paths; classes = gave.classes; all = h; judged = gave.judged }) gave.modeled gave.all)
verify_shows old new folder path main (Err status) g = verify_gave old new folder path main (Err status) g

-- nothing refuses good files, where nothing fails
pub no_cause : (old new : FilesState) (out out' : SinkState) (folder model main : List ℕ) (held : Held) (status : Status) → old.held ≡ Some held → IsGood held (Verify folder model main) → NothingFails held old new out out' (Verify folder model main)
    → VerifyCause old new folder model main status → ⊥
no_cause old new out out' folder model main held status told good fails cause = by_status status cause
  where
    here : (P : Held → Type 0) → IfSome old.held P → P held
    here P h = rw told at h

    is_reached : (path : List ℕ) → IsReached held folder path → (length (class_bytes held folder path) ≤ most_bytes) × ((class : ClassFile) × (class_of (class_bytes held folder path) ≡ Ok class))
    is_reached path r = let k = good.2 (r.before ++ path ∷ r.after) r.listed in class_at held folder path r.before r.after k.0 k.1.good

    linked : (fault : LinkFault) → IsUnlinked held folder model main fault → ⊥
    linked fault h =
        let n = good.2 h.paths h.all.listed in
        let m : h.model ≡ good.0 = same_value h.model good.0 _ h.modeled.reads good.1.reads in
        let classes : h.classes ≡ n.0 = same_given class_of held folder h.paths h.classes n.0 h.all.good n.1.good in
        ok_and_err n.2.0 (BadLink fault) (program_in main h.model h.classes) (rw (m, classes) n.2.1) (faulty_program main h.model h.classes fault h.faulty)

    bad_model : (s : Status) → IfSome old.held (λ held. (length (contents held model) ≤ most_bytes) × (model_of model (contents held model) ≡ Err s)) → ⊥
    bad_model s h = ok_and_err good.0 s _ good.1.reads (here (λ held. (length (contents held model) ≤ most_bytes) × (model_of model (contents held model) ≡ Err s)) h).1

    by_status : (s : Status) → VerifyCause old new folder model main s → ⊥
    by_status (ReadFault path) h = elim h [
      | inl m ↦ (let e = ap (λ p. new.faults (Reading p)) m.0 in omega (arith, m.1, fails.0))
      | inr k ↦ elim k [ inl l ↦ omega (arith, l.1, fails.1) | inr c ↦ omega (arith, c.1, fails.2 path (here (λ held. IsReached held folder path) c.2)) ]
    ]
    by_status (BadClass path at reason) h =
        let k = here (λ held. IsReached held folder path × (class_of (class_bytes held folder path) ≡ Err (record { at = at; reason = reason }))) h in
        let r = is_reached path k.0 in
        ok_and_err r.1.0 (record { at = at; reason = reason }) _ r.1.1 k.1
    by_status (BadLink fault) h = linked fault (here (λ held. IsUnlinked held folder model main fault) h)
    by_status (TooLarge path room) h = elim h [
      | inl m ↦ (let k = here (λ held. most_bytes < length (contents held model)) m.2 in omega (arith, k, good.1.fits))
      | inr n ↦ elim n [
        | inl f ↦ (let k = here (λ held. (paths : List (List ℕ)) × HasClasses held folder paths × (most_classes < length paths)) f.2 in omega (arith, k.2, (good.2 k.0 k.1).1.few))
        | inr c ↦ (let k = here (λ held. IsReached held folder path × (most_bytes < length (class_bytes held folder path))) c.1 in omega (arith, k.1, (is_reached path k.0).0))
      ]
    ]
    by_status (BadModel line reason) h = bad_model (BadModel line reason) h
    by_status s h = h

-- a verdict over good files, in which nothing fails, is given
pub verify_completes : (old new : FilesState) (out out' : SinkState) (folder model main : List ℕ) (held : Held) (status : Status) → old.held ≡ Some held → IsGood held (Verify folder model main) → NothingFails held old new out out' (Verify folder model main)
    → IsShown old new out out' (Verify folder model main) status → (status ≡ Done) ⊎ (status ≡ NoMemory)
verify_completes old new out out' folder model main held status told good fails shown = by_status status shown
  where
    by_status : (s : Status) → IsShown old new out out' (Verify folder model main) s → (s ≡ Done) ⊎ (s ≡ NoMemory)
    by_status Done h = inl refl
    by_status NoMemory h = inr refl
    by_status WriteFault h = absurd (fails.3 h.0)
    by_status s h = absurd (no_cause old new out out' folder model main held s told good fails h.0)
