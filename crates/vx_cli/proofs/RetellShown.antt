-- What the plan of `replay` or `trace` gave shows in terms of the files.
use Rattle.std.proofs.Common.{◌≡◌, ℕ, Bool, true, false, List, IfSome, Option, None, Some, map, Result, Ok, Err, inl, inr, ◌⊎◌, refl, ap, ◌∙◌}
use Rattle.std.specs.Prelude.{if◌then◌else◌}
use Rattle.vx_class.specs.declared.class_file.ClassFile.{ClassFile}
use Rattle.vx_class.specs.Class.{class_of}
use Rattle.vx_configuration.specs.Configuration.{configuration_of}
use Rattle.vx_pool.specs.Reading.{Fault, ◌>>=◌}
use Rattle.vx_io.specs.Held.{Held, FilesState}
use Rattle.vx_io.specs.Sink.{SinkState}
use Rattle.vx_link.specs.Linked.{linked_program}
use Rattle.vx_link.specs.declared.fault.LinkFault.{LinkFault}
use Rattle.vx_link.specs.declared.program.Program.{Program}
use Rattle.vx_model.specs.Models.{is_allowed}
use Rattle.vx_model.specs.declared.model.Model.{Model}
use Rattle.vx_plans.specs.declared.status.Status.{Status}
use Rattle.vx_plans.specs.declared.status.Status.TheVariants.{Done, NoMemory, WriteFault, BadLink, NotAllowed}
use Rattle.vx_inputs.specs.declared.taken.Traced.{Traced}
use Rattle.vx_cli.specs.Causes.{AreAll, AreAllGiven, IsModelOf, Shows, IsShown, IsGood, NothingFails, RetellCause, VerifyCause}
use Rattle.vx_cli.specs.Command.{Retell}
use Rattle.vx_plans.specs.Job.{Exactly, names_of, slashed}
use Rattle.vx_plans.specs.Plan.{MayGive, Write, attempt, Outcome}
use Rattle.vx_run_commands.specs.Retell.{allowed_at, if_allowed, retell_classes, retell_plan, retold_text, traced_program}
use Rattle.vx_run_commands.specs.declared.words.Retelling.{Retelling}
use Rattle.vx_inputs.specs.Folder.{read_folder}
use Rattle.vx_inputs.specs.Traced.{traced_of, with_source}
use Rattle.vx_cli.proofs.FolderShown.{FolderShows, GivesClasses, all_classes, folder_shows}
use Rattle.vx_cli.proofs.RunShown.{refused_program}
use Rattle.vx_plans.proofs.Told.{told_map, told_both, attempt_cases, ok_and_err, same_value}
use Rattle.vx_cli.proofs.VerifyShown.{ModelShows, input_cause, model_shows, no_cause}

-- ---- the class files

-- a class is read with what it says of its source where it is read alone
pub traced_classes : GivesClasses traced_of (λ t. t.class)
traced_classes = record { spelled = λ bytes x e. is_class bytes (class_of bytes) x e; refused = λ bytes fault e. is_none bytes (class_of bytes) fault e }
  where
    is_class : (bytes : List ℕ) (r : Result ClassFile Fault) (x : Traced) → (r >>= λ class. Ok (with_source bytes class)) ≡ Ok x → r ≡ Ok x.class
    is_class bytes (Ok class) x e = let same : with_source bytes class ≡ x = cc in ap (λ (t : Traced). Ok t.class) same
    is_class bytes (Err fault) x e = cc

    is_none : (bytes : List ℕ) (r : Result ClassFile Fault) (fault : Fault) → (r >>= λ class. Ok (with_source bytes class)) ≡ Err fault → r ≡ Err fault
    is_none bytes (Ok class) fault e = cc
    is_none bytes (Err other) fault e = cc

pub all_read : (held : Held) (folder : List ℕ) (paths : List (List ℕ)) (traced : List Traced) → AreAllGiven traced_of held folder paths traced → AreAll held folder paths (map (λ (t : Traced). t.class) traced)
all_read held folder paths traced h = record { listed = h.listed; few = h.few; good = all_classes traced_classes held folder paths traced h.good }

-- ---- the whole

-- a configuration is refused as not allowed alone
not_allowed_alone : (model : Model) (o : Option (List Bool)) (status : Status) → if_allowed model o ≡ Err status → status ≡ NotAllowed
not_allowed_alone model None status e = cc
not_allowed_alone model (Some c) status e = by_test (is_allowed model c) e
  where
    by_test : (b : Bool) → (if b then Ok c else Err NotAllowed) ≡ Err status → status ≡ NotAllowed
    by_test true e = cc
    by_test false e = cc

-- what refuses the files of `verify` refuses them here
retell_cause : (old new : FilesState) (folder model main word : List ℕ) (status : Status) → VerifyCause old new folder model main status → RetellCause old new folder model main word status
retell_cause old new folder model main word NotAllowed cause = absurd cause
retell_cause old new folder model main word status cause = cause

-- whatever that plan gave is shown by the files
pub retell_shows : (old new : FilesState) (retelling : Retelling) (folder path main : List ℕ) (limit : ℕ) (word : List ℕ) (outcome : Outcome) → MayGive old.held old.faults new.faults (retell_plan retelling folder path main limit word) outcome → Shows old new (Retell retelling folder path main limit word) outcome
retell_shows old new retelling folder path main limit word outcome g =
    by_model (model_shows old new folder path (λ model. attempt (allowed_at model word) (λ c. read_folder traced_of folder (retell_classes retelling main limit model c))) outcome g)
  where
    refused : (status : Status) → outcome ≡ Err status → RetellCause old new folder path main word status → Shows old new (Retell retelling folder path main limit word) outcome
    refused status e cause = rw e cause

    by_refusal : (model : Model) (paths : List (List ℕ)) (traced : List Traced) → IfSome old.held (λ held. IsModelOf held path model) → IfSome old.held (λ held. AreAllGiven traced_of held folder paths traced)
        → (status : Status) → outcome ≡ Err status → (fault : LinkFault) × (status ≡ BadLink fault) × (linked_program (map (λ (t : Traced). t.class) traced) model.options (slashed main) ≡ Err fault)
        → Shows old new (Retell retelling folder path main limit word) outcome
    by_refusal model paths traced modeled all status is n =
        refused (BadLink n.0) (is ∙ ap Err n.1) (told_both old.held _ _ _ (λ held m h. record {
          model = model;
          modeled = m;
          paths = paths;
          classes = map (λ (t : Traced). t.class) traced;
          all = all_read held folder paths traced h;
          faulty = n.2;
        }) modeled all)

    by_program : (model : Model) (c : List Bool) (paths : List (List ℕ)) (traced : List Traced) → IfSome old.held (λ held. IsModelOf held path model) → allowed_at model word ≡ Ok c → IfSome old.held (λ held. AreAllGiven traced_of held folder paths traced)
        → ((status : Status) × (traced_program main model traced ≡ Err status) × (outcome ≡ Err status))
        ⊎ ((program : Program) × (traced_program main model traced ≡ Ok program) × MayGive old.held old.faults new.faults (Write (Exactly (retold_text retelling limit c traced program))) outcome)
        → Shows old new (Retell retelling folder path main limit word) outcome
    by_program model c paths traced modeled allowed all (inl bad) = by_refusal model paths traced modeled all bad.0 bad.2 (refused_program main model (map (λ (t : Traced). t.class) traced) bad.0 bad.1)
    by_program model c paths traced modeled allowed all (inr good) =
        let written = good.2 in
        rw written.2 (inl (
          refl,
          told_both old.held _ _ _ (λ held m h. record {
            model = model;
            modeled = m;
            configuration = c;
            allowed = allowed;
            paths = paths;
            traced = traced;
            all = h;
            retold = record { program = good.0; is_program = good.1; is_text = written.1 };
          }) modeled all,
        ))

    by_folder : (model : Model) (c : List Bool) → IfSome old.held (λ held. IsModelOf held path model) → allowed_at model word ≡ Ok c → FolderShows traced_of (λ t. t.class) old new folder path (retell_classes retelling main limit model c) outcome → Shows old new (Retell retelling folder path main limit word) outcome
    by_folder model c modeled allowed (inl stop) = refused stop.0 stop.1 (retell_cause old new folder path main word stop.0 (input_cause old new folder path main stop.0 stop.2))
    by_folder model c modeled allowed (inr read) = by_program model c read.0 read.1 modeled allowed read.2 (attempt_cases old.held old.faults new.faults (traced_program main model read.1) _ outcome read.4)

    by_choice : (model : Model) → IfSome old.held (λ held. IsModelOf held path model)
        → ((status : Status) × (allowed_at model word ≡ Err status) × (outcome ≡ Err status))
        ⊎ ((c : List Bool) × (allowed_at model word ≡ Ok c) × MayGive old.held old.faults new.faults (read_folder traced_of folder (retell_classes retelling main limit model c)) outcome)
        → Shows old new (Retell retelling folder path main limit word) outcome
    by_choice model modeled (inl bad) =
        let is = not_allowed_alone model (configuration_of (names_of model) word) bad.0 bad.1 in
        refused NotAllowed (bad.2 ∙ ap Err is) (told_map old.held _ _ (λ held h. (model, h, bad.1 ∙ ap Err is)) modeled)
    by_choice model modeled (inr good) = by_folder model good.0 modeled good.1 (folder_shows traced_of (λ t. t.class) traced_classes old new folder path (retell_classes retelling main limit model good.0) outcome good.2)

    by_model : ModelShows old new folder path (λ model. attempt (allowed_at model word) (λ c. read_folder traced_of folder (retell_classes retelling main limit model c))) outcome → Shows old new (Retell retelling folder path main limit word) outcome
    by_model (inl stop) = refused stop.0 stop.1 (retell_cause old new folder path main word stop.0 (input_cause old new folder path main stop.0 stop.2))
    by_model (inr modeled) = by_choice modeled.0 modeled.1 (attempt_cases old.held old.faults new.faults (allowed_at modeled.0 word) _ outcome modeled.2)

-- the run of an allowed configuration of good files, where nothing fails, is done
pub retell_completes : (old new : FilesState) (out out' : SinkState) (retelling : Retelling) (folder model main : List ℕ) (limit : ℕ) (word : List ℕ) (held : Held) (status : Status) → old.held ≡ Some held → IsGood held (Retell retelling folder model main limit word)
    → NothingFails held old new out out' (Retell retelling folder model main limit word) → IsShown old new out out' (Retell retelling folder model main limit word) status → (status ≡ Done) ⊎ (status ≡ NoMemory)
retell_completes old new out out' retelling folder model main limit word held status told good fails shown = by_status status shown
  where
    here : (P : Held → Type 0) → IfSome old.held P → P held
    here P h = rw told at h

    allowed : (m : Model) × IsModelOf held model m × (allowed_at m word ≡ Err NotAllowed) → ⊥
    allowed h =
        let m : h.0 ≡ good.0 = same_value h.0 good.0 _ h.1.reads good.1.reads in
        ok_and_err good.2.0 NotAllowed (allowed_at good.0 word) good.2.1 (rw m at h.2)

    by_status : (s : Status) → IsShown old new out out' (Retell retelling folder model main limit word) s → (s ≡ Done) ⊎ (s ≡ NoMemory)
    by_status Done h = inl refl
    by_status NoMemory h = inr refl
    by_status WriteFault h = absurd (fails.3 h.0)
    by_status NotAllowed h = absurd (allowed (here (λ held. (m : Model) × IsModelOf held model m × (allowed_at m word ≡ Err NotAllowed)) h.0))
    by_status s h = absurd (no_cause old new out out' folder model main held s told (good.0, good.1, good.3) fails h.0)
