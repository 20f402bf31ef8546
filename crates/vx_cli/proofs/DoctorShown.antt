-- What the plan of `doctor` gave shows in terms of the files.
use Rattle.std.proofs.Common.{◌≡◌, ◌≤◌, ◌<◌, ◌+◌, ℕ, true, false, List, [], ◌∷◌, ◌++◌, length, map, take, IfSome, None, Option, Some, Result, Ok, Err, inl, inr, ◌⊎◌, refl, ap, sym, subst, ◌∙◌, arith, append-nil, append_assoc}
use Rattle.std.proofs.lemmas.List.Elements.{All-nil}
use Rattle.std.specs.List.{AllByRecursion}
use Rattle.std.specs.Prelude.{IsTrue}
use Rattle.vx_io.specs.Call.{Call, Listing, Reading}
use Rattle.vx_io.specs.Held.{Held, FilesState, IsListing, contents}
use Rattle.vx_io.specs.Sink.{Gains, SinkState}
use Rattle.vx_pool.specs.Place.{IsBytes}
use Rattle.vx_class.specs.Class.{class_of}
use Rattle.vx_class.specs.File.{Holds}
use Rattle.vx_class.specs.declared.class_file.ClassFile.{ClassFile}
use Rattle.vx_link.specs.Linked.{linked_program}
use Rattle.vx_link.specs.declared.fault.LinkFault.{LinkFault}
use Rattle.vx_link.specs.declared.program.Program.{Program}
use Rattle.vx_model.specs.Models.{is_allowed}
use Rattle.vx_model.specs.declared.model.Model.{Model}
use Rattle.vx_outlines.specs.Outlines.{outline_of}
use Rattle.vx_outlines.specs.Refusals.{refusal_text}
use Rattle.vx_refusals.specs.Refusals.{class_text, model_text}
use Rattle.vx_inputs.specs.Folder.{class_paths, most_classes, or_bad_class, place_of}
use Rattle.vx_inputs.specs.Traced.{traced_of}
use Rattle.vx_inputs.specs.declared.taken.Traced.{Traced}
use Rattle.vx_plans.specs.Health.{classes_part, first_line, last_line, model_part}
use Rattle.vx_plans.specs.Job.{Exactly, Health, IsTextOf, is_class_path, is_dimacs_path, model_of, program_in, slashed}
use Rattle.vx_plans.specs.Plan.{AllowsNone, AllowsSome, MayGive, Outcome, Plan, Write}
use Rattle.vx_plans.specs.Sized.{most_bytes, too_large}
use Rattle.vx_plans.specs.declared.status.Status.{Status}
use Rattle.vx_plans.specs.declared.status.Status.TheVariants.{BadClass, BadLink, BadModel, Done, NoConfiguration, NoMemory, ReadFault, TooLarge, WriteFault, Failing, Differing}
use Rattle.vx_doctor_command.specs.Doctor.{classes_of, doctor_classes, doctor_folder, doctor_model, doctor_paths, doctor_plan, doctor_text, list_told, read_class_told, read_classes_told, read_told}
use Rattle.vx_doctor_command.specs.Saying.{bytes, class_files, core_outlines, form_of, large_text, none_line, or_say, say, say_class, say_link, say_model, say_none, say_unread, value_or_say}
use Rattle.vx_cli.specs.Causes.{AreAll, AreAllGiven, DoctorCause, HasClasses, InputCause, IsDiagnosis, IsGood, IsGoodModel, IsHealth, IsLargeText, IsModelOf, IsNotLinked, IsReached, IsShown, IsToldStatus, NothingFails, Shows, class_bytes}
use Rattle.vx_cli.specs.Command.{Doctor}
use Rattle.vx_cli.proofs.FolderShown.{AreRead, SoFar, all_filter, class_at, further, one_more_read, reached, same_given, was_given, was_refused}
use Rattle.vx_cli.proofs.RetellShown.{all_read, traced_classes}
use Rattle.vx_cli.proofs.RunShown.{faulty_program, model_refused, refused_program}
use Rattle.vx_plans.proofs.Told.{IsText, large_cases, more, ok_and_err, same_value, told_both, told_map, whole}

-- ---- plans

-- what is said is that text with that status
said_is : (held : Option Held) (before after : Call → ℕ) (text : List ℕ) (status : Status) (outcome : Outcome) → MayGive held before after (say text status) outcome → outcome ≡ Ok (text ++ last_line status, status)
said_is held before after text status outcome g = g.2 ∙ ap (λ t. Ok (t, status)) g.1

-- two things that are told
told_pair : (o : Option Held) (P Q : Held → Type 0) → IfSome o P → IfSome o Q → IfSome o (λ held. P held × Q held)
told_pair None P Q h k = tt
told_pair (Some held) P Q h k = (h, k)

-- a value, or what is said in its place
value_cases : {A : Type 0} (held : Option Held) (before after : Call → ℕ) (value : Result A Status) (refuse : Status → Plan) (next : A → Plan) (outcome : Outcome) → MayGive held before after (value_or_say value refuse next) outcome
    → ((status : Status) × (value ≡ Err status) × MayGive held before after (refuse status) outcome) ⊎ ((x : A) × (value ≡ Ok x) × MayGive held before after (next x) outcome)
value_cases held before after (Ok x) refuse next outcome g = inr (x, refl, g)
value_cases held before after (Err status) refuse next outcome g = inl (status, refl, g)

-- a file that was read in full, one that failed, or one that is too large, which is said
abbrev ToldShows : FilesState → FilesState → (front : List ℕ) → (room : ℕ) → (place shown : List ℕ) → (List ℕ → Plan) → Outcome → Type 0
ToldShows old new front room place shown next outcome =
    ((old.faults (Reading place) < new.faults (Reading place)) × (outcome ≡ Err (ReadFault shown)))
    ⊎ (IfSome old.held (λ held. room < length (contents held place)) × (outcome ≡ Ok (front ++ large_text shown room bytes ++ last_line (TooLarge shown room), TooLarge shown room)))
    ⊎ ((text : List ℕ) × IsText old room place text × IsBytes text × MayGive old.held old.faults new.faults (next text) outcome)

told_shows : (old new : FilesState) (front : List ℕ) (room : ℕ) (place shown : List ℕ) (next : List ℕ → Plan) (outcome : Outcome) → MayGive old.held old.faults new.faults (read_told front room place shown next) outcome → ToldShows old new front room place shown next outcome
told_shows old new front room place shown next outcome (inl g) = inl g
told_shows old new front room place shown next outcome (inr g) = by_size (large_cases shown room (length g.0))
  where
    by_size : ((too_large shown room (length g.0) ≡ None) × (length g.0 ≤ room)) ⊎ ((too_large shown room (length g.0) ≡ Some (TooLarge shown room)) × (room < length g.0)) → ToldShows old new front room place shown next outcome
    by_size (inl fit) = inr (inr (g.0, told_map old.held _ _ (λ held told. whole room g.0 (contents held place) told fit.1) g.3, g.2, (rw fit.0 at g.4)))
    by_size (inr large) =
        let said = rw large.0 at g.4 in
        inr (inl (told_map old.held _ _ (λ held told. more room g.0 (contents held place) told large.1) g.3, said_is old.held old.faults new.faults (front ++ large_text shown room bytes) (TooLarge shown room) outcome said))

-- ---- what was told

-- A text tells of the program of class files under a model. The bytes of each were read, so that it meets every check, which the files that are held don't show.
pub record IsHealthTold (old : FilesState) (folder path main text : List ℕ) : Type 0 where
  pub model : Model
  pub modeled : IfSome old.held (λ held. IsGoodModel held path model)
  pub paths : List (List ℕ)
  pub traced : List Traced
  pub all : IfSome old.held (λ held. AreAllGiven traced_of held folder paths traced)
  pub read : AreRead (λ (t : Traced). t.class) traced
  pub spelled : List ℕ
  pub is_spelled : IfSome old.held (λ held. spelled ≡ contents held path)
  pub program : Program
  pub is_program : program_in main model (classes_of traced) ≡ Ok program
  pub is_text : IsTextOf (Health (is_dimacs_path path) spelled model (classes_of traced) (map (λ t. t.lines) traced) (slashed main) program) text

-- what the plan of `doctor` gave: a text behind which it is done, or one that tells why `run` refuses, or a refusal with its cause
abbrev pub DoctorGave : FilesState → FilesState → (folder path main : List ℕ) → Outcome → Type 0
DoctorGave old new folder path main (Ok said) =
    ((said.1 ≡ Done) × IsHealthTold old folder path main said.0) ⊎ (IsToldStatus said.1 × IfSome old.held (λ held. IsDiagnosis held folder path main said.1 said.0))
DoctorGave old new folder path main (Err status) = DoctorCause old new folder path status

failed : (old new : FilesState) (folder path main : List ℕ) (outcome : Outcome) (shown : List ℕ) → outcome ≡ Err (ReadFault shown) → InputCause old new folder path (ReadFault shown) → DoctorGave old new folder path main outcome
failed old new folder path main outcome shown e cause = rw e cause

told_so : (old new : FilesState) (folder path main : List ℕ) (outcome : Outcome) (status : Status) (text : List ℕ) → outcome ≡ Ok (text, status) → IsToldStatus status → IfSome old.held (λ held. IsDiagnosis held folder path main status text) → DoctorGave old new folder path main outcome
told_so old new folder path main outcome status text e is told = rw e (inr (is, told))

-- ---- class files

-- one fails or is too large or spells no class, which is said; or all were read
abbrev ClassesTold : FilesState → FilesState → (folder model front : List ℕ) → List (List ℕ) → (List Traced → Plan) → Outcome → Type 0
ClassesTold old new folder model front all next outcome =
    ((shown : List ℕ) × (outcome ≡ Err (ReadFault shown)) × InputCause old new folder model (ReadFault shown))
    ⊎ ((shown : List ℕ) × (outcome ≡ Ok (front ++ large_text shown most_bytes bytes ++ last_line (TooLarge shown most_bytes), TooLarge shown most_bytes)) × IfSome old.held (λ held. IsReached held folder shown × (most_bytes < length (class_bytes held folder shown))))
    ⊎ ((shown : List ℕ) × (at : ℕ) × (reason : ℕ) × (text : List ℕ) × (outcome ≡ Ok (front ++ class_text shown text at reason ++ last_line (BadClass shown at reason), BadClass shown at reason))
    × IfSome old.held (λ held. IsReached held folder shown × (class_of (class_bytes held folder shown) ≡ Err (record { at = at; reason = reason })) × (text ≡ class_bytes held folder shown)))
    ⊎ ((xs : List Traced) × IfSome old.held (λ held. SoFar traced_of held folder all [] xs) × AreRead (λ (t : Traced). t.class) xs × MayGive old.held old.faults new.faults (next xs) outcome)

abbrev Continues : FilesState → FilesState → (folder model front : List ℕ) → List (List ℕ) → (List Traced → Plan) → List (List ℕ) → List (List ℕ) → List Traced → Outcome → Type 0
Continues old new folder model front all next paths done xs outcome =
    IfSome old.held (λ held. SoFar traced_of held folder done paths xs) → AreRead (λ (t : Traced). t.class) xs → AllByRecursion (λ path. IsTrue (is_class_path path)) paths
    → MayGive old.held old.faults new.faults (read_classes_told front folder next xs paths) outcome → ClassesTold old new folder model front all next outcome

classes_told : (old new : FilesState) (folder model front : List ℕ) (all : List (List ℕ)) (next : List Traced → Plan) (paths done : List (List ℕ)) (xs : List Traced) (outcome : Outcome) → all ≡ done ++ paths → Continues old new folder model front all next paths done xs outcome
classes_told old new folder model front all next [] done xs outcome is told read named g = inr (inr (inr (xs, rw (is ∙ append-nil done) told, read, g)))
classes_told old new folder model front all next (path ∷ paths) done xs outcome is told read named g =
    by_file (λ x. classes_told old new folder model front all next paths (done ++ path ∷ []) (xs ++ x ∷ []) outcome (is ∙ sym (append_assoc done (path ∷ []) paths)))
    (told_shows old new front most_bytes (place_of folder path) path (λ text. value_or_say (or_bad_class path (traced_of text)) (say_class front text) (λ x. read_classes_told front folder next (xs ++ x ∷ []) paths)) outcome g)
  where
    bad_class : (text : List ℕ) → IsText old most_bytes (place_of folder path) text → (status : Status) → or_bad_class path (traced_of text) ≡ Err status → MayGive old.held old.faults new.faults (say_class front text status) outcome
        → ClassesTold old new folder model front all next outcome
    bad_class text here status bad said =
        let b = was_refused path (traced_of text) status bad in
        let said_bad = rw b.2 at said in
        inr (inr (inl (
          path,
          b.0.at,
          b.0.reason,
          text,
          said_is old.held old.faults new.faults (front ++ class_text path text b.0.at b.0.reason) (BadClass path b.0.at b.0.reason) outcome said_bad,
          told_both old.held _ _ _ (λ held h k. (reached traced_classes held folder path done paths xs h, ap class_of (sym k.1) ∙ traced_classes.refused text b.0 b.1, k.1)) told here,
        )))

    by_test : (text : List ℕ) → IsText old most_bytes (place_of folder path) text → IsBytes text → ((x : Traced) → Continues old new folder model front all next paths (done ++ path ∷ []) (xs ++ x ∷ []) outcome)
        → ((status : Status) × (or_bad_class path (traced_of text) ≡ Err status) × MayGive old.held old.faults new.faults (say_class front text status) outcome)
        ⊎ ((x : Traced) × (or_bad_class path (traced_of text) ≡ Ok x) × MayGive old.held old.faults new.faults (read_classes_told front folder next (xs ++ x ∷ []) paths) outcome)
        → ClassesTold old new folder model front all next outcome
    by_test text here are_bytes rest (inl bad) = bad_class text here bad.0 bad.1 bad.2
    by_test text here are_bytes rest (inr good) =
        let reads = was_given path (traced_of text) good.0 good.1 in
        rest good.0 (told_both old.held _ _ _ (λ held h k. further traced_of held folder path text good.0 done paths xs h k reads) told here) (one_more_read traced_classes text good.0 xs are_bytes reads read) named.1 good.2

    by_file : ((x : Traced) → Continues old new folder model front all next paths (done ++ path ∷ []) (xs ++ x ∷ []) outcome)
        → ToldShows old new front most_bytes (place_of folder path) path (λ text. value_or_say (or_bad_class path (traced_of text)) (say_class front text) (λ x. read_classes_told front folder next (xs ++ x ∷ []) paths)) outcome
        → ClassesTold old new folder model front all next outcome
    by_file rest (inl fault) = inl (path, fault.1, inr (inr (named.0, fault.0, told_map old.held _ _ (λ held h. reached traced_classes held folder path done paths xs h) told)))
    by_file rest (inr (inl large)) = inr (inl (path, large.1, told_both old.held _ _ _ (λ held h k. (reached traced_classes held folder path done paths xs h, k)) told large.0))
    by_file rest (inr (inr file)) =
        by_test file.0 file.1 file.2 rest (value_cases old.held old.faults new.faults (or_bad_class path (traced_of file.0)) (say_class front file.0) (λ x. read_classes_told front folder next (xs ++ x ∷ []) paths) outcome file.3)

-- ---- the whole

pub doctor_gave : (old new : FilesState) (folder path main : List ℕ) (outcome : Outcome) → MayGive old.held old.faults new.faults (doctor_plan folder path main) outcome → DoctorGave old new folder path main outcome
doctor_gave old new folder path main outcome g = by_file (told_shows old new first_line most_bytes path path (doctor_text folder path main) outcome g)
  where
    front : List ℕ → Model → List ℕ
    front text model = model_part (is_dimacs_path path) text model

    -- linking
    unlinked : (text : List ℕ) (model : Model) (paths : List (List ℕ)) (traced : List Traced) → IfSome old.held (λ held. text ≡ contents held path) → IfSome old.held (λ held. IsGoodModel held path model) → IfSome old.held (λ held. AreAllGiven traced_of held folder paths traced)
        → (status : Status) → (fault : LinkFault) × (status ≡ BadLink fault) × (linked_program (classes_of traced) model.options (slashed main) ≡ Err fault)
        → MayGive old.held old.faults new.faults (say_link (classes_part (is_dimacs_path path) text model (classes_of traced)) (classes_of traced) paths model main status) outcome → DoctorGave old new folder path main outcome
    unlinked text model paths traced spells modeled all status n said =
        let refusal = refusal_text (map outline_of (classes_of traced)) paths core_outlines model.options (slashed main) n.0 in
        let said_bad = rw n.1 at said in
        told_so old new folder path main outcome (BadLink n.0) (classes_part (is_dimacs_path path) text model (classes_of traced) ++ refusal ++ last_line (BadLink n.0))
        (said_is old.held old.faults new.faults (classes_part (is_dimacs_path path) text model (classes_of traced) ++ refusal) (BadLink n.0) outcome said_bad) tt
        (told_both old.held _ _ _ (λ held m k. record {
          not_linked = record { model = model; modeled = m; paths = paths; classes = classes_of traced; all = all_read held folder paths traced k.1; faulty = n.2 };
          is_text = ap (λ t. classes_part (is_dimacs_path path) t model (classes_of traced) ++ refusal ++ last_line (BadLink n.0)) k.0;
        }) modeled (told_pair old.held _ _ spells all))

    by_program : (text : List ℕ) (model : Model) (paths : List (List ℕ)) (traced : List Traced) → IfSome old.held (λ held. text ≡ contents held path) → IfSome old.held (λ held. IsGoodModel held path model) → IfSome old.held (λ held. AreAllGiven traced_of held folder paths traced)
        → AreRead (λ (t : Traced). t.class) traced → MayGive old.held old.faults new.faults (doctor_classes path text main model paths traced) outcome → DoctorGave old new folder path main outcome
    by_program text model paths traced spells modeled all read gave = by_link (value_cases old.held old.faults new.faults (program_in main model (classes_of traced)) _ _ outcome gave)
      where
        by_link : ((status : Status) × (program_in main model (classes_of traced) ≡ Err status) × MayGive old.held old.faults new.faults (say_link (classes_part (is_dimacs_path path) text model (classes_of traced)) (classes_of traced) paths model main status) outcome)
            ⊎ ((program : Program) × (program_in main model (classes_of traced) ≡ Ok program) × MayGive old.held old.faults new.faults (Write (Health (is_dimacs_path path) text model (classes_of traced) (map (λ t. t.lines) traced) (slashed main) program)) outcome)
            → DoctorGave old new folder path main outcome
        by_link (inl bad) = unlinked text model paths traced spells modeled all bad.0 (refused_program main model (classes_of traced) bad.0 bad.1) bad.2
        by_link (inr good) =
            let written = good.2 in
            rw written.2 (inl (
              refl,
              record {
                model = model;
                modeled = modeled;
                paths = paths;
                traced = traced;
                all = all;
                read = read;
                spelled = text;
                is_spelled = spells;
                program = good.0;
                is_program = good.1;
                is_text = written.1;
              },
            ))

    -- the folder
    by_classes : (text : List ℕ) (model : Model) (listing : List (List ℕ)) → IfSome old.held (λ held. text ≡ contents held path) → IfSome old.held (λ held. IsGoodModel held path model) → length (class_paths listing) ≤ most_classes
        → ClassesTold old new folder path (front text model) (class_paths listing) (doctor_classes path text main model (class_paths listing)) outcome → DoctorGave old new folder path main outcome
    by_classes text model listing spells modeled few (inl fault) = failed old new folder path main outcome fault.0 fault.1 fault.2
    by_classes text model listing spells modeled few (inr (inl large)) =
        told_so old new folder path main outcome (TooLarge large.0 most_bytes) (front text model ++ large_text large.0 most_bytes bytes ++ last_line (TooLarge large.0 most_bytes)) large.1 tt
        (told_both old.held _ _ _ (λ held m k. inr (record {
          model = model;
          modeled = m;
          large = inr (refl, k.1.0, k.1.1, ap (λ t. front t model ++ large_text large.0 most_bytes bytes ++ last_line (TooLarge large.0 most_bytes)) k.0);
        })) modeled (told_pair old.held _ _ spells large.2))
    by_classes text model listing spells modeled few (inr (inr (inl bad))) =
        told_so old new folder path main outcome (BadClass bad.0 bad.1 bad.2) (front text model ++ class_text bad.0 bad.3 bad.1 bad.2 ++ last_line (BadClass bad.0 bad.1 bad.2)) bad.4 tt
        (told_both old.held _ _ _ (λ held m k. record {
          model = model;
          modeled = m;
          reached = k.1.0;
          bad = k.1.1;
          is_text = (λ i. front (k.0 i) model ++ class_text bad.0 (k.1.2 i) bad.1 bad.2 ++ last_line (BadClass bad.0 bad.1 bad.2));
        }) modeled (told_pair old.held _ _ spells bad.5))
    by_classes text model listing spells modeled few (inr (inr (inr read))) =
        by_program text model (class_paths listing) read.0 spells modeled (told_map old.held _ _ (λ held h. record { listed = (rw append-nil at h.all); few = few; good = h.good }) read.1) read.2 read.3

    by_folder : (text : List ℕ) (model : Model) → IfSome old.held (λ held. text ≡ contents held path) → IfSome old.held (λ held. IsGoodModel held path model)
        → MayGive old.held old.faults new.faults (doctor_folder folder path text main model) outcome → DoctorGave old new folder path main outcome
    by_folder text model spells modeled (inl fault) = failed old new folder path main outcome folder fault.1 (inr (inl (refl, fault.0)))
    by_folder text model spells modeled (inr k) = by_size (large_cases folder most_classes (length (class_paths k.0)))
      where
        start : IfSome old.held (λ held. SoFar traced_of held folder [] (class_paths k.0) [])
        start = told_map old.held _ _ (λ held h. record { all = record { listing = k.0; listed = h; classes = refl }; good = tt }) k.1

        by_size : ((too_large folder most_classes (length (class_paths k.0)) ≡ None) × (length (class_paths k.0) ≤ most_classes)) ⊎ ((too_large folder most_classes (length (class_paths k.0)) ≡ Some (TooLarge folder most_classes)) × (most_classes < length (class_paths k.0)))
            → DoctorGave old new folder path main outcome
        by_size (inl fit) =
            by_classes text model k.0 spells modeled fit.1
            (classes_told old new folder path (front text model) (class_paths k.0) (doctor_classes path text main model (class_paths k.0)) (class_paths k.0) [] [] outcome refl start (All-nil (λ (t : Traced). Holds t.class)) (all_filter is_class_path k.0) (rw fit.0 at k.2))
        by_size (inr large) =
            let said = rw large.0 at k.2 in
            told_so old new folder path main outcome (TooLarge folder most_classes) (front text model ++ large_text folder most_classes class_files ++ last_line (TooLarge folder most_classes))
            (said_is old.held old.faults new.faults (front text model ++ large_text folder most_classes class_files) (TooLarge folder most_classes) outcome said) tt
            (told_both old.held _ _ _ (λ held m h. inr (record {
              model = model;
              modeled = m;
              large = inl (
                refl,
                refl,
                (class_paths k.0, record { listing = k.0; listed = h.1; classes = refl }, large.1),
                ap (λ t. front t model ++ large_text folder most_classes class_files ++ last_line (TooLarge folder most_classes)) h.0,
              );
            })) modeled (told_pair old.held _ _ spells k.1))

    -- the model
    is_model : (text : List ℕ) (model : Model) (held : Held) → model_of path text ≡ Ok model → (length (contents held path) ≤ most_bytes) × (text ≡ contents held path) → IsModelOf held path model
    is_model text model held taken h = record { fits = h.0; reads = ap (model_of path) (sym h.1) ∙ taken }

    by_allowed : (text : List ℕ) (model : Model) → IsText old most_bytes path text → model_of path text ≡ Ok model
        → MayGive old.held old.faults new.faults (doctor_model folder path text main model) outcome → DoctorGave old new folder path main outcome
    by_allowed text model told taken (inl none) =
        told_so old new folder path main outcome NoConfiguration (front text model ++ none_line ++ last_line NoConfiguration)
        (said_is old.held old.faults new.faults (front text model ++ none_line) NoConfiguration outcome none.1) tt
        (told_map old.held _ _ (λ held h. record {
          model = model;
          spelled = is_model text model held taken h;
          none = none.0;
          is_text = ap (λ t. front t model ++ none_line ++ last_line NoConfiguration) h.1;
        }) told)
    by_allowed text model told taken (inr some) =
        by_folder text model (told_map old.held _ _ (λ held h. h.1) told) (told_map old.held _ _ (λ held h. record { spelled = is_model text model held taken h; allows = some.0 }) told) some.1

    bad_model : (text : List ℕ) → IsText old most_bytes path text → (status : Status) → model_of path text ≡ Err status → (line : ℕ) × (reason : ℕ) × (status ≡ BadModel line reason)
        → MayGive old.held old.faults new.faults (say_model path text status) outcome → DoctorGave old new folder path main outcome
    bad_model text told status bad e said =
        let said_bad = rw e.2 at said in
        told_so old new folder path main outcome (BadModel e.0 e.1) (first_line ++ model_text (form_of path) text e.0 e.1 ++ last_line (BadModel e.0 e.1))
        (said_is old.held old.faults new.faults (first_line ++ model_text (form_of path) text e.0 e.1) (BadModel e.0 e.1) outcome said_bad) tt
        (told_map old.held _ _ (λ held h. (h.0, ap (model_of path) (sym h.1) ∙ bad ∙ ap Err e.2, ap (λ t. first_line ++ model_text (form_of path) t e.0 e.1 ++ last_line (BadModel e.0 e.1)) h.1)) told)

    by_test : (text : List ℕ) → IsText old most_bytes path text
        → ((status : Status) × (model_of path text ≡ Err status) × MayGive old.held old.faults new.faults (say_model path text status) outcome)
        ⊎ ((model : Model) × (model_of path text ≡ Ok model) × MayGive old.held old.faults new.faults (doctor_model folder path text main model) outcome)
        → DoctorGave old new folder path main outcome
    by_test text told (inl bad) = bad_model text told bad.0 bad.1 (model_refused path text bad.0 bad.1) bad.2
    by_test text told (inr good) = by_allowed text good.0 told good.1 good.2

    by_file : ToldShows old new first_line most_bytes path path (doctor_text folder path main) outcome → DoctorGave old new folder path main outcome
    by_file (inl fault) = failed old new folder path main outcome path fault.1 (inl (refl, fault.0))
    by_file (inr (inl large)) =
        told_so old new folder path main outcome (TooLarge path most_bytes) (first_line ++ large_text path most_bytes bytes ++ last_line (TooLarge path most_bytes)) large.1 tt
        (told_map old.held _ _ (λ held h. inl (refl, refl, h, refl)) large.0)
    by_file (inr (inr read)) = by_test read.0 read.1 (value_cases old.held old.faults new.faults (model_of path read.0) (say_model path read.0) (doctor_model folder path read.0 main) outcome read.3)

-- over the files that are held, the text is that of the model's own bytes
health_of : (held : Held) (folder path main text : List ℕ) (model : Model) (paths : List (List ℕ)) (traced : List Traced) (spelled : List ℕ) (program : Program) → IsGoodModel held path model → AreAllGiven traced_of held folder paths traced → spelled ≡ contents held path
    → program_in main model (classes_of traced) ≡ Ok program → IsTextOf (Health (is_dimacs_path path) spelled model (classes_of traced) (map (λ t. t.lines) traced) (slashed main) program) text → IsHealth held folder path main text
health_of held folder path main text model paths traced spelled program modeled all spells linked is = record {
  model = model;
  modeled = modeled;
  paths = paths;
  traced = traced;
  all = all;
  program = program;
  is_program = linked;
  is_text = subst (λ (b : List ℕ). IsTextOf (Health (is_dimacs_path path) b model (classes_of traced) (map (λ (t : Traced). t.lines) traced) (slashed main) program) text) spells is;
}

-- the same, with that the bytes of each class file were read
pub record IsHealthRead (held : Held) (folder path main text : List ℕ) : Type 0 where
  pub health : IsHealth held folder path main text
  pub read : AreRead (λ (t : Traced). t.class) health.traced

pub health_read : (old : FilesState) (held : Held) (folder path main text : List ℕ) → old.held ≡ Some held → IsHealthTold old folder path main text → IsHealthRead held folder path main text
unfolding health_of
health_read old held folder path main text told gave = record {
  health = health_of held folder path main text gave.model gave.paths gave.traced gave.spelled gave.program (there (λ files. IsGoodModel files path gave.model) gave.modeled)
      (there (λ files. AreAllGiven traced_of files folder gave.paths gave.traced) gave.all) (there (λ files. gave.spelled ≡ contents files path) gave.is_spelled) gave.is_program gave.is_text;
  read = gave.read;
}
  where
    there : (P : Held → Type 0) → IfSome old.held P → P held
    there P h = rw told at h

-- whatever the plan of `doctor` gave is shown by the files
pub doctor_shows : (old new : FilesState) (folder path main : List ℕ) (outcome : Outcome) → MayGive old.held old.faults new.faults (doctor_plan folder path main) outcome → Shows old new (Doctor folder path main) outcome
doctor_shows old new folder path main outcome g = by_outcome outcome (doctor_gave old new folder path main outcome g)
  where
    by_outcome : (o : Outcome) → DoctorGave old new folder path main o → Shows old new (Doctor folder path main) o
    by_outcome (Err status) cause = cause
    by_outcome (Ok said) (inl h) = inl (
      h.0,
      told_both old.held _ _ _ (λ held m k. health_of held folder path main said.0 h.1.model h.1.paths h.1.traced h.1.spelled h.1.program m k.0 k.1 h.1.is_program h.1.is_text) h.1.modeled (told_pair old.held _ _ h.1.all h.1.is_spelled),
    )
    by_outcome (Ok said) (inr h) = inr h

-- over good files, in which nothing fails, it is done
pub doctor_completes : (old new : FilesState) (out out' : SinkState) (folder model main : List ℕ) (held : Held) (status : Status) → old.held ≡ Some held → IsGood held (Doctor folder model main) → NothingFails held old new out out' (Doctor folder model main)
    → IsShown old new out out' (Doctor folder model main) status → (status ≡ Done) ⊎ (status ≡ NoMemory)
doctor_completes old new out out' folder model main held status told good fails shown = by_status status shown
  where
    here : (P : Held → Type 0) → IfSome old.held P → P held
    here P h = rw told at h

    is_reached : (path : List ℕ) → IsReached held folder path → (length (class_bytes held folder path) ≤ most_bytes) × ((class : ClassFile) × (class_of (class_bytes held folder path) ≡ Ok class))
    is_reached path r = let k = good.2 (r.before ++ path ∷ r.after) r.listed in class_at held folder path r.before r.after k.0 k.1.good

    not_linked : (fault : LinkFault) → IsNotLinked held folder model main fault → ⊥
    not_linked fault h =
        let n = good.2 h.paths h.all.listed in
        let m : h.model ≡ good.0 = same_value h.model good.0 _ h.modeled.spelled.reads good.1.spelled.reads in
        let classes : h.classes ≡ n.0 = same_given class_of held folder h.paths h.classes n.0 h.all.good n.1.good in
        ok_and_err n.2.0 (BadLink fault) (program_in main h.model h.classes) (rw (m, classes) n.2.1) (faulty_program main h.model h.classes fault h.faulty)

    -- no refusal is told
    untold : (s : Status) (text : List ℕ) → IsDiagnosis held folder model main s text → ⊥
    untold (BadModel line reason) text h = ok_and_err good.0 (BadModel line reason) _ good.1.spelled.reads h.1
    untold NoConfiguration text h =
        let m : h.model ≡ good.0 = same_value h.model good.0 _ h.spelled.reads good.1.spelled.reads in
        let none : is_allowed good.0 good.1.allows.0 ≡ false = (rw m at h.none) good.1.allows.0 in
        let clash : true ≡ false = sym good.1.allows.1 ∙ none in
        cc
    untold (BadClass path at reason) text h = let r = is_reached path h.reached in ok_and_err r.1.0 (record { at = at; reason = reason }) _ r.1.1 h.bad
    untold (BadLink fault) text h = not_linked fault h.not_linked
    untold (TooLarge path room) text (inl h) = omega (arith, h.2, good.1.spelled.fits)
    untold (TooLarge path room) text (inr h) = elim h.large [
      | inl f ↦ omega (arith, f.2.2, (good.2 f.2.0 f.2.1).1.few)
      | inr c ↦ omega (arith, c.2, (is_reached path c.1).0)
    ]
    untold s text h = h

    told_not : (s : Status) → IfSome old.held (λ held. (text : List ℕ) × IsDiagnosis held folder model main s text × Gains out out' text) → ⊥
    told_not s h = let k = here (λ held. (text : List ℕ) × IsDiagnosis held folder model main s text × Gains out out' text) h in untold s k.0 k.1

    faulted : (path : List ℕ) → InputCause old new folder model (ReadFault path) → ⊥
    faulted path (inl m) = let e = ap (λ p. new.faults (Reading p)) m.0 in omega (arith, m.1, fails.0)
    faulted path (inr (inl l)) = omega (arith, l.1, fails.1)
    faulted path (inr (inr c)) = omega (arith, c.1, fails.2 path (here (λ held. IsReached held folder path) c.2))

    by_status : (s : Status) → IsShown old new out out' (Doctor folder model main) s → (s ≡ Done) ⊎ (s ≡ NoMemory)
    by_status Done h = inl refl
    by_status NoMemory h = inr refl
    by_status WriteFault h = absurd (fails.3 h.0)
    by_status Failing h = absurd h.0
    by_status Differing h = absurd h.0
    by_status (ReadFault path) (inl h) = absurd (faulted path h.0)
    by_status s (inl h) = absurd h.0
    by_status s (inr h) = absurd (told_not s h.1)
