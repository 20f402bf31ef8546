-- `doctor` ends as `run` does: their plans ask the same.
use Rattle.std.proofs.Common.{◌≡◌, ◌≤◌, ◌<◌, ℕ, Bool, true, false, List, [], ◌∷◌, ◌++◌, Option, None, Some, Result, Ok, Err, inl, inr, ◌⊎◌, length, map, refl, ap, subst, sym, ◌∙◌, arith}
use Rattle.std.proofs.lemmas.List.{map-append}
use Rattle.vx_io.specs.Call.{Call, Listing, Reading}
use Rattle.vx_io.specs.Held.{FilesState, Held}
use Rattle.vx_io.specs.Rose.{Rose}
use Rattle.vx_io.specs.Sink.{SinkState}
use Rattle.vx_pool.specs.Reading.{Fault, ◌>>=◌}
use Rattle.vx_class.specs.Class.{class_of}
use Rattle.vx_class.specs.declared.class_file.ClassFile.{ClassFile}
use Rattle.vx_inputs.specs.Folder.{class_paths, list_classes, most_classes, or_bad_class, place_of, read_classes, read_folder}
use Rattle.vx_inputs.specs.Traced.{traced_of, with_source}
use Rattle.vx_inputs.specs.declared.taken.Traced.{Traced}
use Rattle.vx_model.specs.declared.model.Model.{Model}
use Rattle.vx_model.specs.Models.{is_allowed}
use Rattle.vx_plans.specs.Alike.{AreAlike, status_of}
use Rattle.vx_plans.specs.Health.{classes_part, first_line, model_part}
use Rattle.vx_plans.specs.Job.{is_dimacs_path, model_of, program_in}
use Rattle.vx_plans.specs.Plan.{As_report, By_allowed, Choose, IsGiven, List_below, MayGive, Outcome, Plan, Read, Refuse, Say, Write, attempt, unless}
use Rattle.vx_plans.specs.Sized.{most_bytes, read_sized, too_large}
use Rattle.vx_plans.specs.declared.status.Status.{Status}
use Rattle.vx_plans.specs.declared.status.Status.TheVariants.{BadClass, BadLink, BadModel, NoMemory, TooLarge}
use Rattle.vx_doctor_command.specs.Doctor.{classes_of, doctor_classes, doctor_folder, doctor_model, doctor_paths, doctor_plan, doctor_text, list_told, read_classes_told, read_told}
use Rattle.vx_doctor_command.specs.Saying.{bytes, class_files, or_say, say_class, say_link, say_model, say_unread, value_or_say}
use Rattle.vx_run_commands.specs.Run.{run_classes, run_plan}
use Rattle.vx_cli.specs.AsRun.{IsRun, NoneFailed, Ran}
use Rattle.vx_cli.specs.Ends.{Ends, IsDelivered}
use Rattle.vx_cli.proofs.OneListing.{one_listing}

-- ---- plans that are alike end with the same statuses

-- no call failed
abbrev NoFaults : (before after : Call → ℕ) → Type 0
NoFaults before after = (call : Call) → after call ≤ before call

alike_ends : (held : Held) (b a b' a' : Call → ℕ) → NoFaults b a → NoFaults b' a' → (plan other : Plan) → AreAlike plan other → (o o' : Outcome) → MayGive (Some held) b a plan o → MayGive (Some held) b' a' other o' → status_of o ≡ status_of o'
alike_ends held b a b' a' n n' (Refuse s) (Refuse t) are o o' g k = rw (g, k) are
alike_ends held b a b' a' n n' (Refuse s) (Say p t) are o o' g k = rw (g, k.2) are
alike_ends held b a b' a' n n' (Say p s) (Refuse t) are o o' g k = rw (g.2, k) are
alike_ends held b a b' a' n n' (Say p s) (Say q t) are o o' g k = rw (g.2, k.2) are
alike_ends held b a b' a' n n' (Read path room fault next) (Read path' room' fault' next') are o o' (inl g) k = absurd (let h = n (Reading path) in omega (arith, g.0, h))
alike_ends held b a b' a' n n' (Read path room fault next) (Read path' room' fault' next') are o o' (inr g) (inl k) = absurd (let h = n' (Reading path') in omega (arith, k.0, h))
alike_ends held b a b' a' n n' (Read path room fault next) (Read path' room' fault' next') are o o' (inr g) (inr k) =
    let same : k.0 ≡ g.0 = k.3 ∙ rw (← are.0, ← are.1) (sym g.3) in
    alike_ends held b a b' a' n n' (next g.0) (next' k.0) (rw same (are.3 g.0)) o o' g.4 k.4
alike_ends held b a b' a' n n' (List_below folder fault next) (List_below folder' fault' next') are o o' (inl g) k = absurd (let h = n (Listing folder) in omega (arith, g.0, h))
alike_ends held b a b' a' n n' (List_below folder fault next) (List_below folder' fault' next') are o o' (inr g) (inl k) = absurd (let h = n' (Listing folder') in omega (arith, k.0, h))
alike_ends held b a b' a' n n' (List_below folder fault next) (List_below folder' fault' next') are o o' (inr g) (inr k) =
    let same : k.0 ≡ g.0 = one_listing held folder k.0 g.0 (rw are.0 k.1) g.1 in
    alike_ends held b a b' a' n n' (next g.0) (next' k.0) (rw same (are.2 g.0)) o o' g.2 k.2
alike_ends held b a b' a' n n' (By_allowed model none some) (By_allowed model' none' some') are o o' (inl g) (inl k) = alike_ends held b a b' a' n n' none none' are.1 o o' g.1 k.1
alike_ends held b a b' a' n n' (By_allowed model none some) (By_allowed model' none' some') are o o' (inr g) (inr k) = alike_ends held b a b' a' n n' some some' are.2 o o' g.1 k.1
alike_ends held b a b' a' n n' (By_allowed model none some) (By_allowed model' none' some') are o o' (inl g) (inr k) =
    let forbids : is_allowed model' k.0.0 ≡ false = ap (λ (m : Model). is_allowed m k.0.0) (sym are.0) ∙ g.0 k.0.0 in
    let clash : true ≡ false = sym k.0.1 ∙ forbids in
    cc (clash)
alike_ends held b a b' a' n n' (By_allowed model none some) (By_allowed model' none' some') are o o' (inr g) (inl k) =
    let forbids : is_allowed model g.0.0 ≡ false = ap (λ (m : Model). is_allowed m g.0.0) are.0 ∙ k.0 g.0.0 in
    let clash : true ≡ false = sym g.0.1 ∙ forbids in
    cc (clash)
alike_ends held b a b' a' n n' plan other are o o' g k = absurd are

-- ---- the plans of `doctor` and `run` are alike

unread_alike : (front of : List ℕ) (status : Status) → AreAlike (say_unread front of status) (Refuse status)
unread_alike front of (TooLarge path room) = refl
unread_alike front of status = refl

model_alike : (path text : List ℕ) (status : Status) → AreAlike (say_model path text status) (Refuse status)
model_alike path text (BadModel line reason) = refl
model_alike path text status = refl

class_alike : (front text : List ℕ) (status : Status) → AreAlike (say_class front text status) (Refuse status)
class_alike front text (BadClass path at reason) = refl
class_alike front text status = refl

link_alike : (front : List ℕ) (classes : List ClassFile) (paths : List (List ℕ)) (model : Model) (main : List ℕ) (status : Status) → AreAlike (say_link front classes paths model main status) (Refuse status)
link_alike front classes paths model main (BadLink fault) = refl
link_alike front classes paths model main status = refl

reason_alike : (refuse : Status → Plan) → ((status : Status) → AreAlike (refuse status) (Refuse status)) → (plan other : Plan) → AreAlike plan other → (reason : Option Status) → AreAlike (or_say reason refuse plan) (unless reason other)
reason_alike refuse told plan other are None = are
reason_alike refuse told plan other are (Some status) = told status

value_alike : {A : Type 0} (value : Result A Status) (refuse : Status → Plan) (next next' : A → Plan) → ((status : Status) → AreAlike (refuse status) (Refuse status)) → ((x : A) → AreAlike (next x) (next' x)) → AreAlike (value_or_say value refuse next) (attempt value next')
value_alike (Ok x) refuse next next' told are = are x
value_alike (Err status) refuse next next' told are = told status

file_alike : (front : List ℕ) (room : ℕ) (place shown : List ℕ) (next next' : List ℕ → Plan) → ((text : List ℕ) → AreAlike (next text) (next' text)) → AreAlike (read_told front room place shown next) (read_sized room place shown next')
file_alike front room place shown next next' are =
    (refl, refl, refl, λ text. reason_alike (say_unread front bytes) (unread_alike front bytes) (next text) (next' text) (are text) (too_large shown room (length text)))

-- a class with its source, or the class alone
taken_alike : (front path text : List ℕ) (next : Traced → Plan) (next' : ClassFile → Plan) → ((t : Traced) → AreAlike (next t) (next' t.class)) → (r : Result ClassFile Fault)
    → AreAlike (value_or_say (or_bad_class path (r >>= λ class. Ok (with_source text class))) (say_class front text) next) (attempt (or_bad_class path r) next')
taken_alike front path text next next' are (Ok class) = are (with_source text class)
taken_alike front path text next next' are (Err fault) = refl

classes_alike : (front folder : List ℕ) (next : List Traced → Plan) (next' : List ClassFile → Plan) → ((all : List Traced) → AreAlike (next all) (next' (classes_of all))) → (paths : List (List ℕ)) (done : List Traced)
    → AreAlike (read_classes_told front folder next done paths) (read_classes class_of folder next' (classes_of done) paths)
classes_alike front folder next next' are [] done = are done
classes_alike front folder next next' are (path ∷ paths) done =
    file_alike front most_bytes (place_of folder path) path _ _ (λ text. taken_alike front path text (λ x. read_classes_told front folder next (done ++ x ∷ []) paths) (λ c. read_classes class_of folder next' (classes_of done ++ c ∷ []) paths)
    (λ t. rw (map-append (λ (x : Traced). x.class) done (t ∷ [])) at (classes_alike front folder next next' are paths (done ++ t ∷ []))) (class_of text))

folder_alike : (front folder : List ℕ) (next : List (List ℕ) → List Traced → Plan) (next' : List ClassFile → Plan) → ((paths : List (List ℕ)) (all : List Traced) → AreAlike (next paths all) (next' (classes_of all)))
    → AreAlike (list_told front folder (λ paths. read_classes_told front folder (next paths) [] paths)) (read_folder class_of folder next')
folder_alike front folder next next' are = (
  refl,
  refl,
  λ paths. reason_alike (say_unread front class_files) (unread_alike front class_files) (read_classes_told front folder (next (class_paths paths)) [] (class_paths paths)) (read_classes class_of folder next' [] (class_paths paths))
      (classes_alike front folder (next (class_paths paths)) next' (are (class_paths paths)) (class_paths paths) []) (too_large folder most_classes (length (class_paths paths))),
)

program_alike : (path text main : List ℕ) (limit version : ℕ) (model : Model) (paths : List (List ℕ)) (all : List Traced) → AreAlike (doctor_classes path text main model paths all) (run_classes main limit version model (classes_of all))
program_alike path text main limit version model paths all =
    value_alike (program_in main model (classes_of all)) (say_link (classes_part (is_dimacs_path path) text model (classes_of all)) (classes_of all) paths model main) _ _
    (link_alike (classes_part (is_dimacs_path path) text model (classes_of all)) (classes_of all) paths model main) (λ program. refl)

pub doctor_is_as_run : (folder path main : List ℕ) (limit version : ℕ) → AreAlike (doctor_plan folder path main) (run_plan folder path main limit version)
doctor_is_as_run folder path main limit version =
    file_alike first_line most_bytes path path (doctor_text folder path main) _ (λ text. value_alike (model_of path text) (say_model path text) (doctor_model folder path text main) _ (model_alike path text) (λ model. (
      refl,
      refl,
      folder_alike (model_part (is_dimacs_path path) text model) folder (doctor_classes path text main model) (run_classes main limit version model) (program_alike path text main limit version model),
    )))

-- ---- two calls

-- where no call of the sink failed, a call ends with the status of what its plan gave, or memory was wanting
delivered_so : (out out' : SinkState) (outcome : Outcome) (status : Status) → IsDelivered out out' outcome status → (Rose out.faults out'.faults → ⊥) → (status ≡ status_of outcome) ⊎ (status ≡ NoMemory)
delivered_so out out' (Ok said) status (inl d) quiet = inl d.0
delivered_so out out' (Ok said) status (inr (inl d)) quiet = absurd (quiet d.1)
delivered_so out out' (Ok said) status (inr (inr d)) quiet = inr d.0
delivered_so out out' (Err e) status d quiet = inl d.0

-- a call of `doctor` ends as one of `run` over files that hold the same
pub done_as_run : (old new : FilesState) (out out' : SinkState) (folder model main : List ℕ) (status : Status) → Ends old new out out' (doctor_plan folder model main) status → (held : Held) → old.held ≡ Some held → NoneFailed old new out out'
    → (ran : Ran) → IsRun held folder model main ran → (status ≡ ran.status) ⊎ (status ≡ NoMemory)
done_as_run old new out out' folder model main status ends held told well ran is = by_given ends.given is.ends.given
  where
    -- memory was wanting
    no_memory : (o o' : SinkState) (outcome : Outcome) (s : Status) → outcome ≡ Err NoMemory → IsDelivered o o' outcome s → s ≡ NoMemory
    no_memory o o' (Ok said) s e d = cc
    no_memory o o' (Err refusal) s e d = let k : refusal ≡ NoMemory = cc in d.0 ∙ k

    by_statuses : status_of ends.outcome ≡ status_of is.ends.outcome → (status ≡ status_of ends.outcome) ⊎ (status ≡ NoMemory) → (ran.status ≡ status_of is.ends.outcome) ⊎ (ran.status ≡ NoMemory) → (status ≡ ran.status) ⊎ (status ≡ NoMemory)
    by_statuses same (inl e) (inl k) = inl (e ∙ same ∙ sym k)
    by_statuses same (inr n) k = inr n
    by_statuses same (inl e) (inr n) = absurd (is.enough n)

    by_given : IsGiven old new (doctor_plan folder model main) ends.outcome → IsGiven ran.old ran.new (run_plan folder model main ran.limit ran.version) is.ends.outcome → (status ≡ ran.status) ⊎ (status ≡ NoMemory)
    by_given (inl n) k = inr (no_memory out out' ends.outcome status n ends.delivered)
    by_given (inr g) (inl n) = absurd (is.enough (no_memory ran.out ran.out' is.ends.outcome ran.status n is.ends.delivered))
    by_given (inr g) (inr k) =
        by_statuses
        (alike_ends held old.faults new.faults ran.old.faults ran.new.faults well.files is.none_failed.files (doctor_plan folder model main) (run_plan folder model main ran.limit ran.version) (doctor_is_as_run folder model main ran.limit ran.version) ends.outcome is.ends.outcome (subst (λ (o : Option Held). MayGive o old.faults new.faults (doctor_plan folder model main) ends.outcome) told g)
        (subst (λ (o : Option Held). MayGive o ran.old.faults ran.new.faults (run_plan folder model main ran.limit ran.version) is.ends.outcome) is.holds k))
        (delivered_so out out' ends.outcome status ends.delivered well.sink) (delivered_so ran.out ran.out' is.ends.outcome ran.status is.ends.delivered is.none_failed.sink)
