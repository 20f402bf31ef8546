-- What the stages of `doctor` say, in terms of its plan.
use Rattle.std.proofs.Common.{◌≡◌, ◌≤◌, ◌<◌, ◌+◌, ◌++◌, ◌∷◌, ◌⊎◌, [], ℕ, Bool, true, List, Option, None, Some, Result, Ok, Err, IfErr, IfOk, IfSome, String, Vec, Global, add-one, ap, append_assoc, arith, drop, drop-cons, get_or, inl, inr, length, map, refl, string_bytes, sym, take, ◌∙◌}
use Rattle.std.specs.List.{list_all}
use Rattle.std.specs.Prelude.{All, OnOk, if◌then◌else◌, is_ok}
use Rattle.vx_class.specs.File.{Holds}
use Rattle.vx_class.specs.declared.class_file.ClassFile.{ClassFile}
use Rattle.vx_class.specs.declared.class_file.Code.{Code}
use Rattle.vx_families.specs.Bounds as bounds
use Rattle.vx_java.specs.Ids.{HasClassNumbers}
use Rattle.vx_link.specs.declared.program.LinkedMethod.{LinkedMethod}
use Rattle.vx_plans.proofs.Linked.{linked_is}
use Rattle.vx_program_bounds.specs.Law.{LinkedAreBounded}
use Rattle.vx_verify.specs.Verdict.{has_short_code}
use Rattle.vx_io.specs.Call.{Call, Listing, Reading}
use Rattle.vx_io.specs.Held.{FilesState, Held, IsListing, contents}
use Rattle.vx_pool.specs.Place.{IsBytes}
use Rattle.vx_inputs.specs.Files.{WasRead}
use Rattle.vx_inputs.specs.Folder.{WasListed, list_classes, most_classes, or_bad_class, class_paths, place_of}
use Rattle.vx_inputs.specs.Traced.{traced_of}
use Rattle.vx_inputs.specs.declared.taken.Traced.{Traced}
use Rattle.vx_model.specs.Answers.{Fails}
use Rattle.vx_model.specs.declared.fault.ModelFault.{ModelFault}
use Rattle.vx_model.specs.declared.fault.ModelFault.TheVariants as fault
use Rattle.vx_model.specs.declared.model.Model.{Model}
use Rattle.vx_overview.specs.Overview.{overview_text}
use Rattle.vx_plans.proofs.Plans.{fits, from_before, then_leads}
use Rattle.vx_plans.proofs.Told.{large_cases}
use Rattle.vx_plans.specs.Health.{classes_part, first_line, last_line, main_text, model_part, remarks_if}
use Rattle.vx_plans.specs.Job.{Exactly, is_dimacs_path, model_of, or_bad_model, program_in, slashed, spelled_model}
use Rattle.vx_plans.specs.KeepsFiles.{KeepsFiles}
use Rattle.vx_plans.specs.Plan.{AllowsNone, AllowsSome, By_allowed, IsGiven, Leads, MayGive, MayStop, Outcome, Plan, Refuse, Said, Say, unless}
use Rattle.vx_plans.specs.Sized.{most_bytes, read_sized, too_large}
use Rattle.vx_plans.specs.declared.status.Status.{Status}
use Rattle.vx_plans.specs.declared.status.Status.TheVariants.{BadClass, BadModel, Done, NoMemory, ReadFault, TooLarge}
use Rattle.vx_link.specs.declared.program.Program.{Program}
use Rattle.vx_doctor_command.specs.Doctor.{classes_of, doctor_classes, doctor_model, doctor_text, list_told, read_class_told, read_classes_told, read_told}
use Rattle.vx_doctor_command.specs.Saying.{bytes, class_files, say, say_class, say_fault, say_link, say_model, say_unread, value_or_say}
use Rattle.vx_doctor_command.specs.Stops.{EndsAs, IsHealthy, IsSaid, IsTaken, stop_plan}
use Rattle.vx_doctor_command.specs.declared.reading.Stop.{Stop}
use Rattle.vx_doctor_command.specs.declared.reading.Stop.TheVariants.{NoClass, Unread}

-- a text that was put, or was not for want of memory
pub put_when_ok : {T E : Type 0} (r : Result T E) (new old piece whole : List ℕ) → new ≡ (if is_ok r then old ++ piece else old) → (new ≡ old ++ piece → new ≡ whole) → OnOk r (new ≡ whole)
put_when_ok (Ok x) new old piece whole put then_whole = then_whole put
put_when_ok (Err e) new old piece whole put then_whole = tt

-- four texts, one behind the other
pub four_put : (out a b c d one two three four : List ℕ) → one ≡ out ++ a → two ≡ one ++ b → three ≡ two ++ c → four ≡ three ++ d → four ≡ out ++ (a ++ b ++ c ++ d)
four_put out a b c d one two three four h1 h2 h3 h4 =
    let first : two ≡ out ++ (a ++ b) = h2 ∙ ap (λ x. x ++ b) h1 ∙ append_assoc out a b in
    let second : three ≡ out ++ (a ++ b ++ c) = h3 ∙ ap (λ x. x ++ c) first ∙ append_assoc out (a ++ b) c in
    h4 ∙ ap (λ x. x ++ d) second ∙ append_assoc out (a ++ b ++ c) d

-- ---- plans that ask nothing

-- a text with its status was said
pub is_said : (text : List ℕ) (status : Status) (said : Said) → said ≡ (text ++ last_line status, status) → IsSaid (say text status) (Ok said)
is_said text status said e = inr (λ held before after. (text ++ last_line status, refl, ap Ok e))

-- a refusal gives no other outcome
pub refused_so : (status : Status) (outcome : Outcome) → IsSaid (Refuse status) outcome → (outcome ≡ Err NoMemory) ⊎ (outcome ≡ Err status)
refused_so status outcome (inl e) = inl e
refused_so status outcome (inr h) = inr (h None (λ call. 0) (λ call. 0))

-- what leads to a plan that asks nothing gives what that says
pub said_behind : (old new : FilesState) (plan rest : Plan) (outcome : Outcome) → Leads old.held plan rest → IsSaid rest outcome → IsGiven old new plan outcome
said_behind old new plan rest outcome leads (inl e) = inl e
said_behind old new plan rest outcome leads (inr h) = inr (leads.to old.faults new.faults outcome (h old.held old.faults new.faults))

-- and what leads to any plan what that gave
pub given_behind : (old mid new : FilesState) (plan rest : Plan) (outcome : Outcome) → KeepsFiles old mid → Leads old.held plan rest → IsGiven mid new rest outcome → IsGiven old new plan outcome
given_behind old mid new plan rest outcome keeps leads (inl e) = inl e
given_behind old mid new plan rest outcome keeps leads (inr g) =
    inr (leads.to old.faults new.faults outcome (from_before old.held old.faults mid.faults new.faults keeps.later rest outcome (rw keeps.held at g)))

pub ends_behind : (old mid new : FilesState) (plan between rest : Plan) → KeepsFiles old mid → Leads old.held plan between → EndsAs mid new between rest → EndsAs old new plan rest
ends_behind old mid new plan between rest keeps leads ends = record { to = λ outcome said. given_behind old mid new plan between outcome keeps leads (ends.to outcome said) }

-- want of memory ends any plan
pub memory_ends : (old new : FilesState) (plan : Plan) (front : List ℕ) → EndsAs old new plan (stop_plan front (Unread NoMemory))
memory_ends old new plan front = record { to = λ outcome said. elim (refused_so NoMemory outcome said) [ inl e ↦ inl e | inr e ↦ inl e ] }

-- ---- values

pub value_leads : {A : Type 0} (held : Option Held) (value : Result A Status) (refuse : Status → Plan) (next : A → Plan) (x : A) → value ≡ Ok x → Leads held (value_or_say value refuse next) (next x)
value_leads held value refuse next x e = rw e (record { to = λ before after outcome h. h })

pub refusal_leads : {A : Type 0} (held : Option Held) (value : Result A Status) (refuse : Status → Plan) (next : A → Plan) (status : Status) → value ≡ Err status → Leads held (value_or_say value refuse next) (refuse status)
refusal_leads held value refuse next status e = rw e (record { to = λ before after outcome h. h })

-- ---- files

-- a file was read
pub told_gives : (held : Option Held) (front : List ℕ) (room : ℕ) (place shown text : List ℕ) (next : List ℕ → Plan) → WasRead held room place text → Leads held (read_told front room place shown next) (next text)
told_gives held front room place shown text next read = record {
  to = λ before after outcome h. inr (text, omega (arith, read.fits), read.are_bytes, read.told, rw (fits shown room (length text) read.fits) h);
}

-- a plan from which no refusal comes
abbrev well : Plan
well = Say (Exactly []) Done

-- it could not be read, or is too large
pub unread_ends : (old new : FilesState) (front : List ℕ) (room : ℕ) (place shown : List ℕ) (next : List ℕ → Plan) (refusal : Status) → ((n : List ℕ → Plan) → MayStop old new (read_sized room place shown n) refusal)
    → EndsAs old new (read_told front room place shown next) (say_unread front bytes refusal)
unread_ends old new front room place shown next refusal stops = record { to = λ outcome said. by_why outcome said (stops (λ text. well)).why }
  where
    no_memory : (outcome : Outcome) → refusal ≡ NoMemory → IsSaid (say_unread front bytes refusal) outcome → IsGiven old new (read_told front room place shown next) outcome
    no_memory outcome e said = elim (refused_so NoMemory outcome (rw e at said)) [ inl n ↦ inl n | inr n ↦ inl n ]

    failed : (outcome : Outcome) → old.faults (Reading place) < new.faults (Reading place) → refusal ≡ ReadFault shown → IsSaid (say_unread front bytes refusal) outcome → IsGiven old new (read_told front room place shown next) outcome
    failed outcome rose e said = elim (refused_so (ReadFault shown) outcome (rw e at said)) [ inl n ↦ inl n | inr n ↦ inr (inl (rose, n)) ]

    large : (outcome : Outcome) (text : List ℕ) → length text ≤ room + 1 → IsBytes text → IfSome old.held (λ files. text ≡ take (room + 1) (contents files place)) → too_large shown room (length text) ≡ Some (TooLarge shown room)
        → IsSaid (say_unread front bytes (TooLarge shown room)) outcome → IsGiven old new (read_told front room place shown next) outcome
    large outcome text small are_bytes told e (inl n) = inl n
    large outcome text small are_bytes told e (inr h) = inr (inr (text, small, are_bytes, told, rw e (h old.held old.faults new.faults)))

    by_size : (outcome : Outcome) (text : List ℕ) → IsSaid (say_unread front bytes refusal) outcome → length text ≤ room + 1 → IsBytes text → IfSome old.held (λ files. text ≡ take (room + 1) (contents files place))
        → MayGive old.held old.faults new.faults (unless (too_large shown room (length text)) well) (Err refusal)
        → ((too_large shown room (length text) ≡ None) × (length text ≤ room)) ⊎ ((too_large shown room (length text) ≡ Some (TooLarge shown room)) × (room < length text))
        → IsGiven old new (read_told front room place shown next) outcome
    by_size outcome text said small are_bytes told g (inl fit) = let w = rw fit.0 at g in let clash = w.2 in cc
    by_size outcome text said small are_bytes told g (inr much) =
        let w : Err refusal ≡ Err (TooLarge shown room) = rw much.0 at g in
        let is : refusal ≡ TooLarge shown room = cc in
        large outcome text small are_bytes told much.0 (rw is at said)

    by_why : (outcome : Outcome) → IsSaid (say_unread front bytes refusal) outcome → (refusal ≡ NoMemory) ⊎ MayGive old.held old.faults new.faults (read_sized room place shown (λ text. well)) (Err refusal)
        → IsGiven old new (read_told front room place shown next) outcome
    by_why outcome said (inl n) = no_memory outcome n said
    by_why outcome said (inr (inl g)) = failed outcome g.0 (let e = g.1 in cc) said
    by_why outcome said (inr (inr g)) = by_size outcome g.0 said g.1 g.2 g.3 g.4 (large_cases shown room (length g.0))

-- a folder was listed
pub listed_gives : (held : Option Held) (front folder : List ℕ) (paths : List (List ℕ)) (next : List (List ℕ) → Plan) → WasListed held folder paths → Leads held (list_told front folder next) (next paths)
listed_gives held front folder paths next w = rw w.classes (record {
  to = λ before after outcome h. inr (w.listing, w.told, rw (fits folder most_classes (length (class_paths w.listing)) (rw w.classes at w.few)) h);
})

-- it could not be listed, or has too many class files
pub unlisted_ends : (old new : FilesState) (front folder : List ℕ) (next : List (List ℕ) → Plan) (refusal : Status) → ((n : List (List ℕ) → Plan) → MayStop old new (list_classes folder n) refusal)
    → EndsAs old new (list_told front folder next) (say_unread front class_files refusal)
unlisted_ends old new front folder next refusal stops = record { to = λ outcome said. by_why outcome said (stops (λ paths. well)).why }
  where
    no_memory : (outcome : Outcome) → refusal ≡ NoMemory → IsSaid (say_unread front class_files refusal) outcome → IsGiven old new (list_told front folder next) outcome
    no_memory outcome e said = elim (refused_so NoMemory outcome (rw e at said)) [ inl n ↦ inl n | inr n ↦ inl n ]

    failed : (outcome : Outcome) → old.faults (Listing folder) < new.faults (Listing folder) → refusal ≡ ReadFault folder → IsSaid (say_unread front class_files refusal) outcome → IsGiven old new (list_told front folder next) outcome
    failed outcome rose e said = elim (refused_so (ReadFault folder) outcome (rw e at said)) [ inl n ↦ inl n | inr n ↦ inr (inl (rose, n)) ]

    large : (outcome : Outcome) (listing : List (List ℕ)) → IfSome old.held (λ files. IsListing files folder listing) → too_large folder most_classes (length (class_paths listing)) ≡ Some (TooLarge folder most_classes)
        → IsSaid (say_unread front class_files (TooLarge folder most_classes)) outcome → IsGiven old new (list_told front folder next) outcome
    large outcome listing told e (inl n) = inl n
    large outcome listing told e (inr h) = inr (inr (listing, told, rw e (h old.held old.faults new.faults)))

    by_size : (outcome : Outcome) (listing : List (List ℕ)) → IsSaid (say_unread front class_files refusal) outcome → IfSome old.held (λ files. IsListing files folder listing)
        → MayGive old.held old.faults new.faults (unless (too_large folder most_classes (length (class_paths listing))) well) (Err refusal)
        → ((too_large folder most_classes (length (class_paths listing)) ≡ None) × (length (class_paths listing) ≤ most_classes)) ⊎ ((too_large folder most_classes (length (class_paths listing)) ≡ Some (TooLarge folder most_classes)) × (most_classes < length (class_paths listing)))
        → IsGiven old new (list_told front folder next) outcome
    by_size outcome listing said told g (inl fit) = let w = rw fit.0 at g in let clash = w.2 in cc
    by_size outcome listing said told g (inr much) =
        let w : Err refusal ≡ Err (TooLarge folder most_classes) = rw much.0 at g in
        let is : refusal ≡ TooLarge folder most_classes = cc in
        large outcome listing told much.0 (rw is at said)

    by_why : (outcome : Outcome) → IsSaid (say_unread front class_files refusal) outcome → (refusal ≡ NoMemory) ⊎ MayGive old.held old.faults new.faults (list_classes folder (λ paths. well)) (Err refusal)
        → IsGiven old new (list_told front folder next) outcome
    by_why outcome said (inl n) = no_memory outcome n said
    by_why outcome said (inr (inl g)) = failed outcome g.0 (let e = g.1 in cc) said
    by_why outcome said (inr (inr g)) = by_size outcome g.0 said g.1 g.2 (large_cases folder most_classes (length (class_paths g.0)))

-- ---- class files

-- one was taken
pub class_ok : (held : Option Held) (folder path text : List ℕ) (r : Result Traced Stop) → WasRead held most_bytes (place_of folder path) text → IsTaken path text r
    → IfOk r (λ taken. (front : List ℕ) (next : Traced → Plan) → Leads held (read_class_told front folder path next) (next taken))
class_ok held folder path text (Err stop) read is = tt
class_ok held folder path text (Ok taken) read is = λ front next.
    then_leads (told_gives held front most_bytes (place_of folder path) path text (λ t. value_or_say (or_bad_class path (traced_of t)) (say_class front t) next) read)
    (value_leads held (or_bad_class path (traced_of text)) (say_class front text) next taken is)

-- or is none
stopped_class : (old new : FilesState) (folder path text : List ℕ) (stop : Stop) → WasRead old.held most_bytes (place_of folder path) text → IsTaken path text (Err stop) → (front : List ℕ) (next : Traced → Plan)
    → EndsAs old new (read_class_told front folder path next) (stop_plan front stop)
stopped_class old new folder path text (Unread refusal) read is front next = rw is (memory_ends old new (read_class_told front folder path next) front)
stopped_class old new folder path text (NoClass shown found at reason) read is front next =
    rw (is.0, is.1) (record {
      to = λ outcome said. said_behind old new (read_class_told front folder path next) (say_class front text (BadClass path at reason)) outcome
          (then_leads (told_gives old.held front most_bytes (place_of folder path) path text (λ t. value_or_say (or_bad_class path (traced_of t)) (say_class front t) next) read)
          (refusal_leads old.held (or_bad_class path (traced_of text)) (say_class front text) next (BadClass path at reason) is.2)) said;
    })

pub class_err : (old new : FilesState) (folder path text : List ℕ) (r : Result Traced Stop) → WasRead old.held most_bytes (place_of folder path) text → IsTaken path text r
    → IfErr r (λ stop. (front : List ℕ) (next : Traced → Plan) → EndsAs old new (read_class_told front folder path next) (stop_plan front stop))
class_err old new folder path text (Ok taken) read is = tt
class_err old new folder path text (Err stop) read is = stopped_class old new folder path text stop read is

-- the plan at a class file
pub at_class : (held : Option Held) (front folder : List ℕ) (plan : Plan) (next : List Traced → Plan) (paths : List (String Global)) (i : ℕ) (d : String Global) (path : List ℕ) (done : List Traced) → i < length paths
    → path ≡ string_bytes (get_or paths i d)
    → Leads held plan (read_classes_told front folder next done (map string_bytes (drop i paths)))
    → Leads held plan (read_class_told front folder path (λ c. read_classes_told front folder next (done ++ c ∷ []) (map string_bytes (drop (i + 1) paths))))
at_class held front folder plan next paths i d path done small is leads =
    let at : map string_bytes (drop i paths) ≡ path ∷ map string_bytes (drop (i + 1) paths) = ap (map string_bytes) (drop-cons paths i d small) ∙ rw (sym is, add-one i) in
    rw at at leads

-- and behind it
pub one_class_more : (held : Option Held) (front folder : List ℕ) (plan : Plan) (next : List Traced → Plan) (paths : List (String Global)) (i : ℕ) (d : String Global) (path : List ℕ) (done : List Traced) (more : Traced) → i < length paths
    → path ≡ string_bytes (get_or paths i d)
    → Leads held plan (read_classes_told front folder next done (map string_bytes (drop i paths)))
    → ((n : Traced → Plan) → Leads held (read_class_told front folder path n) (n more))
    → Leads held plan (read_classes_told front folder next (done ++ more ∷ []) (map string_bytes (drop (i + 1) paths)))
one_class_more held front folder plan next paths i d path done more small is leads read =
    then_leads (at_class held front folder plan next paths i d path done small is leads) (read (λ c. read_classes_told front folder next (done ++ c ∷ []) (map string_bytes (drop (i + 1) paths))))

-- ---- the program

same_test : (code : Option Code) → bounds.has_short_code code ≡ has_short_code code
same_test None = refl
same_test (Some code) = refl

-- what the spots of a linked program ask of it
pub record CanBeTold (p : Program) : Type 0 where
  pub classes : HasClassNumbers p
  pub codes : list_all (λ m. has_short_code m.code) p.methods ≡ true

pub can_be_told : (main : List ℕ) (model : Model) (classes : List ClassFile) (p : Program) → LinkedAreBounded → length classes ≤ 1024 → All Holds classes → program_in main model classes ≡ Ok p → CanBeTold p
can_be_told main model classes p law few read e =
    let bounded = (law classes model.options (slashed main) p few read (linked_is main model classes p e)).0 in
    record { classes = bounded.classes; codes = ap (λ (f : LinkedMethod → Bool). list_all f p.methods) (λ i m. sym (same_test m.code) i) ∙ bounded.codes }

-- what is told of a program that class files link to
pub health_said : (path text main : List ℕ) (model : Model) (paths : List (List ℕ)) (traced : List Traced) (program : Program) (front : List ℕ) (said : Said) → program_in main model (classes_of traced) ≡ Ok program
    → front ≡ classes_part (is_dimacs_path path) text model (classes_of traced) → IsHealthy front (slashed main) (map (λ t. t.lines) traced) program said → IsSaid (doctor_classes path text main model paths traced) (Ok said)
health_said path text main model paths traced program front said linked is h =
    let written = front ++ main_text (slashed main) ++ h.lacks ++ last_line Done in
    inr (λ held before after.
    rw linked (written, record { marks = h.are.marks; lacks = h.lacks; lacking = h.are.is; is = ap (λ f. f ++ main_text (slashed main) ++ h.lacks ++ last_line Done) is }, ap Ok h.is))

-- what is said where they do not link
pub link_said : (path text main : List ℕ) (model : Model) (paths : List (List ℕ)) (traced : List Traced) (front : List ℕ) (refusal : Status) (outcome : Outcome)
    → (refusal ≡ NoMemory) ⊎ (program_in main model (classes_of traced) ≡ Err refusal) → front ≡ classes_part (is_dimacs_path path) text model (classes_of traced)
    → IsSaid (say_link front (classes_of traced) paths model main refusal) outcome → IsSaid (doctor_classes path text main model paths traced) outcome
link_said path text main model paths traced front refusal outcome (inl n) is said = elim (refused_so NoMemory outcome (rw n at said)) [ inl e ↦ inl e | inr e ↦ inl e ]
link_said path text main model paths traced front refusal outcome (inr e) is said = rw e (rw is at said)

-- ---- the model

-- what is said where the bytes of a file spell no model
pub fault_said : (seen : FilesState) (folder path main text : List ℕ) (why : ModelFault) (outcome : Outcome) → Fails why (spelled_model path text) → IsSaid (say_fault path text why) outcome
    → IsGiven seen seen (doctor_text folder path main text) outcome
fault_said seen folder path main text fault.NoMemory outcome spelled said = elim (refused_so NoMemory outcome said) [ inl e ↦ inl e | inr e ↦ inl e ]
fault_said seen folder path main text (fault.Line line reason) outcome spelled said =
    said_behind seen seen (doctor_text folder path main text) (say_model path text (BadModel line reason)) outcome
    (refusal_leads seen.held (model_of path text) (say_model path text) (doctor_model folder path text main) (BadModel line reason) (ap or_bad_model spelled)) said

pub allowed_given : (old new : FilesState) (model : Model) (none some : Plan) (outcome : Outcome) → AllowsSome model → IsGiven old new some outcome → IsGiven old new (By_allowed model none some) outcome
allowed_given old new model none some outcome allows (inl e) = inl e
allowed_given old new model none some outcome allows (inr g) = inr (inr (allows, g))

pub none_given : (old new : FilesState) (model : Model) (none some : Plan) (outcome : Outcome) → AllowsNone model → IsSaid none outcome → IsGiven old new (By_allowed model none some) outcome
none_given old new model none some outcome allows (inl e) = inl e
none_given old new model none some outcome allows (inr h) = inr (inl (allows, h old.held old.faults new.faults))

-- the texts of a model, one behind the other
pub model_parts : (path text : List ℕ) (model : Model) → first_line ++ overview_text model ++ remarks_if (is_dimacs_path path) text model ≡ model_part (is_dimacs_path path) text model
unfolding model_part
model_parts path text model = refl
