-- What the parts of plans that read models, class files and reports may give.
use Rattle.std.proofs.Common.{◌≡◌, ◌≤◌, ◌<◌, ◌+◌, ℕ, Bool, true, false, List, length, IfSome, Option, Result, Ok, Err, inl, inr, refl, ap, subst, sym, ◌∙◌, arith, map, filter, [], ◌∷◌, cond, ◌⊎◌, IfOk, IfErr, MatchResult, String, Vec, Global, string_bytes, drop, drop-cons, get_or, add-one, ◌++◌}
use Rattle.std.specs.List.{AllByRecursion}
use Rattle.vx_io.specs.Held.{Held, FilesState, IsListing}
use Rattle.vx_plans.specs.declared.status.Status.{Status}
use Rattle.vx_plans.specs.declared.status.Status.TheVariants.{TooLarge, NoMemory, NoConfiguration}
use Rattle.vx_plans.specs.Plan.{Plan, If_allowed, As_report, AllowsSome, AllowsNone, IsRefused, Leads, MayStop, attempt}
use Rattle.vx_pool.specs.Reading.{Fault}
use Rattle.vx_model.specs.declared.model.Model.{Model}
use Rattle.vx_plans.specs.Job.{model_of}
use Rattle.vx_report.specs.declared.report.Report.{Report}
use Rattle.vx_report_reader.specs.Rules.{ReportText}
use Rattle.vx_plans.specs.KeepsFiles.{KeepsFiles}
use Rattle.vx_inputs.specs.Reports.{most_report_bytes, read_report, read_reports}
use Rattle.vx_inputs.specs.Folder.{read_checked, read_classes, list_classes, read_folder, class_paths, or_bad_class, place_of, most_classes}
use Rattle.vx_inputs.specs.ModelFile.{read_model, read_any_model}
use Rattle.vx_plans.specs.Sized.{most_bytes, read_sized}
use Rattle.vx_plans.proofs.Plans.{attempt_goes, then_leads, value_stops, fits, exceeds, goes_on, refuses, stops_behind, no_memory}

-- a filter by what elements are mapped to
pub map_filter : {X Y : Type 0} (f : X → Y) (p : Y → Bool) (xs : List X) → map f (filter (λ x. p (f x)) xs) ≡ filter p (map f xs)
map_filter f p [] = refl
map_filter f p (x ∷ xs) = by_test (p (f x)) (map_filter f p xs)
  where
    by_test : (b : Bool) → map f (filter (λ x. p (f x)) xs) ≡ filter p (map f xs) → map f (cond b (x ∷ filter (λ x. p (f x)) xs) (filter (λ x. p (f x)) xs)) ≡ cond b (f x ∷ filter p (map f xs)) (filter p (map f xs))
    by_test true e = ap (λ l. f x ∷ l) e
    by_test false e = e

-- a folder was listed
pub listed_gives : (held : Option Held) (folder : List ℕ) (paths : List (List ℕ)) (next : List (List ℕ) → Plan) → length (class_paths paths) ≤ most_classes → IfSome held (λ files. IsListing files folder paths)
    → Leads held (list_classes folder next) (next (class_paths paths))
listed_gives held folder paths next small told = record {
  to = λ before after outcome h. inr (paths, told, (goes_on held _ (next (class_paths paths)) (fits folder most_classes (length (class_paths paths)) small)).to before after outcome h);
}

-- it has too many class files
pub listed_exceeds : (old new : FilesState) (folder : List ℕ) (paths : List (List ℕ)) (next : List (List ℕ) → Plan) → most_classes < length (class_paths paths) → IfSome old.held (λ files. IsListing files folder paths)
    → MayStop old new (list_classes folder next) (TooLarge folder most_classes)
listed_exceeds old new folder paths next large told = record {
  why = inr (inr (paths, told, refuses old.held old.faults new.faults _ (next (class_paths paths)) (TooLarge folder most_classes) (exceeds folder most_classes (length (class_paths paths)) large)));
}

-- a class file was read
pub class_ok : {A : Type 0} (given : List ℕ → Result A Fault) (held : Option Held) (folder path bytes : List ℕ) (r : Result A Status) → ((next : List ℕ → Plan) → Leads held (read_sized most_bytes (place_of folder path) path next) (next bytes))
    → MatchResult r (λ taken. or_bad_class path (given bytes) ≡ Ok taken) (λ status. (status ≡ NoMemory) ⊎ (or_bad_class path (given bytes) ≡ Err status))
    → IfOk r (λ taken. (next : A → Plan) → Leads held (read_checked given folder path next) (next taken))
class_ok given held folder path bytes (Err e) leads read = tt
class_ok given held folder path bytes (Ok taken) leads read = λ next. then_leads (leads (λ b. attempt (or_bad_class path (given b)) next)) (attempt_goes held (or_bad_class path (given bytes)) next taken read)

pub class_err : {A : Type 0} (given : List ℕ → Result A Fault) (old new : FilesState) (folder path bytes : List ℕ) (r : Result A Status) → KeepsFiles old new → ((next : List ℕ → Plan) → Leads old.held (read_sized most_bytes (place_of folder path) path next) (next bytes))
    → MatchResult r (λ taken. or_bad_class path (given bytes) ≡ Ok taken) (λ status. (status ≡ NoMemory) ⊎ (or_bad_class path (given bytes) ≡ Err status))
    → IfErr r (λ status. (next : A → Plan) → MayStop old new (read_checked given folder path next) status)
class_err given old new folder path bytes (Ok taken) keeps leads read = tt
class_err given old new folder path bytes (Err e) keeps leads read = λ next. value_stops old new (read_checked given folder path next) (or_bad_class path (given bytes)) next e keeps (leads (λ b. attempt (or_bad_class path (given b)) next)) read

-- the class files so far, and one more
pub one_class_more : {A : Type 0} (given : List ℕ → Result A Fault) (held : Option Held) (folder : List ℕ) (plan : Plan) (next : List A → Plan) (paths : List (String Global)) (i : ℕ) (d : String Global) (path : List ℕ) (done : List A) (more : A) → i < length paths
    → path ≡ string_bytes (get_or paths i d)
    → Leads held plan (read_classes given folder next done (map string_bytes (drop i paths)))
    → ((n : A → Plan) → Leads held (read_checked given folder path n) (n more))
    → Leads held plan (read_classes given folder next (done ++ more ∷ []) (map string_bytes (drop (i + 1) paths)))
one_class_more given held folder plan next paths i d path done more small is leads read =
    let at : map string_bytes (drop i paths) ≡ path ∷ map string_bytes (drop (i + 1) paths) = ap (map string_bytes) (drop-cons paths i d small) ∙ rw (sym is, add-one i) in
    then_leads (rw at at leads) (read (λ c. read_classes given folder next (done ++ c ∷ []) (map string_bytes (drop (i + 1) paths))))

-- the plan at a class file
pub at_class : {A : Type 0} (given : List ℕ → Result A Fault) (held : Option Held) (folder : List ℕ) (plan : Plan) (next : List A → Plan) (paths : List (String Global)) (i : ℕ) (d : String Global) (path : List ℕ) (done : List A) → i < length paths
    → path ≡ string_bytes (get_or paths i d)
    → Leads held plan (read_classes given folder next done (map string_bytes (drop i paths)))
    → Leads held plan (read_checked given folder path (λ c. read_classes given folder next (done ++ c ∷ []) (map string_bytes (drop (i + 1) paths))))
at_class given held folder plan next paths i d path done small is leads =
    let at : map string_bytes (drop i paths) ≡ path ∷ map string_bytes (drop (i + 1) paths) = ap (map string_bytes) (drop-cons paths i d small) ∙ rw (sym is, add-one i) in
    rw at at leads

-- a model allows a configuration
pub allowed_goes : (held : Option Held) (model : Model) (plan : Plan) → AllowsSome model → Leads held (If_allowed model plan) plan
allowed_goes held model plan some = record { to = λ _ _ _ h. inr (some, h) }

-- a model was read, and it allows a configuration
pub model_goes : (held : Option Held) (path text : List ℕ) (model : Model) (next : Model → Plan) → ((n : List ℕ → Plan) → Leads held (read_sized most_bytes path path n) (n text))
    → model_of path text ≡ Ok model → AllowsSome model → Leads held (read_model path next) (next model)
model_goes held path text model next leads taken some =
    then_leads (leads (λ t. attempt (model_of path t) (λ m. If_allowed m (next m))))
    (then_leads (attempt_goes held (model_of path text) (λ m. If_allowed m (next m)) model taken) (allowed_goes held model (next model) some))

-- it is refused
pub model_stops : (old new : FilesState) (path text : List ℕ) (next : Model → Plan) (status : Status) → KeepsFiles old new → ((n : List ℕ → Plan) → Leads old.held (read_sized most_bytes path path n) (n text))
    → (status ≡ NoMemory) ⊎ (model_of path text ≡ Err status) → MayStop old new (read_model path next) status
model_stops old new path text next status keeps leads why =
    value_stops old new (read_model path next) (model_of path text) (λ m. If_allowed m (next m)) status keeps (leads (λ t. attempt (model_of path t) (λ m. If_allowed m (next m)))) why

-- it allows none
pub model_allows_none : (old new : FilesState) (path text : List ℕ) (model : Model) (next : Model → Plan) → KeepsFiles old new → ((n : List ℕ → Plan) → Leads old.held (read_sized most_bytes path path n) (n text))
    → model_of path text ≡ Ok model → AllowsNone model → MayStop old new (read_model path next) NoConfiguration
model_allows_none old new path text model next keeps leads taken none =
    stops_behind old new new (read_model path next) (If_allowed model (next model)) NoConfiguration keeps
    (then_leads (leads (λ t. attempt (model_of path t) (λ m. If_allowed m (next m)))) (attempt_goes old.held (model_of path text) (λ m. If_allowed m (next m)) model taken))
    (record { why = inr (inl (none, refl)) })

-- it is taken with what belongs to it, or refused
abbrev pub IsTaken : {T : Type 0} (model : Model) (of : T → Model) (Is : T → Type 0) → Result T Status → Type 0
IsTaken model of Is r = MatchResult r (λ t. (of t ≡ model) × Is t) (λ status. (status ≡ NoMemory) ⊎ ((status ≡ NoConfiguration) × AllowsNone model))

pub modeled_is : {T : Type 0} (model : Model) (of : T → Model) (Is : T → Type 0) (r : Result T Status) → IsTaken model of Is r → IfOk r Is
modeled_is model of Is (Ok t) taken = taken.1
modeled_is model of Is (Err status) taken = tt

pub modeled_goes : {T : Type 0} (held : Option Held) (path text : List ℕ) (model : Model) (of : T → Model) (Is : T → Type 0) (r : Result T Status) → ((t : T) → Is t → AllowsSome (of t))
    → ((n : List ℕ → Plan) → Leads held (read_sized most_bytes path path n) (n text)) → model_of path text ≡ Ok model → IsTaken model of Is r
    → IfOk r (λ t. (next : Model → Plan) → Leads held (read_model path next) (next (of t)))
modeled_goes held path text model of Is (Ok t) some leads spelled taken = λ next. rw taken.0 (model_goes held path text model next leads spelled (subst AllowsSome taken.0 (some t taken.1)))
modeled_goes held path text model of Is (Err status) some leads spelled taken = tt

pub modeled_stops : {T : Type 0} (old new : FilesState) (path text : List ℕ) (model : Model) (of : T → Model) (Is : T → Type 0) (r : Result T Status) → KeepsFiles old new
    → ((n : List ℕ → Plan) → Leads old.held (read_sized most_bytes path path n) (n text)) → model_of path text ≡ Ok model → IsTaken model of Is r
    → IfErr r (λ status. (next : Model → Plan) → MayStop old new (read_model path next) status)
modeled_stops old new path text model of Is (Ok t) keeps leads spelled taken = tt
modeled_stops old new path text model of Is (Err status) keeps leads spelled (inl e) = λ next. record { why = inl e }
modeled_stops old new path text model of Is (Err status) keeps leads spelled (inr none) = λ next. rw none.0 (model_allows_none old new path text model next keeps leads spelled none.1)

-- a folder was listed, and its class files were read
pub folder_ok : {A : Type 0} (given : List ℕ → Result A Fault) (old mid : FilesState) (folder : List ℕ) (paths : List (List ℕ)) (r : Result (Vec A Global) Status) → KeepsFiles old mid
    → ((next : List (List ℕ) → Plan) → Leads old.held (list_classes folder next) (next paths)) → IfOk r (λ all. (next : List A → Plan) → Leads mid.held (read_classes given folder next [] paths) (next all.items))
    → IfOk r (λ all. (next : List A → Plan) → Leads old.held (read_folder given folder next) (next all.items))
folder_ok given old mid folder paths (Err status) keeps listed read = tt
folder_ok given old mid folder paths (Ok all) keeps listed read = λ next. then_leads (listed (λ p. read_classes given folder next [] p)) (rw keeps.held at (read next))

pub folder_err : {A : Type 0} (given : List ℕ → Result A Fault) (old mid new : FilesState) (folder : List ℕ) (paths : List (List ℕ)) (r : Result (Vec A Global) Status) → KeepsFiles old mid
    → ((next : List (List ℕ) → Plan) → Leads old.held (list_classes folder next) (next paths)) → IfErr r (λ status. (next : List A → Plan) → MayStop mid new (read_classes given folder next [] paths) status)
    → IfErr r (λ status. (next : List A → Plan) → MayStop old new (read_folder given folder next) status)
folder_err given old mid new folder paths (Ok all) keeps listed read = tt
folder_err given old mid new folder paths (Err status) keeps listed read = λ next. stops_behind old mid new (read_folder given folder next) (read_classes given folder next [] paths) status keeps (listed (λ p. read_classes given folder next [] p)) (read next)

-- as many class files as there are paths, which are few
pub few_classes : {A : Type 0} (r : Result (Vec A Global) Status) (count most : ℕ) → count ≤ most → IfOk r (λ all. length all.items ≡ count) → IfOk r (λ all. length all.items ≤ most)
few_classes (Err status) count most few same = tt
few_classes (Ok all) count most few same = omega (arith, few, same)

-- a report was read
pub report_ok : (held : Option Held) (path bytes : List ℕ) (r : Result Report Status) → ((n : List ℕ → Plan) → Leads held (read_sized most_report_bytes path path n) (n bytes)) → IfOk r (λ report. ReportText bytes report)
    → IfOk r (λ report. (next : Report → Plan) → Leads held (read_report path next) (next report))
report_ok held path bytes (Err status) leads read = tt
report_ok held path bytes (Ok report) leads read = λ next. then_leads (leads (λ b. As_report b next)) (record { to = λ _ _ _ h. inr (report, read, h) })

-- it is none
pub report_err : (old new : FilesState) (path bytes : List ℕ) (r : Result Report Status) → KeepsFiles old new → ((n : List ℕ → Plan) → Leads old.held (read_sized most_report_bytes path path n) (n bytes)) → IfErr r (λ status. IsRefused bytes status)
    → IfErr r (λ status. (next : Report → Plan) → MayStop old new (read_report path next) status)
report_err old new path bytes (Ok report) keeps leads refused = tt
report_err old new path bytes (Err status) keeps leads refused = λ next. by_cause next refused
  where
    by_cause : (next : Report → Plan) → IsRefused bytes status → MayStop old new (read_report path next) status
    by_cause next (inl e) = no_memory old new _ status e
    by_cause next (inr bad) =
        stops_behind old new new (read_report path next) (As_report bytes next) status keeps (leads (λ b. As_report b next)) (record { why = inr (inl (bad.0, bad.1, ap Err bad.2)) })

pub any_model_ok : (held : Option Held) (path bytes : List ℕ) (r : Result Model Status) → ((next : List ℕ → Plan) → Leads held (read_sized most_bytes path path next) (next bytes))
    → MatchResult r (λ model. model_of path bytes ≡ Ok model) (λ status. (status ≡ NoMemory) ⊎ (model_of path bytes ≡ Err status))
    → IfOk r (λ model. (next : Model → Plan) → Leads held (read_any_model path next) (next model))
any_model_ok held path bytes (Err e) leads read = tt
any_model_ok held path bytes (Ok model) leads read = λ next. then_leads (leads (λ b. attempt (model_of path b) next)) (attempt_goes held (model_of path bytes) next model read)

pub any_model_err : (old new : FilesState) (path bytes : List ℕ) (r : Result Model Status) → KeepsFiles old new → ((next : List ℕ → Plan) → Leads old.held (read_sized most_bytes path path next) (next bytes))
    → MatchResult r (λ model. model_of path bytes ≡ Ok model) (λ status. (status ≡ NoMemory) ⊎ (model_of path bytes ≡ Err status))
    → IfErr r (λ status. (next : Model → Plan) → MayStop old new (read_any_model path next) status)
any_model_err old new path bytes (Ok model) keeps leads read = tt
any_model_err old new path bytes (Err e) keeps leads read = λ next. value_stops old new (read_any_model path next) (model_of path bytes) next e keeps (leads (λ b. attempt (model_of path b) next)) read

-- the reports so far, and one more
pub one_report_more : (held : Option Held) (plan : Plan) (next : List Report → Plan) (paths : List (String Global)) (i : ℕ) (d : String Global) (path : List ℕ) (done : List Report) (more : Report) → i < length paths
    → path ≡ string_bytes (get_or paths i d)
    → Leads held plan (read_reports next done (map string_bytes (drop i paths)))
    → ((n : Report → Plan) → Leads held (read_report path n) (n more))
    → Leads held plan (read_reports next (done ++ more ∷ []) (map string_bytes (drop (i + 1) paths)))
one_report_more held plan next paths i d path done more small is leads read =
    let at : map string_bytes (drop i paths) ≡ path ∷ map string_bytes (drop (i + 1) paths) = ap (map string_bytes) (drop-cons paths i d small) ∙ rw (sym is, add-one i) in
    then_leads (rw at at leads) (read (λ r. read_reports next (done ++ r ∷ []) (map string_bytes (drop (i + 1) paths))))

-- the plan at a report
pub at_report : (held : Option Held) (plan : Plan) (next : List Report → Plan) (paths : List (String Global)) (i : ℕ) (d : String Global) (path : List ℕ) (done : List Report) → i < length paths
    → path ≡ string_bytes (get_or paths i d)
    → Leads held plan (read_reports next done (map string_bytes (drop i paths)))
    → Leads held plan (read_report path (λ r. read_reports next (done ++ r ∷ []) (map string_bytes (drop (i + 1) paths))))
at_report held plan next paths i d path done small is leads =
    let at : map string_bytes (drop i paths) ≡ path ∷ map string_bytes (drop (i + 1) paths) = ap (map string_bytes) (drop-cons paths i d small) ∙ rw (sym is, add-one i) in
    rw at at leads

-- what holds of all items holds with one more
pub all_more : {A : Type 0} (P : A → Type 0) (xs : List A) (x : A) → AllByRecursion P xs → P x → AllByRecursion P (xs ++ x ∷ [])
all_more P [] x all here = (here, tt)
all_more P (y ∷ xs) x all here = (all.0, all_more P xs x all.1 here)
