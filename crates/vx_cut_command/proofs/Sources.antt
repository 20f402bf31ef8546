-- What `cut` made of a model, a report and the options that are chosen, in terms of its plan.
use Rattle.std.proofs.Common.{◌≡◌, ◌⊎◌, inl, inr, ℕ, Bool, true, false, List, Option, None, Some, Result, Ok, Err, Vec, Global, IfErr, IfOk, IfSome, MatchResult, refl, ap, sym, ◌∙◌}
use Rattle.std.specs.Prelude.{if◌then◌else◌}
use Rattle.vx_agree.specs.Options.{are_same_names}
use Rattle.vx_cut.specs.Choices.{is_choice}
use Rattle.vx_cut.specs.Cuts.{IsCutText, is_oversized, most_part_bytes}
use Rattle.vx_cut.specs.Texts.{parts_of}
use Rattle.vx_cut.specs.declared.cutting.CutFault.{CutFault}
use Rattle.vx_cut.specs.declared.cutting.CutFault.TheVariants as large
use Rattle.vx_io.specs.Held.{Held, FilesState}
use Rattle.vx_inputs.specs.Reports.{read_report}
use Rattle.vx_inputs.proofs.Inputs.{allowed_goes}
use Rattle.vx_model.specs.Text.{BadLine}
use Rattle.vx_model.specs.declared.model.Model.{Model}
use Rattle.vx_plans.specs.Job.{Parts, is_dimacs_path, model_of, names_of, or_bad_model, spelled_model}
use Rattle.vx_plans.specs.KeepsFiles.{KeepsFiles}
use Rattle.vx_plans.specs.Plan.{AllowsNone, AllowsSome, Choose, If_allowed, Leads, MayGive, MayStop, Plan, Write, attempt, done_with, unless}
use Rattle.vx_plans.specs.Sized.{most_bytes, read_sized}
use Rattle.vx_plans.specs.declared.status.Status.{Status}
use Rattle.vx_plans.specs.declared.status.Status.TheVariants.{NoConfiguration, NoMemory, TooLarge, Unlike}
use Rattle.vx_plans.proofs.Plans.{attempt_goes, attempt_stops, goes_on, keeps_then, leads_before, no_memory, stops_behind, stops_for, then_leads, value_stops}
use Rattle.vx_report.specs.declared.report.Report.{Report}
use Rattle.vx_report_reader.specs.Lawful.{IsLawful}
use Rattle.vx_cut_command.specs.Cut.{Choice, GivesParts, IsChosen, IsOversized, IsUnchosen, Many, Named, choose, cut_by, cut_plan, cut_source, named_options, oversized, read_like, read_source, too_few, unlike_model}

-- ---- the model

-- what reads a model's text before it goes on
abbrev with_model : List ℕ → (List ℕ → Model → Plan) → List ℕ → Plan
with_model path next text = attempt (model_of path text) (λ model. If_allowed model (next text model))

pub source_goes : (held : Option Held) (path text : List ℕ) (model : Model) (next : List ℕ → Model → Plan) → ((n : List ℕ → Plan) → Leads held (read_sized most_bytes path path n) (n text)) → model_of path text ≡ Ok model → AllowsSome model
    → Leads held (read_source path next) (next text model)
source_goes held path text model next leads taken some =
    then_leads (leads (with_model path next)) (then_leads (attempt_goes held (model_of path text) (λ m. If_allowed m (next text m)) model taken) (allowed_goes held model (next text model) some))

pub source_stops : (old new : FilesState) (path text : List ℕ) (next : List ℕ → Model → Plan) (status : Status) → KeepsFiles old new → ((n : List ℕ → Plan) → Leads old.held (read_sized most_bytes path path n) (n text))
    → (status ≡ NoMemory) ⊎ (model_of path text ≡ Err status) → MayStop old new (read_source path next) status
source_stops old new path text next status keeps leads why = value_stops old new (read_source path next) (model_of path text) (λ m. If_allowed m (next text m)) status keeps (leads (with_model path next)) why

pub source_forbids : (old new : FilesState) (path text : List ℕ) (model : Model) (next : List ℕ → Model → Plan) (status : Status) → KeepsFiles old new → ((n : List ℕ → Plan) → Leads old.held (read_sized most_bytes path path n) (n text)) → model_of path text ≡ Ok model
    → (status ≡ NoMemory) ⊎ ((status ≡ NoConfiguration) × AllowsNone model) → MayStop old new (read_source path next) status
source_forbids old new path text model next status keeps leads taken (inl e) = no_memory old new (read_source path next) status e
source_forbids old new path text model next status keeps leads taken (inr none) =
    stops_behind old new new (read_source path next) (If_allowed model (next text model)) status keeps
    (then_leads (leads (with_model path next)) (attempt_goes old.held (model_of path text) (λ m. If_allowed m (next text m)) model taken))
    (record { why = inr (inl (none.1, ap Err none.0)) })

-- a model that is read has this spelling
model_spelled : (r : Result Model BadLine) (model : Model) → or_bad_model r ≡ Ok model → r ≡ Ok model
model_spelled (Ok m) model e = let same : m ≡ model = cc (e) in ap (λ x. Ok x) same
model_spelled (Err bad) model e = cc (e)

pub is_spelled : (path text : List ℕ) (model : Model) → model_of path text ≡ Ok model → spelled_model path text ≡ Ok model
is_spelled path text model e = model_spelled (spelled_model path text) model e

-- ---- the report

abbrev refused_unless : Bool → Option Status
refused_unless b = if b then None else Some Unlike

pub alike : (report : Report) (model : Model) → are_same_names report.options (names_of model) ≡ true → unlike_model report model ≡ None
alike report model e = ap refused_unless e

pub not_alike : (report : Report) (model : Model) → are_same_names report.options (names_of model) ≡ false → unlike_model report model ≡ Some Unlike
not_alike report model e = ap refused_unless e

-- a report that is one of the model, or the refusal
abbrev pub IsLike : Report → Model → Result Report Status → Type 0
IsLike report model r = MatchResult r (λ same. (same ≡ report) × (unlike_model report model ≡ None)) (λ status. (status ≡ NoMemory) ⊎ (unlike_model report model ≡ Some status))

pub like_ok : (held : Option Held) (path : List ℕ) (model : Model) (report : Report) (r : Result Report Status) → ((n : Report → Plan) → Leads held (read_report path n) (n report)) → IsLike report model r
    → IfOk r (λ same. (next : Plan) → Leads held (read_like (Some path) model next) next)
like_ok held path model report (Err e) leads made = tt
like_ok held path model report (Ok same) leads made = λ next. then_leads (leads (λ rep. unless (unlike_model rep model) next)) (goes_on held (unlike_model report model) next made.1)

pub like_lawful : (model : Model) (report : Report) (r : Result Report Status) → IsLawful report → IsLike report model r → IfOk r IsLawful
like_lawful model report (Err e) lawful made = tt
like_lawful model report (Ok same) lawful made = rw made.0 lawful

pub like_err : (old new : FilesState) (path : List ℕ) (model : Model) (report : Report) (r : Result Report Status) → KeepsFiles old new → ((n : Report → Plan) → Leads old.held (read_report path n) (n report)) → IsLike report model r
    → IfErr r (λ status. (next : Plan) → MayStop old new (read_like (Some path) model next) status)
like_err old new path model report (Ok same) keeps leads made = tt
like_err old new path model report (Err status) keeps leads made = λ next. by next made
  where
    by : (next : Plan) → (status ≡ NoMemory) ⊎ (unlike_model report model ≡ Some status) → MayStop old new (read_like (Some path) model next) status
    by next (inl e) = no_memory old new _ status e
    by next (inr e) = stops_behind old new new (read_like (Some path) model next) (unless (unlike_model report model) next) status keeps (leads (λ rep. unless (unlike_model rep model) next)) (stops_for new new (unlike_model report model) next status e)

pub passed_on : (held : Option Held) (plan : Plan) → Leads held plan plan
passed_on held plan = record { to = λ _ _ _ h. h }

-- ---- the options

-- goes on with options that are chosen
chosen_goes : (held : Option Held) (choice : Choice) (model : Model) (next : List Bool → Plan) (chosen : List Bool) → IsChosen choice model chosen → Leads held (choose choice model next) (next chosen)
chosen_goes held (Named word) model next chosen is = attempt_goes held (named_options model word) next chosen is
chosen_goes held (Many count) model next chosen is =
    then_leads (goes_on held (too_few model count) (Choose (is_choice model count) next) is.0) (record { to = λ _ _ _ h. (chosen, is.1, h) })

unchosen_stops : (old new : FilesState) (choice : Choice) (model : Model) (next : List Bool → Plan) (status : Status) → IsUnchosen choice model status → MayStop old new (choose choice model next) status
unchosen_stops old new (Named word) model next status e = attempt_stops old new (named_options model word) next status e
unchosen_stops old new (Many count) model next status e = stops_for old new (too_few model count) (Choose (is_choice model count) next) status e

-- ---- the whole

-- the parts, or the refusal
abbrev pub AreCut : (path text : List ℕ) → Choice → Model → Result (Vec ℕ Global) Status → Type 0
AreCut path text choice model r =
    MatchResult r (λ bytes. GivesParts path text choice model bytes.items) (λ status. (status ≡ NoMemory) ⊎ (IsUnchosen choice model status ⊎ IsOversized path text choice model status))

-- the plan from the model and the report on
to_choice : (old mid : FilesState) (path : List ℕ) (choice : Choice) (report : Option (List ℕ)) (text : List ℕ) (model : Model) → KeepsFiles old mid → ((next : List ℕ → Model → Plan) → Leads old.held (read_source path next) (next text model))
    → ((next : Plan) → Leads mid.held (read_like report model next) next) → Leads old.held (cut_plan path choice report) (choose choice model (cut_by path text model))
to_choice old mid path choice report text model keeps source like = then_leads (source (cut_source path choice report)) (leads_before keeps (like (choose choice model (cut_by path text model))))

pub cut_ok : (old mid new : FilesState) (path : List ℕ) (choice : Choice) (report : Option (List ℕ)) (text : List ℕ) (model : Model) (r : Result (Vec ℕ Global) Status) → KeepsFiles old mid
    → ((next : List ℕ → Model → Plan) → Leads old.held (read_source path next) (next text model)) → ((next : Plan) → Leads mid.held (read_like report model next) next) → AreCut path text choice model r
    → IfOk r (λ bytes. MayGive old.held old.faults new.faults (cut_plan path choice report) (done_with bytes.items))
cut_ok old mid new path choice report text model (Err e) keeps source like made = tt
cut_ok old mid new path choice report text model (Ok bytes) keeps source like made =
    let there = then_leads (to_choice old mid path choice report text model keeps source like) (chosen_goes old.held choice model (cut_by path text model) made.chosen made.is_chosen) in
    (then_leads there (goes_on old.held (oversized path text model made.chosen) (Write (Parts (is_dimacs_path path) text model made.chosen)) made.fits)).to old.faults new.faults (done_with bytes.items) (bytes.items, made.shows, refl)

pub cut_err : (old mid new : FilesState) (path : List ℕ) (choice : Choice) (report : Option (List ℕ)) (text : List ℕ) (model : Model) (r : Result (Vec ℕ Global) Status) → KeepsFiles old mid → KeepsFiles mid new
    → ((next : List ℕ → Model → Plan) → Leads old.held (read_source path next) (next text model)) → ((next : Plan) → Leads mid.held (read_like report model next) next) → AreCut path text choice model r
    → IfErr r (λ status. MayStop old new (cut_plan path choice report) status)
cut_err old mid new path choice report text model (Ok bytes) before keeps source like made = tt
cut_err old mid new path choice report text model (Err status) before keeps source like made = by made
  where
    there : Leads old.held (cut_plan path choice report) (choose choice model (cut_by path text model))
    there = to_choice old mid path choice report text model before source like

    by : (status ≡ NoMemory) ⊎ (IsUnchosen choice model status ⊎ IsOversized path text choice model status) → MayStop old new (cut_plan path choice report) status
    by (inl e) = no_memory old new _ status e
    by (inr (inl e)) = stops_behind old new new (cut_plan path choice report) (choose choice model (cut_by path text model)) status (keeps_then before keeps) there (unchosen_stops new new choice model (cut_by path text model) status e)
    by (inr (inr e)) =
        stops_behind old new new (cut_plan path choice report) (cut_by path text model e.chosen) status (keeps_then before keeps) (then_leads there (chosen_goes old.held choice model (cut_by path text model) e.chosen e.is_chosen))
        (stops_for new new (oversized path text model e.chosen) (Write (Parts (is_dimacs_path path) text model e.chosen)) status e.large)

-- the parts by options that are chosen, or the refusal of a part that is too large
abbrev pub AreParts : (path text : List ℕ) → Model → (chosen : List Bool) → Result (Vec ℕ Global) Status → Type 0
AreParts path text model chosen r =
    MatchResult r (λ bytes. IsCutText (is_dimacs_path path) text model chosen bytes.items × (oversized path text model chosen ≡ None)) (λ status. (status ≡ NoMemory) ⊎ (oversized path text model chosen ≡ Some status))

pub cut_gives : (path text : List ℕ) (choice : Choice) (model : Model) (chosen : List Bool) (r : Result (Vec ℕ Global) Status) → IsChosen choice model chosen → AreParts path text model chosen r → AreCut path text choice model r
cut_gives path text choice model chosen (Ok bytes) is made = record { chosen = chosen; is_chosen = is; fits = made.1; shows = made.0 }
cut_gives path text choice model chosen (Err status) is (inl e) = inl e
cut_gives path text choice model chosen (Err status) is (inr e) = inr (inr (record { chosen = chosen; is_chosen = is; large = e }))

pub unchosen_refused : (path text : List ℕ) (choice : Choice) (model : Model) (status : Status) → (status ≡ NoMemory) ⊎ IsUnchosen choice model status → (status ≡ NoMemory) ⊎ (IsUnchosen choice model status ⊎ IsOversized path text choice model status)
unchosen_refused path text choice model status (inl e) = inl e
unchosen_refused path text choice model status (inr e) = inr (inl e)

abbrev large_if : List ℕ → Bool → Option Status
large_if path b = if b then Some (TooLarge path most_part_bytes) else None

pub fits_so : (path text : List ℕ) (model : Model) (chosen : List Bool) → is_oversized (parts_of (is_dimacs_path path) text model chosen) ≡ false → oversized path text model chosen ≡ None
fits_so path text model chosen e = ap (large_if path) e

-- what refuses the parts, where it isn't want of memory
pub large_so : (path text : List ℕ) (model : Model) (chosen : List Bool) (e : CutFault) → e ≡ large.TooLarge → (e ≡ large.NoMemory) ⊎ ((e ≡ large.TooLarge) × (is_oversized (parts_of (is_dimacs_path path) text model chosen) ≡ true)) → oversized path text model chosen ≡ Some (TooLarge path most_part_bytes)
large_so path text model chosen e is (inl m) = let wrong : large.TooLarge ≡ large.NoMemory = sym is ∙ m in cc (wrong)
large_so path text model chosen e is (inr h) = ap (large_if path) h.1
