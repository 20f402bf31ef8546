-- What the plan of `cut` gave shows in terms of the files.
use Rattle.std.proofs.Common.{◌≡◌, ◌≤◌, ◌<◌, ℕ, Bool, true, false, List, length, IfSome, Option, None, Some, Result, Ok, Err, inl, inr, ◌⊎◌, refl, ap, subst, sym, ◌∙◌, arith}
use Rattle.std.specs.Prelude.{if◌then◌else◌, nat_le, nat_lt}
use Rattle.vx_agree.specs.Options.{are_same_names}
use Rattle.vx_configuration.specs.Configuration.{configuration_of}
use Rattle.vx_cut.specs.Choices.{chosen_count, is_choice}
use Rattle.vx_cut.specs.Cuts.{is_oversized, joined, most_part_bytes}
use Rattle.vx_cut.specs.Texts.{parts_of}
use Rattle.vx_io.specs.Call.{Reading}
use Rattle.vx_io.specs.Held.{Held, FilesState, contents}
use Rattle.vx_io.specs.Sink.{SinkState}
use Rattle.vx_model.specs.Models.{is_allowed}
use Rattle.vx_model.specs.declared.model.Model.{Model}
use Rattle.vx_report.specs.declared.report.Report.{Report}
use Rattle.vx_report_reader.proofs.Verdicts.{report_same}
use Rattle.vx_plans.specs.declared.status.Status.{Status}
use Rattle.vx_plans.specs.declared.status.Status.TheVariants.{Done, NoMemory, ReadFault, WriteFault, BadModel, NoConfiguration, BadReport, NotAllowed, TooLarge, Unlike}
use Rattle.vx_plans.specs.Job.{Parts, is_dimacs_path, model_of, names_of}
use Rattle.vx_plans.specs.Plan.{AllowsNone, AllowsSome, Choose, If_allowed, MayGive, Outcome, Plan, Write, attempt, unless}
use Rattle.vx_plans.specs.Sized.{most_bytes}
use Rattle.vx_plans.proofs.Told.{IsText, SizedShows, attempt_cases, ok_and_err, same_value, sized_shows, told_both, told_map, unless_cases}
use Rattle.vx_inputs.specs.Reports.{most_report_bytes, read_report}
use Rattle.vx_cut_command.specs.Cut.{Choice, GivesParts, IsChosen, IsOversized, IsUnchosen, Many, Named, choose, cut_by, cut_plan, cut_source, if_few, most_chosen, named_options, oversized, read_like, too_few, unlike_model}
use Rattle.vx_cli.specs.Command.{Cut}
use Rattle.vx_cli.specs.Causes.{CutCause, HasGoodModel, HasLargePart, HasNoChoice, IsBadAt, IsGood, IsGoodModel, IsLikeIn, IsModelOf, IsParted, IsReportIn, IsShown, IsNamed, IsUnlikeModel, NoFileRose, NothingFails, Shows}
use Rattle.vx_cli.proofs.ReportTold.{ReportShows, not_bad, report_shows}
use Rattle.vx_cli.proofs.RunShown.{model_refused}

-- ---- each refusal comes alone

unless_same : (b : Bool) (status : Status) → (if b then None else Some Unlike) ≡ Some status → status ≡ Unlike
unless_same true status e = cc (e)
unless_same false status e = cc (e)

unlike_alone : (report : Report) (model : Model) (status : Status) → unlike_model report model ≡ Some status → status ≡ Unlike
unlike_alone report model status e = unless_same (are_same_names report.options (names_of model)) status e

few_alone : (b : Bool) (status : Status) → (if b then Some NotAllowed else None) ≡ Some status → status ≡ NotAllowed
few_alone true status e = cc (e)
few_alone false status e = cc (e)

too_few_alone : (model : Model) (count : ℕ) (status : Status) → too_few model count ≡ Some status → status ≡ NotAllowed
too_few_alone model count status e = few_alone (nat_lt (length model.options) count) status e

named_alone : (o : Option (List Bool)) (status : Status) → if_few o ≡ Err status → status ≡ NotAllowed
named_alone None status e = cc (e)
named_alone (Some chosen) status e = by (nat_le (chosen_count chosen) most_chosen) e
  where
    by : (b : Bool) → (if b then Ok chosen else Err NotAllowed) ≡ Err status → status ≡ NotAllowed
    by true f = cc (f)
    by false f = cc (f)

unchosen_alone : (choice : Choice) (model : Model) (status : Status) → IsUnchosen choice model status → status ≡ NotAllowed
unchosen_alone (Named word) model status e = named_alone (configuration_of (names_of model) word) status e
unchosen_alone (Many count) model status e = too_few_alone model count status e

large_alone : (path : List ℕ) (b : Bool) (status : Status) → (if b then Some (TooLarge path most_part_bytes) else None) ≡ Some status → status ≡ TooLarge path most_part_bytes
large_alone path true status e = cc (e)
large_alone path false status e = cc (e)

oversized_alone : (path text : List ℕ) (model : Model) (chosen : List Bool) (status : Status) → oversized path text model chosen ≡ Some status → status ≡ TooLarge path most_part_bytes
oversized_alone path text model chosen status e = large_alone path (is_oversized (parts_of (is_dimacs_path path) text model chosen)) status e

-- ---- the options

abbrev Chooses : FilesState → FilesState → (path text : List ℕ) → Choice → Model → Outcome → Type 0
Chooses old new path text choice model outcome =
    ((status : Status) × IsUnchosen choice model status × (outcome ≡ Err status))
    ⊎ ((chosen : List Bool) × IsChosen choice model chosen × MayGive old.held old.faults new.faults (cut_by path text model chosen) outcome)

choose_cases : (old new : FilesState) (path text : List ℕ) (choice : Choice) (model : Model) (outcome : Outcome) → MayGive old.held old.faults new.faults (choose choice model (cut_by path text model)) outcome → Chooses old new path text choice model outcome
choose_cases old new path text (Named word) model outcome g = attempt_cases old.held old.faults new.faults (named_options model word) (cut_by path text model) outcome g
choose_cases old new path text (Many count) model outcome g = by (unless_cases old.held old.faults new.faults (too_few model count) (Choose (is_choice model count) (cut_by path text model)) outcome g)
  where
    by : ((status : Status) × (too_few model count ≡ Some status) × (outcome ≡ Err status)) ⊎ ((too_few model count ≡ None) × MayGive old.held old.faults new.faults (Choose (is_choice model count) (cut_by path text model)) outcome)
        → Chooses old new path text (Many count) model outcome
    by (inl bad) = inl bad
    by (inr good) = inr (good.1.0, (good.0, good.1.1), good.1.2)

-- ---- the whole

-- a model is good, and these are the bytes of its file
record IsRead (held : Held) (path bytes : List ℕ) (model : Model) : Type 0 where
  modeled : IsGoodModel held path model
  own : bytes ≡ contents held path

-- whatever the plan gave is shown by the files
pub cut_shows : (old new : FilesState) (path : List ℕ) (choice : Choice) (report : Option (List ℕ)) (outcome : Outcome) → MayGive old.held old.faults new.faults (cut_plan path choice report) outcome → Shows old new (Cut path choice report) outcome
cut_shows old new path choice report outcome g = by_file (sized_shows old new most_bytes path path _ outcome g)
  where
    refused : (status : Status) → outcome ≡ Err status → CutCause old new path choice report status → Shows old new (Cut path choice report) outcome
    refused status e cause = rw e cause

    by_parts : (bytes : List ℕ) (model : Model) (chosen : List Bool) → IsChosen choice model chosen → IfSome old.held (λ held. IsRead held path bytes model) → IfSome old.held (λ held. IsLikeIn held report model)
        → ((status : Status) × (oversized path bytes model chosen ≡ Some status) × (outcome ≡ Err status)) ⊎ ((oversized path bytes model chosen ≡ None) × MayGive old.held old.faults new.faults (Write (Parts (is_dimacs_path path) bytes model chosen)) outcome)
        → Shows old new (Cut path choice report) outcome
    by_parts bytes model chosen is told like (inl bad) =
        let large = oversized_alone path bytes model chosen bad.0 bad.1 in
        refused (TooLarge path most_part_bytes) (bad.2 ∙ ap Err large) (inr (inr (told_both old.held _ _ _ (λ held h k. record {
          model = model;
          modeled = h.modeled;
          like = k;
          large = record { chosen = chosen; is_chosen = is; large = ap (λ b. oversized path b model chosen) (sym h.own) ∙ bad.1 ∙ ap Some large };
        }) told like)))
    by_parts bytes model chosen is told like (inr good) =
        let made = good.1 in
        rw made.2 (inl (
          refl,
          told_both old.held _ _ _ (λ held h k. record {
            model = model;
            modeled = h.modeled;
            like = k;
            gives = subst (λ b. GivesParts path b choice model made.0) h.own (record { chosen = chosen; is_chosen = is; fits = good.0; shows = made.1 });
          }) told like,
        ))

    by_choice : (bytes : List ℕ) (model : Model) → IfSome old.held (λ held. IsRead held path bytes model) → IfSome old.held (λ held. IsLikeIn held report model) → Chooses old new path bytes choice model outcome → Shows old new (Cut path choice report) outcome
    by_choice bytes model told like (inl bad) =
        let is = unchosen_alone choice model bad.0 bad.1 in
        refused NotAllowed (bad.2 ∙ ap Err is) (told_both old.held _ _ _ (λ held h k. record { model = model; modeled = h.modeled; like = k; unchosen = subst (IsUnchosen choice model) is bad.1 }) told like)
    by_choice bytes model told like (inr good) =
        by_parts bytes model good.0 good.1 told like (unless_cases old.held old.faults new.faults (oversized path bytes model good.0) (Write (Parts (is_dimacs_path path) bytes model good.0)) outcome good.2)

    by_like : (q bytes : List ℕ) (model : Model) (r : Report) → report ≡ Some q → IfSome old.held (λ held. IsRead held path bytes model) → IfSome old.held (λ held. IsReportIn held q r)
        → ((status : Status) × (unlike_model r model ≡ Some status) × (outcome ≡ Err status)) ⊎ ((unlike_model r model ≡ None) × MayGive old.held old.faults new.faults (choose choice model (cut_by path bytes model)) outcome)
        → Shows old new (Cut path choice report) outcome
    by_like q bytes model r is told there (inl bad) =
        let unlike = unlike_alone r model bad.0 bad.1 in
        refused Unlike (bad.2 ∙ ap Err unlike) (q, is, told_both old.held _ _ _ (λ held h k. record { model = model; modeled = h.modeled; other = r; is_report = k; differ = bad.1 ∙ ap Some unlike }) told there)
    by_like q bytes model r is told there (inr good) =
        by_choice bytes model told (told_map old.held _ _ (λ held k. subst (λ o. IsLikeIn held o model) (sym is) (r, k, good.0)) there) (choose_cases old new path bytes choice model outcome good.1)

    by_report : (q bytes : List ℕ) (model : Model) → report ≡ Some q → IfSome old.held (λ held. IsRead held path bytes model)
        → ReportShows old new q (λ r. unless (unlike_model r model) (choose choice model (cut_by path bytes model))) outcome → Shows old new (Cut path choice report) outcome
    by_report q bytes model is told (inl fault) = refused (ReadFault q) fault.1 (inr (is, fault.0, told_map old.held _ _ (λ held h. (model, h.modeled)) told))
    by_report q bytes model is told (inr (inl large)) = refused (TooLarge q most_report_bytes) large.1 (inr (inl (is, refl, told_both old.held _ _ _ (λ held h k. ((model, h.modeled), k)) told large.0)))
    by_report q bytes model is told (inr (inr (inl bad))) = refused (BadReport bad.0) bad.2 (q, is, told_both old.held _ _ _ (λ held h k. ((model, h.modeled), k)) told bad.1)
    by_report q bytes model is told (inr (inr (inr read))) = by_like q bytes model read.0 is told read.1 (unless_cases old.held old.faults new.faults (unlike_model read.0 model) _ outcome read.2)

    by_option : (bytes : List ℕ) (model : Model) (o : Option (List ℕ)) → report ≡ o → IfSome old.held (λ held. IsRead held path bytes model) → MayGive old.held old.faults new.faults (read_like o model (choose choice model (cut_by path bytes model))) outcome
        → Shows old new (Cut path choice report) outcome
    by_option bytes model None is told h = by_choice bytes model told (told_map old.held _ _ (λ held k. subst (λ o. IsLikeIn held o model) (sym is) tt) told) (choose_cases old new path bytes choice model outcome h)
    by_option bytes model (Some q) is told h = by_report q bytes model is told (report_shows old new q (λ r. unless (unlike_model r model) (choose choice model (cut_by path bytes model))) outcome h)

    is_model : (bytes : List ℕ) (model : Model) (held : Held) → model_of path bytes ≡ Ok model → (length (contents held path) ≤ most_bytes) × (bytes ≡ contents held path) → IsModelOf held path model
    is_model bytes model held taken h = record { fits = h.0; reads = ap (model_of path) (sym h.1) ∙ taken }

    by_allowed : (bytes : List ℕ) (model : Model) → IsText old most_bytes path bytes → model_of path bytes ≡ Ok model
        → (AllowsNone model × (outcome ≡ Err NoConfiguration)) ⊎ (AllowsSome model × MayGive old.held old.faults new.faults (cut_source path choice report bytes model) outcome) → Shows old new (Cut path choice report) outcome
    by_allowed bytes model told taken (inl none) = refused NoConfiguration none.1 (told_map old.held _ _ (λ held h. (model, is_model bytes model held taken h, none.0)) told)
    by_allowed bytes model told taken (inr some) =
        by_option bytes model report refl (told_map old.held _ _ (λ held h. record { modeled = record { spelled = is_model bytes model held taken h; allows = some.0 }; own = h.1 }) told) some.1

    by_refusal : (bytes : List ℕ) (status : Status) → IsText old most_bytes path bytes → model_of path bytes ≡ Err status → outcome ≡ Err status → (line : ℕ) × (reason : ℕ) × (status ≡ BadModel line reason) → Shows old new (Cut path choice report) outcome
    by_refusal bytes status told bad is e =
        refused (BadModel e.0 e.1) (is ∙ ap Err e.2) (told_map old.held _ _ (λ held h. (h.0, ap (model_of path) (sym h.1) ∙ bad ∙ ap Err e.2)) told)

    by_test : (bytes : List ℕ) → IsText old most_bytes path bytes
        → ((status : Status) × (model_of path bytes ≡ Err status) × (outcome ≡ Err status)) ⊎ ((model : Model) × (model_of path bytes ≡ Ok model) × MayGive old.held old.faults new.faults (If_allowed model (cut_source path choice report bytes model)) outcome) → Shows old new (Cut path choice report) outcome
    by_test bytes told (inl bad) = by_refusal bytes bad.0 told bad.1 bad.2 (model_refused path bytes bad.0 bad.1)
    by_test bytes told (inr good) = by_allowed bytes good.0 told good.1 good.2

    by_file : SizedShows old new most_bytes path path (λ t. attempt (model_of path t) (λ m. If_allowed m (cut_source path choice report t m))) outcome → Shows old new (Cut path choice report) outcome
    by_file (inl (inl fault)) = refused (ReadFault path) fault.1 (inl (refl, fault.0))
    by_file (inl (inr large)) = refused (TooLarge path most_bytes) large.1 (inl (refl, refl, large.0))
    by_file (inr read) = by_test read.0 read.1 (attempt_cases old.held old.faults new.faults (model_of path read.0) _ outcome read.3)

-- a cut of a good model, where nothing fails, is done
pub cut_completes : (old new : FilesState) (out out' : SinkState) (path : List ℕ) (choice : Choice) (report : Option (List ℕ)) (held : Held) (status : Status) → old.held ≡ Some held → IsGood held (Cut path choice report) → NothingFails held old new out out' (Cut path choice report)
    → IsShown old new out out' (Cut path choice report) status → (status ≡ Done) ⊎ (status ≡ NoMemory)
cut_completes old new out out' path choice report held status told good fails shown = by_status status shown
  where
    here : (P : Held → Type 0) → IfSome old.held P → P held
    here P h = rw told at h

    same_model : (m : Model) → IsGoodModel held path m → m ≡ good.0
    same_model m h = same_value m good.0 _ h.spelled.reads good.1.spelled.reads

    no_rose : (q : List ℕ) → report ≡ Some q → new.faults (Reading q) ≤ old.faults (Reading q)
    no_rose q is = subst (NoFileRose old new) is fails.1

    like_at : (q : List ℕ) → report ≡ Some q → (r : Report) × IsReportIn held q r × (unlike_model r good.0 ≡ None)
    like_at q is = subst (λ o. IsLikeIn held o good.0) is good.2

    faulted : (p : List ℕ) → CutCause old new path choice report (ReadFault p) → ⊥
    faulted p (inl m) = omega (arith, m.1, fails.0)
    faulted p (inr r) = omega (arith, r.1, no_rose p r.0)

    none_and_some : (o : Option Status) (s : Status) → o ≡ None → o ≡ Some s → ⊥
    none_and_some o s e f = let clash : None ≡ Some s = sym e ∙ f in cc (clash)

    large_part : (s : Status) → HasLargePart held path choice report s → ⊥
    large_part s h =
        let m = same_model h.model h.modeled in
        let is = subst (λ k. IsChosen choice k h.large.chosen) m h.large.is_chosen in
        none_and_some (oversized path (contents held path) good.0 h.large.chosen) s (good.4 h.large.chosen is) (ap (λ k. oversized path (contents held path) k h.large.chosen) (sym m) ∙ h.large.large)

    too_large : (p : List ℕ) (room : ℕ) → CutCause old new path choice report (TooLarge p room) → ⊥
    too_large p room (inl m) = let k = here (λ held. most_bytes < length (contents held path)) m.2 in omega (arith, k, good.1.spelled.fits)
    too_large p room (inr (inl r)) = let k = here (λ held. HasGoodModel held path × (most_report_bytes < length (contents held p))) r.2 in omega (arith, k.1, (like_at p r.0).1.fits)
    too_large p room (inr (inr l)) = large_part (TooLarge p room) (here (λ held. HasLargePart held path choice report (TooLarge p room)) l)

    no_configuration : (m : Model) × IsModelOf held path m × AllowsNone m → ⊥
    no_configuration h =
        let m : h.0 ≡ good.0 = same_value h.0 good.0 _ h.1.reads good.1.spelled.reads in
        let none : is_allowed good.0 good.1.allows.0 ≡ false = (rw m at h.2) good.1.allows.0 in
        let clash : true ≡ false = sym good.1.allows.1 ∙ none in
        cc (clash)

    bad_report : (line : ℕ) → CutCause old new path choice report (BadReport line) → ⊥
    bad_report line h =
        let k = here (λ held. HasGoodModel held path × IsBadAt held h.0 line) h.2 in
        let r = like_at h.0 h.1 in
        not_bad held h.0 line r.0 r.1 k.1

    unlike_there : CutCause old new path choice report Unlike → ⊥
    unlike_there h =
        let k = here (λ held. IsUnlikeModel held path h.0) h.2 in
        let r = like_at h.0 h.1 in
        let m = same_model k.model k.modeled in
        let other : k.other ≡ r.0 = report_same (contents held h.0) k.other r.0 k.is_report.spells r.1.spells in
        none_and_some (unlike_model r.0 good.0) Unlike r.2 ((λ i. unlike_model (sym other i) (sym m i)) ∙ k.differ)

    no_choice : HasNoChoice held path choice report NotAllowed → ⊥
    no_choice h = good.3 NotAllowed (subst (λ k. IsUnchosen choice k NotAllowed) (same_model h.model h.modeled) h.unchosen)

    by_status : (s : Status) → IsShown old new out out' (Cut path choice report) s → (s ≡ Done) ⊎ (s ≡ NoMemory)
    by_status Done h = inl refl
    by_status NoMemory h = inr refl
    by_status WriteFault h = absurd (fails.2 h.0)
    by_status (ReadFault p) h = absurd (faulted p h.0)
    by_status (TooLarge p room) h = absurd (too_large p room h.0)
    by_status (BadModel line reason) h =
        let k = here (λ held. (length (contents held path) ≤ most_bytes) × (model_of path (contents held path) ≡ Err (BadModel line reason))) h.0 in
        absurd (ok_and_err good.0 (BadModel line reason) _ good.1.spelled.reads k.1)
    by_status NoConfiguration h = absurd (no_configuration (here (λ held. (m : Model) × IsModelOf held path m × AllowsNone m) h.0))
    by_status (BadReport line) h = absurd (bad_report line h.0)
    by_status Unlike h = absurd (unlike_there h.0)
    by_status NotAllowed h = absurd (no_choice (here (λ held. HasNoChoice held path choice report NotAllowed) h.0))
    by_status s h = absurd h.0

-- ---- one text

-- options that are named give one text
pub one_parted : (held : Held) (path : List ℕ) (choice : Choice) (report : Option (List ℕ)) (one other : List ℕ) → IsNamed choice → IsParted held path choice report one → IsParted held path choice report other → one ≡ other
one_parted held path (Many count) report one other named h k = absurd named
one_parted held path (Named word) report one other named h k =
    let m : h.model ≡ k.model = same_value h.model k.model _ h.modeled.spelled.reads k.modeled.spelled.reads in
    let also = subst (λ x. GivesParts path (contents held path) (Named word) x other) (sym m) k.gives in
    let chosen : h.gives.chosen ≡ also.chosen = same_value h.gives.chosen also.chosen (named_options h.model word) h.gives.is_chosen also.is_chosen in
    h.gives.shows.spelled ∙ ap (λ c. joined (parts_of (is_dimacs_path path) (contents held path) h.model c)) chosen ∙ sym also.shows.spelled
