-- What `run` wrote is read by `project`, and what was cut off is not.
use Rattle.std.proofs.Common.{◌≡◌, Bool, true, false, List, ℕ, Some, None, Ok, ap, cond, length, map, subst, sym, ◌∙◌}
use Rattle.std.proofs.lemmas.List.{length-map}
use Rattle.std.proofs.lemmas.Option.{same_Some}
use Rattle.std.specs.List.{list_all}
use Rattle.std.specs.Prelude.{IfSome, option_map, ◌&&◌}
use Rattle.vx_io.specs.Held.{FilesState, Held, contents}
use Rattle.vx_io.specs.Sink.{Gains, SinkState}
use Rattle.vx_java.specs.Report.{projection_of}
use Rattle.vx_java.specs.Step.{run}
use Rattle.vx_report.specs.Projection.{project, projection_text}
use Rattle.vx_report.specs.declared.report.Report.{Report}
use Rattle.vx_report_reader.proofs.Verdicts.{no_front, report_same}
use Rattle.vx_report_reader.specs.Reading.{IsCutOff}
use Rattle.vx_cli.specs.Again.{Asked, IsReportFile, asked_text}
use Rattle.vx_cli.specs.Causes.{IsGood, IsProjection, IsResult, IsShown}
use Rattle.vx_cli.specs.Command.{Project}
use Rattle.vx_configuration.specs.Configuration.{are_distinct, configuration_of, is_among, names_in}
use Rattle.vx_cli.specs.Ends.{Ends}
use Rattle.vx_plans.specs.Job.{names_of}
use Rattle.vx_cli.specs.PlanOf.{plan_of}
use Rattle.vx_report_commands.specs.Project.{or_not_allowed, projected, text_at}
use Rattle.vx_plans.specs.declared.status.Status.{Status}
use Rattle.vx_plans.specs.declared.status.Status.TheVariants.{Done}
use Rattle.vx_cli.proofs.OneResult.{done_only}
use Rattle.vx_cli.proofs.Shown.{call_shows}

-- a configuration that a word names has a value for each option
configuration_length : (options : List (List ℕ)) (word : List ℕ) (c : List Bool) → configuration_of options word ≡ Some c → length c ≡ length options
configuration_length options word c e = by_test (list_all (is_among options) (names_in word) && are_distinct (names_in word)) e
  where
    by_test : (b : Bool) → cond b (Some (map (is_among (names_in word)) options)) None ≡ Some c → length c ≡ length options
    by_test true f = ap length (sym (same_Some (map (is_among (names_in word)) options) c f)) ∙ length-map options (is_among (names_in word))
    by_test false f = absurd cc

-- what the report of a file says of the configuration
text_projected : (held : Held) (path word : List ℕ) (asked : Asked) (file : IsReportFile held path word asked) → projected file.reported.report word ≡ Ok (asked_text asked)
text_projected held path word asked file =
    let h = file.reported in
    let r = run asked.program asked.configuration asked.limit in
    let size = configuration_length (names_of asked.model) word asked.configuration file.named in
    let named : configuration_of h.report.options word ≡ Some asked.configuration = ap (λ options. configuration_of options word) h.options_are ∙ file.named in
    let said : project h.report asked.configuration ≡ Some (projection_of asked.version r) = h.runs asked.configuration size file.allowed in
    ap (λ c. or_not_allowed (text_at h.report c)) named ∙ ap (λ p. or_not_allowed (option_map projection_text p)) said

pub file_good : (held : Held) (path word : List ℕ) (asked : Asked) → IsReportFile held path word asked → IsGood held (Project path word)
file_good held path word asked file =
    let h = file.reported in
    let text = text_projected held path word asked file in (
      (h.report, record { fits = file.fits; spells = h.spells }),
      λ other is.
          (asked_text asked, subst (λ (r : Report). projected r word ≡ Ok (asked_text asked)) (report_same (contents held path) h.report other h.spells is.spells) text),
    )

pub file_projected : (old new : FilesState) (out out' : SinkState) (path word : List ℕ) (status : Status) → Ends old new out out' (plan_of (Project path word)) status → (held : Held) (asked : Asked) → old.held ≡ Some held
    → IsReportFile held path word asked → status ≡ Done → Gains out out' (asked_text asked)
file_projected old new out out' path word status ends held asked told file done =
    let h = file.reported in
    let result : IsProjection held path word (asked_text asked) = record {
      report = h.report;
      is_report = record { fits = file.fits; spells = h.spells };
      is_text = text_projected held path word asked file;
    } in
    done_only old new out out' (Project path word) status ends held (asked_text asked) tt told done result

-- a file that was cut off holds no report
pub cut_refused : (old new : FilesState) (out out' : SinkState) (path word : List ℕ) (status : Status) → Ends old new out out' (plan_of (Project path word)) status → (held : Held) → old.held ≡ Some held
    → IsCutOff (contents held path) → status ≡ Done → ⊥
cut_refused old new out out' path word status ends held told cut done =
    by_text (there (λ files. (t : List ℕ) × IsResult files (Project path word) t × Gains out out' t) (subst (λ s. IsShown old new out out' (Project path word) s) done (call_shows old new out out' (Project path word) status ends)))
  where
    there : (P : Held → Type 0) → IfSome old.held P → P held
    there P h = rw told at h

    by_text : (t : List ℕ) × IsResult held (Project path word) t × Gains out out' t → ⊥
    by_text h = no_front (contents held path) h.1.report cut h.1.is_report.spells
