-- What a command asks for is one text.
use Rattle.std.proofs.Common.{◌≡◌, ℕ, List, IfSome, Ok, Result, Some, ap, sym, subst, ◌∙◌}
use Rattle.vx_io.specs.Held.{FilesState, Held, contents}
use Rattle.vx_io.specs.Sink.{Gains, SinkState}
use Rattle.vx_class.specs.Class.{class_of}
use Rattle.vx_agree.proofs.Agreeing.{one_agreement_text}
use Rattle.vx_agree.specs.Text.{IsAgreementText}
use Rattle.vx_model.specs.Models as models
use Rattle.vx_model.specs.Models.{is_allowed}
use Rattle.vx_people.proofs.OneText.{one_told_text}
use Rattle.vx_people.specs.Tellings.{HasOneText, IsToldText}
use Rattle.vx_people.specs.declared.telling.Telling.{Telling}
use Rattle.vx_report_reader.proofs.Verdicts.{report_same}
use Rattle.vx_report_reader.specs.Rules.{ReportText}
use Rattle.vx_reporting.proofs.OneText.{one_text}
use Rattle.vx_reporting.specs.Reported.{IsReported}
use Rattle.vx_summary.specs.Summary.{summary_text}
use Rattle.vx_cli.specs.Causes.{AreClasses, AreGiven, HasOneResult, IsAgreeing, IsJoining, IsReport, IsResult, IsRetelling, IsSaidOf, IsShown, IsTold, IsVerification}
use Rattle.vx_cli.specs.Command.{Agree, Asm, Check, Command, Compare, Cut, Doctor, Join, Load, Output, Project, Retell, Run, Show, Tell, Verify}
use Rattle.vx_cli.specs.Ends.{Ends}
use Rattle.vx_plans.specs.Job.{names_of, program_in}
use Rattle.vx_plans.specs.Load.{IsSummary, load_limit, load_model, load_program}
use Rattle.vx_cli.specs.PlanOf.{plan_of}
use Rattle.vx_report.specs.declared.report.Report.{Report}
use Rattle.vx_report_commands.specs.Output.{printed}
use Rattle.vx_report_commands.specs.Project.{projected}
use Rattle.vx_run_commands.specs.Retell.{allowed_at, retold_text, traced_program}
use Rattle.vx_run_commands.specs.declared.words.Retelling.{Retelling}
use Rattle.vx_inputs.specs.Folder.{class_paths}
use Rattle.vx_inputs.specs.Traced.{traced_of}
use Rattle.vx_plans.specs.Verdicts.{IsVerdictText}
use Rattle.vx_plans.specs.declared.status.Status.{Status}
use Rattle.vx_plans.specs.declared.status.Status.TheVariants.{Done}
use Rattle.vx_cli.proofs.FolderShown.{same_given}
use Rattle.vx_run_commands.proofs.Judging.{one_verdict_text}
use Rattle.vx_cli.proofs.JoinShown.{reports_same}
use Rattle.vx_cli.proofs.CutShown.{one_parted}
use Rattle.vx_cli.proofs.OneListing.{one_listing}
use Rattle.vx_join.proofs.OneText.{one_joined_text}
use Rattle.vx_join.specs.Text.{IsJoinedText}
use Rattle.vx_cli.proofs.Shown.{call_shows}
use Rattle.vx_plans.proofs.Told.{same_value}

-- the same model, paths, classes and program, and so the same report
one_report : (held : Held) (folder path main : List ℕ) (limit version : ℕ) (one other : List ℕ) → IsReport held folder path main limit version one → IsReport held folder path main limit version other → one ≡ other
one_report held folder path main limit version one other h k =
    let model : h.model ≡ k.model = same_value h.model k.model _ h.modeled.spelled.reads k.modeled.spelled.reads in
    let listing = one_listing held folder h.all.listed.listing k.all.listed.listing h.all.listed.listed k.all.listed.listed in
    let paths : h.paths ≡ k.paths = h.all.listed.classes ∙ ap class_paths listing ∙ sym k.all.listed.classes in
    let classes : h.classes ≡ k.classes = same_given class_of held folder h.paths h.classes k.classes h.all.good (subst (λ p. AreClasses held folder p k.classes) (sym paths) k.all.good) in
    let program : h.reported.program ≡ k.reported.program = same_value h.reported.program k.reported.program (program_in main h.model h.classes) h.reported.is_program
    (subst (λ c. program_in main h.model c ≡ Ok k.reported.program) (sym classes) (subst (λ m. program_in main m k.classes ≡ Ok k.reported.program) (sym model) k.reported.is_program)) in
    one_text version (names_of h.model) limit (is_allowed h.model) h.reported.program one other h.reported.is_report
    (subst (λ p. IsReported version (names_of h.model) limit (is_allowed h.model) p other) (sym program) (subst (λ m. IsReported version (names_of m) limit (is_allowed m) k.reported.program other) (sym model) k.reported.is_report))

-- and so the same verdict
one_verification : (held : Held) (folder path main : List ℕ) (one other : List ℕ) → IsVerification held folder path main one → IsVerification held folder path main other → one ≡ other
one_verification held folder path main one other h k =
    let model : h.model ≡ k.model = same_value h.model k.model _ h.modeled.reads k.modeled.reads in
    let listing = one_listing held folder h.all.listed.listing k.all.listed.listing h.all.listed.listed k.all.listed.listed in
    let paths : h.paths ≡ k.paths = h.all.listed.classes ∙ ap class_paths listing ∙ sym k.all.listed.classes in
    let classes : h.classes ≡ k.classes = same_given class_of held folder h.paths h.classes k.classes h.all.good (subst (λ p. AreClasses held folder p k.classes) (sym paths) k.all.good) in
    let program : h.judged.program ≡ k.judged.program = same_value h.judged.program k.judged.program (program_in main h.model h.classes) h.judged.is_program
    (subst (λ c. program_in main h.model c ≡ Ok k.judged.program) (sym classes) (subst (λ m. program_in main m k.classes ≡ Ok k.judged.program) (sym model) k.judged.is_program)) in
    one_verdict_text h.judged.program one other h.judged.is_text (subst (λ p. IsVerdictText p other) (sym program) k.judged.is_text)

-- and so the same is told of the run of one configuration
one_retelling : (held : Held) (retelling : Retelling) (folder path main : List ℕ) (limit : ℕ) (word one other : List ℕ) → IsRetelling held retelling folder path main limit word one → IsRetelling held retelling folder path main limit word other → one ≡ other
one_retelling held retelling folder path main limit word one other h k =
    let model : h.model ≡ k.model = same_value h.model k.model _ h.modeled.reads k.modeled.reads in
    let configuration : h.configuration ≡ k.configuration = same_value h.configuration k.configuration (allowed_at h.model word) h.allowed (subst (λ m. allowed_at m word ≡ Ok k.configuration) (sym model) k.allowed) in
    let listing = one_listing held folder h.all.listed.listing k.all.listed.listing h.all.listed.listed k.all.listed.listed in
    let paths : h.paths ≡ k.paths = h.all.listed.classes ∙ ap class_paths listing ∙ sym k.all.listed.classes in
    let traced : h.traced ≡ k.traced = same_given traced_of held folder h.paths h.traced k.traced h.all.good (subst (λ p. AreGiven traced_of held folder p k.traced) (sym paths) k.all.good) in
    let program : h.retold.program ≡ k.retold.program = same_value h.retold.program k.retold.program (traced_program main h.model h.traced) h.retold.is_program
    (subst (λ t. traced_program main h.model t ≡ Ok k.retold.program) (sym traced) (subst (λ m. traced_program main m k.traced ≡ Ok k.retold.program) (sym model) k.retold.is_program)) in
    let texts : retold_text retelling limit h.configuration h.traced h.retold.program ≡ retold_text retelling limit k.configuration k.traced k.retold.program = λ i. retold_text retelling limit (configuration i) (traced i) (program i) in
    h.retold.is_text ∙ texts ∙ sym k.retold.is_text

one_said : (said : Report → Result (List ℕ) Status) (held : Held) (path one other : List ℕ) → IsSaidOf said held path one → IsSaidOf said held path other → one ≡ other
one_said said held path one other h k =
    let report : h.report ≡ k.report = report_same (contents held path) h.report k.report h.is_report.spells k.is_report.spells in
    same_value one other (said h.report) h.is_text (subst (λ r. said r ≡ Ok other) (sym report) k.is_text)

one_telling : (held : Held) (telling : Telling) (path one other : List ℕ) → HasOneText telling → IsTold held telling path one → IsTold held telling path other → one ≡ other
one_telling held telling path one other p h k =
    let report : h.report ≡ k.report = report_same (contents held path) h.report k.report h.is_report.spells k.is_report.spells in
    one_told_text telling h.report one other p h.is_text (subst (λ r. IsToldText telling r other) (sym report) k.is_text)

one_agreeing : (held : Held) (path against one other : List ℕ) → IsAgreeing held path against one → IsAgreeing held path against other → one ≡ other
one_agreeing held path against one other h k =
    let report : h.report ≡ k.report = report_same (contents held path) h.report k.report h.is_report.spells k.is_report.spells in
    let reference : h.against ≡ k.against = report_same (contents held against) h.against k.against h.is_other.spells k.is_other.spells in
    one_agreement_text h.report h.against one other h.is_text (subst (λ r. IsAgreementText r h.against other) (sym report) (subst (λ r. IsAgreementText k.report r other) (sym reference) k.is_text))

one_joining : (held : Held) (paths : List (List ℕ)) (one other : List ℕ) → IsJoining held paths one → IsJoining held paths other → one ≡ other
one_joining held paths one other h k =
    let reports : h.reports ≡ k.reports = reports_same held paths h.reports k.reports h.are k.are in
    one_joined_text h.reports one other h.is_text (subst (λ rs. IsJoinedText rs other) (sym reports) k.is_text)

-- one report, and so one summary
one_summary : (seed options : ℕ) (one other : List ℕ) → IsSummary seed options one → IsSummary seed options other → one ≡ other
one_summary seed options one other h k =
    let written : h.written ≡ k.written =
    one_text 1 (models.names_of (load_model options)) load_limit (is_allowed (load_model options)) (load_program seed options) h.written k.written h.reported k.reported in
    let report : h.reported.report ≡ k.reported.report =
    report_same h.written h.reported.report k.reported.report h.reported.spells (subst (λ w. ReportText w k.reported.report) (sym written) k.reported.spells) in
    h.spelled ∙ ap (summary_text seed) report ∙ sym k.spelled

one_result : (held : Held) (command : Command) (one other : List ℕ) → HasOneResult command → IsResult held command one → IsResult held command other → one ≡ other
one_result held (Run watched folder path main limit version) one other p h k = one_report held folder path main limit version one other h k
one_result held (Project path word) one other p h k = one_said (λ r. projected r word) held path one other h k
one_result held (Output path word stream) one other p h k = one_said (λ r. printed r stream word) held path one other h k
one_result held (Tell telling path) one other p h k = one_telling held telling path one other p h k
one_result held (Agree path against) one other p h k = one_agreeing held path against one other h k
one_result held (Join paths) one other p h k = one_joining held paths one other h k
one_result held (Asm path) one other p h k = same_value one other _ h.is_text k.is_text
one_result held (Load seed options) one other p h k = one_summary seed options one other h k
one_result held (Verify folder path main) one other p h k = one_verification held folder path main one other h k
one_result held (Retell retelling folder path main limit word) one other p h k = one_retelling held retelling folder path main limit word one other h k
one_result held (Cut model choice report) one other p h k = one_parted held model choice report one other p h k
one_result held (Check report file) one other p h k = absurd p
one_result held (Compare report against) one other p h k = absurd p
one_result held (Doctor folder path main) one other p h k = absurd p
one_result held (Show page) one other p h k = h ∙ sym k

-- a call that is done has written each text that its command asks for, of which there is one
pub done_only : (old new : FilesState) (out out' : SinkState) (command : Command) (status : Status) → Ends old new out out' (plan_of command) status → (held : Held) (text : List ℕ) → HasOneResult command → old.held ≡ Some held → status ≡ Done
    → IsResult held command text → Gains out out' text
done_only old new out out' command status ends held text one told done result =
    by_text (there (λ files. (t : List ℕ) × IsResult files command t × Gains out out' t) (subst (λ s. IsShown old new out out' command s) done (call_shows old new out out' command status ends)))
  where
    there : (P : Held → Type 0) → IfSome old.held P → P held
    there P h = rw told at h

    by_text : (t : List ℕ) × IsResult held command t × Gains out out' t → Gains out out' text
    by_text h = subst (Gains out out') (one_result held command h.0 text one h.1 result) h.2
