-- What the runs of the workload come to.
use Rattle.std.proofs.Common.{◌≡◌, ◌≤◌, ◌⊎◌, ℕ, Bool, true, false, List, [], Ok, arith, ap, codes, inl, inr, length, refl, subst, sym, ◌∙◌}
use Rattle.std.specs.Prelude.{All}
use Rattle.vx_class.specs.File.{Holds}
use Rattle.vx_class.specs.declared.class_file.ClassFile.{ClassFile}
use Rattle.vx_gen.specs.Workload.{names_of as first_names, work_files, work_model}
use Rattle.vx_java.specs.Step.{Config}
use Rattle.vx_link.specs.declared.program.Program.{Program}
use Rattle.vx_lockstep.specs.Findings.{AreFindings, FindingsView}
use Rattle.vx_model.specs.Models.{IsModel, HasOptionNames, is_allowed}
use Rattle.vx_model.specs.declared.model.Model.{Model}
use Rattle.vx_program_bounds.specs.Law.{LinkedAreBounded}
use Rattle.vx_report.specs.Text.{report_text}
use Rattle.vx_report.specs.declared.report.Report.{Report}
use Rattle.vx_reporting.specs.Reported.{IsReportable}
use Rattle.vx_reporting.specs.Reported as reporting
use Rattle.vx_space.specs.Sets.{Sets}
use Rattle.vx_spelled_ends.specs.Law.{LinkedAreSound, ReportsAreSpelled}
use Rattle.vx_starting.specs.Starting.{MayStart}
use Rattle.vx_summary.specs.Summary.{summary_text}
use Rattle.vx_work_laws.specs.Law.{WorkIsLawful}
use Rattle.vx_plans.specs.Job.{IsModeled, IsNoProgram, names_of, or_bad_link, program_in}
use Rattle.vx_plans.specs.Load.{IsSummaryOf, load_limit, load_model, load_program}
use Rattle.vx_plans.specs.Plan.{AllowsNone}
use Rattle.vx_plans.specs.declared.status.Status.{Status}
use Rattle.vx_plans.specs.declared.status.Status.TheVariants.{NoConfiguration, NoMemory}
use Rattle.vx_run_commands.proofs.Ran.{SayLockstep, allowed_is, lockstep_there, may_start, reportable_run}

-- its class files and its model
pub record IsWork (seed options : ℕ) (classes : List ClassFile) (model : Model) : Type 0 where
  pub files : classes ≡ work_files seed (first_names options)
  pub model_is : model ≡ work_model (first_names options)

pub is_work : (seed options : ℕ) (classes : List ClassFile) (model : Model) → classes ≡ work_files seed (first_names options) → model ≡ work_model (first_names options) → IsWork seed options classes model
is_work seed options classes model files model_is = record { files = files; model_is = model_is }

pub few_files : (seed options : ℕ) (classes : List ClassFile) (model : Model) → IsWork seed options classes model → length classes ≤ 1024
few_files seed options classes model w =
    let size : length (work_files seed (first_names options)) ≡ 4 = refl in
    let same = ap length w.files ∙ size in
    omega (arith, same)

pub read_files : (seed options : ℕ) (classes : List ClassFile) (model : Model) → WorkIsLawful → IsWork seed options classes model → All Holds classes
read_files seed options classes model law w = rw w.files (law seed options).holds

pub lawful_model : (seed options : ℕ) (classes : List ClassFile) (model : Model) → WorkIsLawful → IsWork seed options classes model → IsModel model
lawful_model seed options classes model law w = rw w.model_is (law seed options).model

pub named_model : (seed options : ℕ) (classes : List ClassFile) (model : Model) → WorkIsLawful → IsWork seed options classes model → HasOptionNames model
named_model seed options classes model law w = rw w.model_is (law seed options).names

pub model_is_that : (seed options : ℕ) (classes : List ClassFile) (model : Model) → IsWork seed options classes model → model ≡ load_model options
unfolding load_model
model_is_that seed options classes model w = w.model_is

-- they link to its program
work_links : (seed options : ℕ) (classes : List ClassFile) (model : Model) → WorkIsLawful → IsWork seed options classes model → program_in (codes "Main") model classes ≡ Ok (load_program seed options)
unfolding program_in load_program
work_links seed options classes model law w = rw (w.files, w.model_is) (ap or_bad_link (law seed options).links)

pub program_is : (seed options : ℕ) (classes : List ClassFile) (model : Model) (p : Program) → WorkIsLawful → IsWork seed options classes model → program_in (codes "Main") model classes ≡ Ok p → p ≡ load_program seed options
program_is seed options classes model p law w found =
    let links = work_links seed options classes model law w in
    cc

-- so that linking is refused for want of memory alone
pub link_refused : (seed options : ℕ) (classes : List ClassFile) (model : Model) (status : Status) → WorkIsLawful → IsWork seed options classes model
    → IsNoProgram (codes "Main") model classes status → status ≡ NoMemory
link_refused seed options classes model status law w (inl e) = e
link_refused seed options classes model status law w (inr bad) =
    let links = work_links seed options classes model law w in
    cc

-- its model allows a configuration, having no rules
allows_one : (options : ℕ) → AllowsNone (work_model (first_names options)) → ⊥
allows_one options none =
    let e : true ≡ false = none [] in
    cc

pub model_refused : (seed options : ℕ) (classes : List ClassFile) (model : Model) (status : Status) → IsWork seed options classes model
    → (status ≡ NoMemory) ⊎ ((status ≡ NoConfiguration) × AllowsNone model) → status ≡ NoMemory
model_refused seed options classes model status w (inl e) = e
model_refused seed options classes model status w (inr none) = absurd (allows_one options (subst AllowsNone w.model_is none.1))

-- the runs may start in the configurations that a model with the same options allows
pub work_may_start : {I : Type 0} (seed options : ℕ) (classes : List ClassFile) (model found : Model) (p : Program) {sets : Sets I} (allowed : I) → LinkedAreBounded → WorkIsLawful → IsWork seed options classes model → program_in (codes "Main") model classes ≡ Ok p
    → found ≡ model → IsModeled found sets allowed → MayStart p sets allowed load_limit
work_may_start seed options classes model found p {sets} allowed bounded law w links same m =
    may_start (codes "Main") model classes p allowed load_limit bounded (few_files seed options classes model w) (read_files seed options classes model law w) links
    (subst (λ f. IsModeled f sets allowed) same m) (omega arith) (omega arith)

pub work_reportable : {I : Type 0} (seed options : ℕ) (classes : List ClassFile) (model found : Model) (p : Program) {sets : Sets I} (allowed : I) → LinkedAreSound → ReportsAreSpelled → WorkIsLawful → IsWork seed options classes model → program_in (codes "Main") model classes ≡ Ok p
    → found ≡ model → IsModeled found sets allowed → IsReportable 1 (names_of found) load_limit (is_allowed found) p
work_reportable seed options classes model found p {sets} allowed sound spelled law w links same m =
    rw same (reportable_run (codes "Main") load_limit 1 model classes p allowed sound spelled (read_files seed options classes model law w) links
    (subst (λ f. IsModeled f sets allowed) same m) (omega arith) (omega arith) (inl refl))

-- the report of what was found in a set of configurations that is that of the model
pub found_is_report : {S I : Type 0} (limit version : ℕ) (model : Model) (p : Program) (names : List (List ℕ)) (report : Report) (sets : Sets I) (options : ℕ) (allowed : Config → Bool) (f : FindingsView S I)
    → names ≡ names_of model → ((c : Config) → allowed c ≡ is_allowed model c) → sets.options ≡ options
    → AreFindings p sets allowed limit f → SayLockstep p sets options allowed limit f
    → IsReportable version (names_of model) limit (is_allowed model) p
    → (IsReportable version names limit (is_allowed model) p → AreFindings p sets (is_allowed model) limit f → SayLockstep p sets sets.options (is_allowed model) limit f → reporting.IsReportOf version names limit (is_allowed model) p report)
    → reporting.IsReportOf version (names_of model) limit (is_allowed model) p report
found_is_report limit version model p names report sets options allowed f are_names same kept found lockstep reportable written =
    subst (λ ns. reporting.IsReportOf version ns limit (is_allowed model) p report) are_names
    (written (subst (λ ns. IsReportable version ns limit (is_allowed model) p) (sym are_names) reportable)
    (subst (λ g. AreFindings p sets g limit f) (allowed_is model allowed same) found)
    (lockstep_there limit model p sets options allowed f same kept lockstep))

-- the summary of a report
pub summed : (seed : ℕ) (model : Model) (program : Program) (report : Report) (text : List ℕ) → reporting.IsReportOf 1 (names_of model) load_limit (is_allowed model) program report → text ≡ summary_text seed report → IsSummaryOf seed model program text
summed seed model program report text h is = record { written = report_text report; reported = h.reported; spelled = is ∙ ap (summary_text seed) (sym h.same) }
