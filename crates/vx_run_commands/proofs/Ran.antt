-- What a run of a linked program came to, in terms of its class files and its model.
use Rattle.std.proofs.Common.{◌≡◌, ◌<◌, ◌≤◌, ◌⊎◌, ℕ, Bool, true, List, [], MatchResult, Result, Ok, Err, Vec, Global, arith, refl, sym, subst, length, inl}
use Rattle.std.specs.Prelude.{All, false}
use Rattle.vx_class.specs.File.{Holds}
use Rattle.vx_class.specs.declared.class_file.ClassFile.{ClassFile}
use Rattle.vx_lockstep.specs.Findings.{AreAllowed, AreFindings, FindingsView, report_by}
use Rattle.vx_java.specs.Report.{lock_report}
use Rattle.vx_java.specs.Step.{Config}
use Rattle.vx_link.specs.declared.program.Program.{Program}
use Rattle.vx_program_bounds.specs.Law.{LinkedAreBounded}
use Rattle.vx_model.specs.Models.{is_allowed}
use Rattle.vx_model.specs.declared.model.Model.{Model}
use Rattle.vx_reporting.specs.Reported.{IsReportable, IsReported}
use Rattle.vx_spelled_ends.specs.Law.{LinkedAreSound, ReportsAreSpelled}
use Rattle.vx_standing.specs.State.{most_attempts}
use Rattle.vx_starting.specs.Starting.{MayStart}
use Rattle.vx_space.specs.Sets.{Sets}
use Rattle.vx_plans.specs.Job.{IsModeled, IsNoProgram, IsReportOf, IsTextOf, Report, names_of, program_in, slashed}
use Rattle.vx_plans.proofs.Linked.{linked_is}
use Rattle.vx_plans.specs.declared.status.Status.{Status}
use Rattle.vx_plans.specs.declared.status.Status.TheVariants.{NoMemory}
use Rattle.vx_io.specs.Sink.{SinkState}
use Rattle.vx_watch.proofs.Heard.{heard_none}
use Rattle.vx_run_commands.specs.Run.{HasTold}

-- its runs may start in the configurations that the model allows
pub may_start : {I : Type 0} (main : List ℕ) (model : Model) (classes : List ClassFile) (p : Program) {sets : Sets I} (allowed : I) (limit : ℕ) → LinkedAreBounded → length classes ≤ 1024 → All Holds classes → program_in main model classes ≡ Ok p
    → IsModeled model sets allowed → 0 < limit → limit ≤ most_attempts → MayStart p sets allowed limit
may_start main model classes p allowed limit law few read e m least most =
    let bounds = law classes model.options (slashed main) p few read (linked_is main model classes p e) in
    record { bounded = bounds.0; options = rw m.options bounds.1; known = m.is_set.known; some = m.some; least = least; most = most }

-- what comes of the program that class files link to comes of the class files
pub of_linked : (main : List ℕ) (limit version : ℕ) (model : Model) (classes : List ClassFile) (p : Program) (r : Result (Vec ℕ Global) Status) → program_in main model classes ≡ Ok p
    → MatchResult r (λ text. IsTextOf (Report version model limit p) text.items) (λ status. status ≡ NoMemory)
    → MatchResult r (λ text. IsReportOf main limit version model classes text.items) (IsNoProgram main model classes)
of_linked main limit version model classes p (Ok text) linked made = record { program = p; is_program = linked; is_report = made }
of_linked main limit version model classes p (Err status) linked made = inl made

-- the report of a program of these class files under a model can be spelled
pub reportable_run : {I : Type 0} (main : List ℕ) (limit version : ℕ) (model : Model) (classes : List ClassFile) (p : Program) {sets : Sets I} (allowed : I) → LinkedAreSound → ReportsAreSpelled → All Holds classes → program_in main model classes ≡ Ok p
    → IsModeled model sets allowed → 0 < limit → limit ≤ 1000000000 → (version ≡ 1) ⊎ (version ≡ 2) → IsReportable version (names_of model) limit (is_allowed model) p
reportable_run main limit version model classes p allowed sound spelled read linked m least most is_version = record {
  version_is = is_version;
  names = m.names;
  least = omega (arith, least);
  most = most;
  some = m.allows;
  spelled = λ list. spelled p list limit version (sound classes model.options (slashed main) p read (linked_is main model classes p linked));
}

-- a set of configurations that is that of the model
pub allowed_is : (model : Model) (allowed : Config → Bool) → ((c : Config) → allowed c ≡ is_allowed model c) → allowed ≡ is_allowed model
allowed_is model allowed same = λ i c. same c i

-- findings say what the report of lockstep does of each list of just the allowed configurations
abbrev pub SayLockstep : {S I : Type 0} → Program → Sets I → ℕ → (Config → Bool) → ℕ → FindingsView S I → Type 0
SayLockstep p sets options allowed limit f = (list : List Config) (version : ℕ) → AreAllowed options allowed list → lock_report p list limit version ≡ report_by sets list limit version f

-- also of a set of configurations that is that of a model
pub lockstep_there : {S I : Type 0} (limit : ℕ) (model : Model) (p : Program) (sets : Sets I) (options : ℕ) (allowed : Config → Bool) (f : FindingsView S I)
    → ((c : Config) → allowed c ≡ is_allowed model c) → sets.options ≡ options → SayLockstep p sets options allowed limit f → SayLockstep p sets sets.options (is_allowed model) limit f
lockstep_there limit model p sets options allowed f same kept lockstep list v are =
    lockstep list v (subst (λ g. AreAllowed options g list) (sym (allowed_is model allowed same)) (subst (λ n. AreAllowed n (is_allowed model) list) kept are))

-- the report of what was found in a set of configurations that is that of the model
pub reported_run : {S I : Type 0} (limit version : ℕ) (model : Model) (p : Program) (names : List (List ℕ)) (text : List ℕ) (sets : Sets I) (options : ℕ) (allowed : Config → Bool) (f : FindingsView S I)
    → names ≡ names_of model → ((c : Config) → allowed c ≡ is_allowed model c) → sets.options ≡ options
    → AreFindings p sets allowed limit f → SayLockstep p sets options allowed limit f
    → IsReportable version (names_of model) limit (is_allowed model) p
    → (IsReportable version names limit (is_allowed model) p → AreFindings p sets (is_allowed model) limit f → SayLockstep p sets sets.options (is_allowed model) limit f → IsReported version names limit (is_allowed model) p text)
    → IsTextOf (Report version model limit p) text
reported_run limit version model p names text sets options allowed f are_names same kept found lockstep reportable written = rw are_names at reported
  where
    of_names : IsReportable version names limit (is_allowed model) p
    of_names = subst (λ ns. IsReportable version ns limit (is_allowed model) p) (sym are_names) reportable

    reported : IsReported version names limit (is_allowed model) p text
    reported = written of_names (subst (λ g. AreFindings p sets g limit f) (allowed_is model allowed same) found) (lockstep_there limit model p sets options allowed f same kept lockstep)

-- where nothing was written, what is told of runs is told, whether they are watched or not
pub untold : (watched : Bool) (s : SinkState) → HasTold watched s s
untold true s = record { list = []; after = tt; lines = heard_none s }
untold false s = refl
