-- Reports of runs, and that their join is one.
use Rattle.std.specs.Prelude.{◌≡◌, ℕ, Bool, true, false, List, ◌∷◌, length, Some}
use Rattle.std.specs.List.{AllZip, list_any}
use Rattle.vx_java.specs.Report.{projection_of}
use Rattle.vx_java.specs.Step.{Config, run}
use Rattle.vx_link.specs.declared.program.Program.{Program}
use Rattle.vx_report.specs.Projection.{project}
use Rattle.vx_report.specs.Text.{report_text}
use Rattle.vx_report.specs.declared.report.Report.{Report}
use Rattle.vx_reporting.specs.Reported.{IsHeldNowhere, IsReported}
use Rattle.vx_join.specs.Joined.{IsJoined}

-- A report of a program's runs: it has this version, these options and this limit. At each allowed configuration it says the run there, and nothing in it holds another one. This is what `IsReported` says, but for lockstep and its rounds.
pub record AreRuns (version : ℕ) (options : List (List ℕ)) (limit : ℕ) (is_allowed : Config → Bool) (program : Program) (report : Report) : Type 0 where
  pub version_is : report.version ≡ version
  pub options_are : report.options ≡ options
  pub limit_is : report.limit ≡ limit
  pub runs : (c : Config) → length c ≡ length options → is_allowed c ≡ true → project report c ≡ Some (projection_of version (run program c limit))
  pub others : (c : Config) → length c ≡ length options → is_allowed c ≡ false → IsHeldNowhere report c

-- the report that `run` writes is one of runs
abbrev pub ReportedAreRuns : Type 0
ReportedAreRuns =
    (version : ℕ) (options : List (List ℕ)) (limit : ℕ) (is_allowed : Config → Bool) (program : Program) (text : List ℕ)
    → (reported : IsReported version options limit is_allowed program text) → AreRuns version options limit is_allowed program reported.report

-- a configuration is allowed by one of these
abbrev pub is_allowed_by : List (Config → Bool) → Config → Bool
is_allowed_by allowed c = list_any (λ is_allowed. is_allowed c) allowed

-- reports of one program's runs, each over what it allows, join to one over what any of them allows
abbrev pub JoinsAreRuns : Type 0
JoinsAreRuns =
    (version : ℕ) (options : List (List ℕ)) (limit : ℕ) (program : Program) (first : Report) (others : List Report) (allowed : List (Config → Bool)) (report : Report)
    → AllZip (λ r is_allowed. AreRuns version options limit is_allowed program r) (first ∷ others) allowed
    → IsJoined (first ∷ others) report → AreRuns version options limit (is_allowed_by allowed) program report
