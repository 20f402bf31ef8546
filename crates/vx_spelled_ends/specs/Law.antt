-- What every run keeps.
use Rattle.std.specs.Prelude.{◌≡◌, ◌≤◌, All, ℕ, List, Ok, true}
use Rattle.vx_class.specs.File.{Holds}
use Rattle.vx_class.specs.declared.class_file.ClassFile.{ClassFile}
use Rattle.vx_java.specs.Report.{lock_report}
use Rattle.vx_java.specs.Step.{Config, Live, Progress, RunResult, run, start, steps}
use Rattle.vx_jump_targets.specs.Placed.{are_well_placed}
use Rattle.vx_link.specs.Linked.{linked_program}
use Rattle.vx_link.specs.declared.program.Program.{Program}
use Rattle.vx_model.specs.declared.model.OptionField.{OptionField}
use Rattle.vx_named_classes.specs.Named.{IsNamed}
use Rattle.vx_spelled_ends.specs.Positions.{all_stand}
use Rattle.vx_spelled_ends.specs.Spelled.{IsSpelledReport, is_spelled}

-- the classes have names, the instructions name classes by texts, and the jumps and handlers lead to instructions
pub record IsSound (p : Program) : Type 0 where
  pub named : IsNamed p
  pub placed : are_well_placed p ≡ true

abbrev pub LinkedAreSound : Type 0
LinkedAreSound =
    (classes : List ClassFile) (options : List OptionField) (main : List ℕ) (p : Program)
    → All Holds classes → linked_program classes options main ≡ Ok p → IsSound p

-- the frames of a run that goes on stand well after any number of attempts
abbrev pub FramesStand : Type 0
FramesStand = (p : Program) (config : Config) (n : ℕ) (g : Progress) → IsSound p → steps p n (start p config) ≡ Live g → all_stand p g.state ≡ true

-- a run's end can be spelled, and it used at most so many attempts
pub record IsSpelledRun (limit : ℕ) (result : RunResult) : Type 0 where
  pub end : is_spelled result.end ≡ true
  pub attempts : result.attempts ≤ limit

abbrev pub EndsAreSpelled : Type 0
EndsAreSpelled = (p : Program) (config : Config) (limit : ℕ) → IsSound p → IsSpelledRun limit (run p config limit)

abbrev pub ReportsAreSpelled : Type 0
ReportsAreSpelled = (p : Program) (configs : List Config) (limit version : ℕ) → IsSound p → IsSpelledReport limit (lock_report p configs limit version)
