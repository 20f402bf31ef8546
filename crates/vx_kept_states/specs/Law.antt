-- Programs that class files link to can be run, so their runs and their shared states keep the facts.
use Rattle.std.specs.Prelude.{All, List, Ok, ℕ, ◌≡◌}
use Rattle.vx_class.specs.File.{Holds}
use Rattle.vx_class.specs.declared.class_file.ClassFile.{ClassFile}
use Rattle.vx_kept_facts.specs.Law.{IsRunnable, KeepsFacts}
use Rattle.vx_kept_states.specs.ByRounds.{ComesByRounds, KeepsFrames, KeepsOutcomes}
use Rattle.vx_link.specs.Linked.{linked_program}
use Rattle.vx_link.specs.declared.program.Program.{Program}
use Rattle.vx_model.specs.declared.model.OptionField.{OptionField}
use Rattle.vx_space.specs.Sets.{Sets}
use Rattle.vx_standing.specs.State.{StateView}

-- the program of classes that a reading can give can be run
abbrev pub LinkedAreRunnable : Type 0
LinkedAreRunnable =
    (classes : List ClassFile) (options : List OptionField) (main : List ℕ) (p : Program)
    → All Holds classes → linked_program classes options main ≡ Ok p → IsRunnable p

-- its runs keep the facts
abbrev pub LinkedRunsKeepFacts : Type 0
LinkedRunsKeepFacts =
    (classes : List ClassFile) (options : List OptionField) (main : List ℕ) (p : Program)
    → All Holds classes → linked_program classes options main ≡ Ok p → KeepsFacts p

-- and every state of all runs side by side
abbrev pub StatesKeepFacts : (S I : Type 0) → Type 0
StatesKeepFacts S I =
    (p : Program) → IsRunnable p → (allowed : I) (limit : ℕ) (sets : Sets I) (st : StateView S I)
    → ComesByRounds p allowed limit sets st → KeepsFrames p sets st × KeepsOutcomes p sets st
