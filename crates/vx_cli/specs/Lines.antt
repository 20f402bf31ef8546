-- What stands on `err`.
use Rattle.std.specs.Prelude.{◌≡◌, Bool, true, false, List, ◌++◌, ℕ}
use Rattle.std.specs.List.{flat_map}
use Rattle.std.proofs.Common.{◌⊎◌}
use Rattle.vx_cli.specs.Command.{Command, HasNoReading, IsSpelled, Run}
use Rattle.vx_io.specs.Rose.{Rose}
use Rattle.vx_io.specs.Sink.{Gains, GainsPart, SinkState}
use Rattle.vx_plans.specs.Line.{line_of}
use Rattle.vx_plans.specs.declared.status.Status.{Status}
use Rattle.vx_run_commands.specs.Run.{HasTold}
use Rattle.vx_watch.specs.Telling.{AreAfter, HasRefused, progress_line}
use Rattle.vx_watch.specs.declared.progress.Progress.{Progress}

-- whether it is told while a command goes on how far its runs have come
abbrev pub is_watched : Command → Bool
is_watched (Run watched folder model main limit version) = watched
is_watched command = false

-- nothing is written for words that spell no command, and for those that spell one what is told while it goes on
abbrev pub IsHeard : List (List ℕ) → SinkState → SinkState → Type 0
IsHeard words old new =
    (HasNoReading words × (new ≡ old)) ⊎ ((command : Command) × IsSpelled words command × HasTold (is_watched command) old new)

-- the line of how a call ended, or a proper prefix of it where a write was refused
abbrev pub HasLastLine : SinkState → SinkState → Status → Type 0
HasLastLine old new status = Gains old new (line_of status) ⊎ (HasRefused old new × GainsPart old new (line_of status))

-- lines that tell of states after each 100,000 rounds, and behind them the line of how a call ended; or a write was refused
abbrev pub HasLines : SinkState → SinkState → Status → Type 0
HasLines old new status =
    ((list : List Progress) × AreAfter 100000 100000 list × Gains old new (flat_map progress_line list ++ line_of status)) ⊎ HasRefused old new

-- these words spell what is watched
abbrev pub AreWatched : List (List ℕ) → Type 0
AreWatched words = (command : Command) × IsSpelled words command × (is_watched command ≡ true)

-- what stands on `err`
pub record HasLine (words : List (List ℕ)) (old new : SinkState) (status : Status) : Type 0 where
  pub watched : AreWatched words → HasLines old new status
  pub unwatched : (AreWatched words → ⊥) → HasLastLine old new status
