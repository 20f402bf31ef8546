-- Lines that tell how far runs have come.
use Rattle.std.specs.Prelude.{◌≡◌, ◌⊎◌, ◌≤◌, ◌+◌, ℕ, List, [], ◌∷◌, ◌++◌, codes, decimal}
use Rattle.std.specs.List.{flat_map}
use Rattle.vx_io.specs.Rose.{Rose}
use Rattle.vx_io.specs.Sink.{Gains, SinkState}
use Rattle.vx_watch.specs.declared.progress.Progress.{Progress}

-- the line of how far runs have come
abbrev pub progress_line : Progress → List ℕ
progress_line p =
    codes "rounds " ++ decimal p.rounds ++ codes " groups " ++ decimal p.groups ++ codes " ended " ++ decimal p.ended ++ codes " of " ++ decimal p.of
    ++ codes " attempts " ++ decimal p.attempts ++ codes " nodes " ++ decimal p.sets ++ codes "\n"

-- a write was refused
abbrev pub HasRefused : SinkState → SinkState → Type 0
HasRefused old new = Rose old.faults new.faults ⊎ Rose old.shortages new.shortages

-- these bytes were written, or a write was refused
pub record HasHeard (old new : SinkState) (bytes : List ℕ) : Type 0 where
  pub heard : Gains old new bytes ⊎ HasRefused old new
  pub faults : old.faults ≤ new.faults
  pub shortages : old.shortages ≤ new.shortages

-- these tell of states after so many rounds, after as many more, and so on
abbrev pub AreAfter : (rounds more : ℕ) → List Progress → Type 0
AreAfter rounds more [] = Unit {0}
AreAfter rounds more (p ∷ list) = (p.rounds ≡ rounds) × AreAfter (rounds + more) more list

-- lines were written that tell of states after each 100,000 rounds, or a write was refused
pub record HasWatched (old new : SinkState) : Type 0 where
  pub list : List Progress
  pub after : AreAfter 100000 100000 list
  pub lines : HasHeard old new (flat_map progress_line list)
