-- What a group needs for its attempt in a round.
use Rattle.std.specs.Prelude.{ℕ}
use Rattle.vx_space.specs.Sets.{Sets}
use Rattle.vx_cond.specs.Cond.{Conditional}
use Rattle.vx_group.specs.Group.{GroupView, path_of}
use Rattle.vx_heap.specs.Heap.{HeapView}
use Rattle.vx_link.specs.declared.program.Program.{Program}
use Rattle.vx_placing.specs.Placing.{IsUnderway, IsUnwritten, IsVacant}
use Rattle.vx_placing.specs.declared.round.Round.{Round}
use Rattle.vx_standing.specs.Attempted.{MayAttempt}
use Rattle.vx_turns.specs.Turns.{IsCount}

-- a group may make its attempt in a round that is underway: it may attempt, these are its numbers of attempts, and where its runs are nothing waits and
-- nothing was written in the round
pub record MayMake {S I : Type 0} (p : Program) (sets : Sets I) (heap : HeapView S I) (limit : ℕ) (round : Round S I) (group : GroupView S I) (attempts : Conditional ℕ S I) : Type 0 where
  pub given : MayAttempt p sets heap round.callers group
  pub underway : IsUnderway p sets heap limit round
  pub counted : IsCount sets group limit attempts
  pub vacant : IsVacant sets round (sets.test (path_of group))
  pub unwritten : IsUnwritten sets round (sets.test (path_of group))
