-- Rounds one behind the other.
use Rattle.std.specs.Prelude.{◌≡◌, ◌≤◌, ◌⊎◌, ℕ, ◌+◌, List, [], map, Some, slice_get}
use Rattle.vx_group.specs.Group.{GroupView, key_of}
use Rattle.vx_link.specs.declared.program.Program.{Program}
use Rattle.vx_sched.specs.Picks.{IsFirstKey}
use Rattle.vx_space.specs.Sets.{IsLawful, Sets}
use Rattle.vx_standing.specs.Rounds.{IsRound}
use Rattle.vx_standing.specs.State.{StateView}

-- a group made a round; where the picker takes first keys, no group was before it
pub record IsNext {S I : Type 0} (p : Program) (TakesFirst : Type 0) (old new : Sets I) (before after : StateView S I) : Type 0 where
  pub lawful : IsLawful old
  pub still_lawful : IsLawful new
  pub place : ℕ
  pub group : GroupView S I
  pub there : slice_get before.groups place ≡ Some group
  pub first : TakesFirst → IsFirstKey (map key_of before.groups) place
  pub round : IsRound p old new before.heap.allowed before after group

-- a state comes of another by so many rounds
pub data AreRounds {S I : Type 0} (p : Program) (TakesFirst : Type 0) (old : Sets I) (before : StateView S I) : ℕ → Sets I → StateView S I → Type 0 where
  none : AreRounds p TakesFirst old before 0 old before
  next : (n : ℕ) (between new : Sets I) (st after : StateView S I) → AreRounds p TakesFirst old before n between st → IsNext p TakesFirst between new st after → AreRounds p TakesFirst old before (n + 1) new after

-- a state comes of another by this most of rounds, or by fewer, and no group goes on
pub record HasGoneOn {S I : Type 0} (p : Program) (TakesFirst : Type 0) (most : ℕ) (old new : Sets I) (before after : StateView S I) : Type 0 where
  pub made : ℕ
  pub within : made ≤ most
  pub rounds : AreRounds p TakesFirst old before made new after
  pub all : (after.groups ≡ []) ⊎ (made ≡ most)
