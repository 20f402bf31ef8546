-- The upkeep between rounds: callers that no group has are dropped, and sets that no id of the state names are forgotten (own).
use Rattle.std.specs.Prelude.{◌≡◌, ◌/◌, ◌&&◌, ℕ, Bool, List, nat_le, nat_lt}
use Rattle.std.specs.List.{flat_map}
use Rattle.vx_space.specs.Sets.{AreKept, Sets}
use Rattle.vx_group.specs.Group.{group_ids}
use Rattle.vx_group.specs.Sweep.{IsSwept}
use Rattle.vx_link.specs.declared.program.Program.{Program}
use Rattle.vx_standing.specs.State.{IsState, StateView, shared_ids, standing_at}

-- so much is new that a walk over all that there is costs little beside what made that: more than the last walk left, and an eighth of the most that there was
abbrev pub is_much : (fresh left most : ℕ) → Bool
is_much fresh left most = nat_lt left fresh && nat_le (most / 8) fresh

-- callers that no group has were dropped
pub record IsSweptState {S I : Type 0} (before after : StateView S I) : Type 0 where
  pub swept : IsSwept before.tree after.tree before.groups
  pub rest : after ≡ record before { tree = after.tree }

-- nothing changed that rounds can tell: a state is one still, its groups and texts have the configurations that they had, and the same stands in it
pub record IsTended {S I : Type 0} (old new : Sets I) (before after : StateView S I) : Type 0 where
  pub is_state : (p : Program) (allowed : I) → IsState p old allowed before → IsState p new allowed after
  pub options : new.options ≡ old.options
  pub rest : after ≡ record before { tree = after.tree }
  pub allowed : (c : List Bool) → new.test before.heap.allowed c ≡ old.test before.heap.allowed c
  pub groups : AreKept old new (flat_map group_ids before.groups)
  pub found : AreKept old new (shared_ids before.found)
  pub standing : (c : List Bool) → standing_at new after c ≡ standing_at old before c
