-- The steps of a round.
use Rattle.std.specs.Prelude.{◌≡◌, ◌+◌, ◌≤◌, ◌++◌, ℕ, Bool, true, List, [], Option, Some, slice_get}
use Rattle.std.specs.List.{remove}
use Rattle.std.specs.Ordering.{nat_cmp}
use Rattle.vx_space.specs.Sets.{Sets}
use Rattle.vx_cond.specs.Cond.{Conditional, IsCond}
use Rattle.vx_cond.specs.Leaves.{value_at}
use Rattle.vx_group.specs.declared.callers.Caller.{Caller}
use Rattle.vx_group.specs.Group.{GroupView, IsGroup, attempts_at, path_of}
use Rattle.vx_heap.specs.Heap.{HeapView, IsHeap, IsHeapFor}
use Rattle.vx_findings.specs.Shared.{leaves_of}
use Rattle.vx_java.specs.Machine.{Outcome}
use Rattle.vx_link.specs.declared.program.Program.{Program}
use Rattle.vx_group_states.specs.Stands.{state_at}
use Rattle.vx_placing.specs.declared.round.Round.{Round}
use Rattle.vx_standing.specs.Attempted.{attempted_row}
use Rattle.vx_placing.specs.Placing.{IsUnderway, leads_in, led_by, made_at, put_if}
use Rattle.vx_standing.specs.Waiting.{end_after, piece_after, spent_after, waiting_at, waits_after}
use Rattle.vx_standing.specs.State.{StateView}

-- the group of a place was taken out, and what changes in a round
pub record IsBegun {S I : Type 0} (before after : StateView S I) (which : ℕ) (round : Round S I) (group : GroupView S I) : Type 0 where
  pub chosen : slice_get before.groups which ≡ Some group
  pub callers : round.callers ≡ before.tree
  pub groups : round.groups ≡ remove before.groups which
  pub ends : round.ends.items ≡ before.ends
  pub spent : round.spent.items ≡ before.spent
  pub texts : round.texts.items ≡ []
  pub state : after ≡ record before { tree = []; groups = []; ends = []; spent = [] }

-- the numbers of attempts of a group, beside it
pub record IsCount {S I : Type 0} (sets : Sets I) (group : GroupView S I) (limit : ℕ) (attempts : Conditional ℕ S I) : Type 0 where
  pub is_cond : IsCond nat_cmp sets attempts
  pub scope : attempts.scope ≡ path_of group
  pub at : (c : List Bool) → sets.test (path_of group) c ≡ true → made_at sets attempts c ≡ attempts_at sets group c
  pub bound : (c : List Bool) → sets.test (path_of group) c ≡ true → attempts_at sets group c ≤ limit

-- an attempt more was counted
pub record IsSpent {S I : Type 0} (old new : Sets I) (before after : GroupView S I) (attempts : Conditional ℕ S I) : Type 0 where
  pub is_group : IsGroup new after
  pub same : after ≡ record before { attempts = after.attempts }
  pub path : path_of after ≡ path_of before
  pub more : (c : List Bool) → old.test (path_of before) c ≡ true → attempts_at new after c ≡ attempts_at old before c + 1
  pub is_cond : IsCond nat_cmp new attempts
  pub scope : attempts.scope ≡ path_of after
  pub at : (c : List Bool) → new.test (path_of after) c ≡ true → made_at new attempts c ≡ attempts_at new after c

-- what the runs of a group come to in their attempt
abbrev pub came_of : {S I : Type 0} → Program → Sets I → HeapView S I → List (Option (Caller S I)) → GroupView S I → List Bool → Option Outcome
came_of p sets heap tree group = leads_in sets (path_of group) (λ c. attempted_row p (state_at sets heap tree group c))

-- a group made its attempt, and what it came to took its place; all else stays
pub record IsMade {S I : Type 0} (p : Program) (old new : Sets I) (before after : HeapView S I) (limit : ℕ) (group : GroupView S I) (was round : Round S I) : Type 0 where
  pub is_heap : IsHeap new after
  pub is_for : IsHeapFor p after
  pub allowed : after.allowed ≡ before.allowed
  pub underway : IsUnderway p new after limit round
  pub waits : (c : List Bool) → waiting_at new after round.callers round.groups c ≡ put_if (waits_after limit (attempts_at old group c)) (led_by p (came_of p old before was.callers group) c) (waiting_at old before was.callers was.groups c)
  pub ends : (c : List Bool) → value_at new (leaves_of round.ends.items) c ≡ put_if (end_after limit (attempts_at old group c)) (led_by p (came_of p old before was.callers group) c) (value_at old (leaves_of was.ends.items) c)
  pub spent : (c : List Bool) → value_at new (leaves_of round.spent.items) c ≡ put_if (spent_after limit (attempts_at old group c)) (led_by p (came_of p old before was.callers group) c) (value_at old (leaves_of was.spent.items) c)
  pub texts : (c : List Bool) → value_at new (leaves_of round.texts.items) c ≡ put_if piece_after (came_of p old before was.callers group c) (value_at old (leaves_of was.texts.items) c)

-- a state with what changed in a round put back
abbrev pub put_back : {S I : Type 0} → StateView S I → Round S I → StateView S I
put_back st round =
    record st {
      tree = round.callers;
      groups = round.groups;
      rounds = st.rounds + 1;
      found = st.found ++ round.texts.items;
      ends = round.ends.items;
      spent = round.spent.items;
    }
