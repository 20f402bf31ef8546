-- One attempt of a group: its row, what a native method or a beginning makes of that, and what an exception comes to in the same attempt (own).
use Rattle.std.specs.Prelude.{◌≡◌, ◌≢◌, Bool, true, false, List, Option, map}
use Rattle.std.specs.List.{list_all}
use Rattle.vx_space.specs.Sets.{AreKnown, Sets}
use Rattle.vx_group.specs.declared.callers.Caller.{Caller}
use Rattle.vx_group.specs.Group.{GroupView, path_of}
use Rattle.vx_heap.specs.Heap.{HeapView, IsHeap, IsHeapFor}
use Rattle.vx_families.specs.Bounds.{IsBounded}
use Rattle.vx_java.specs.Machine.{Ends, Goes, Next, State}
use Rattle.vx_java.specs.Machine.{Outcome as PlainOutcome, Ended, Go, Raise, Throw}
use Rattle.vx_java.specs.Row.{row}
use Rattle.vx_java.specs.Step.{outcome_carried_out}
use Rattle.vx_java.specs.Throwing.{next_after_raise, next_after_throw}
use Rattle.vx_link.specs.declared.program.Program.{Program}
use Rattle.vx_outcome.specs.Outcome.{condition_of}
use Rattle.vx_outcome.specs.declared.outcome.Outcome.{Outcome}
use Rattle.vx_outcome.specs.declared.outcome.Outcome.TheVariants as shared
use Rattle.vx_group_states.specs.Stands.{Attempts, StandsIn}

-- ---- plain outcomes

-- what is led to, as an outcome
abbrev pub outcome_of : Next → PlainOutcome
outcome_of (Goes s) = Go s
outcome_of (Ends end) = Ended end

-- an exception is made and thrown until a frame takes it or none is left
abbrev pub thrown_out : Program → PlainOutcome → PlainOutcome
thrown_out p (Raise class message s) = outcome_of (next_after_raise p s class message)
thrown_out p (Throw r s) = outcome_of (next_after_throw p s r)
thrown_out p o = o

-- what the row of a state comes to, with a native method or a beginning carried out
abbrev pub carried_out_row : Program → State → PlainOutcome
carried_out_row p s = outcome_carried_out p (row p s)

-- what an attempt comes to: what the row, the native method or the beginning throws is thrown too
abbrev pub attempted_row : Program → State → PlainOutcome
attempted_row p s = thrown_out p (carried_out_row p s)

-- ---- an attempt

-- an outcome that takes its place as it is: runs go on, write, or have ended
abbrev pub is_placed : {S I : Type 0} → Outcome S I → Bool
is_placed (shared.Go group) = true
is_placed (shared.Raise group class message) = false
is_placed (shared.Throw group thrown) = false
is_placed (shared.Begin group class) = false
is_placed (shared.Native group method) = false
is_placed (shared.Write group stream text) = true
is_placed (shared.Ended condition end) = true

-- a group makes an attempt over this heap and this tree
pub record MayAttempt {S I : Type 0} (p : Program) (sets : Sets I) (heap : HeapView S I) (tree : List (Option (Caller S I))) (group : GroupView S I) : Type 0 where
  pub bounded : IsBounded p
  pub is_heap : IsHeap sets heap
  pub is_for : IsHeapFor p heap
  pub nonempty : path_of group ≢ sets.never
  pub stands : StandsIn p sets heap tree group

-- it made it: at each configuration of its path comes what the attempt comes to there, and nothing else changes
pub record IsAttempted {S I : Type 0} (p : Program) (old new : Sets I) (before after : HeapView S I) (tree later : List (Option (Caller S I))) (group : GroupView S I) (outcomes : List (Outcome S I)) : Type 0 where
  pub is_for : IsHeapFor p after
  pub attempts : Attempts p (attempted_row p) old new before after tree later group outcomes
  pub placed : list_all is_placed outcomes ≡ true

-- the conditions of the outcomes are known
abbrev pub AreConditionsKnown : {S I : Type 0} → Sets I → List (Outcome S I) → Type 0
AreConditionsKnown sets outcomes = AreKnown sets (map condition_of outcomes)
