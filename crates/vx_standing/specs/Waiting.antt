-- Runs that wait for their next attempt, and what comes of one that was made (own).
use Rattle.std.specs.Prelude.{◌≡◌, ◌<◌, ℕ, Bool, true, List, [], ◌∷◌, cond, nat_lt, Option, Some, None}
use Rattle.std.specs.List.{list_all}
use Rattle.vx_space.specs.Sets.{Sets}
use Rattle.vx_group.specs.declared.callers.Caller.{Caller}
use Rattle.vx_group.specs.Group.{GroupView, PlainGroup, attempts_at}
use Rattle.vx_heap.specs.Heap.{HeapView}
use Rattle.vx_findings.specs.declared.piece.Piece.{Piece}
use Rattle.vx_java.specs.Machine.{Ends, Goes, Next, State, Write}
use Rattle.vx_java.specs.Machine.{Outcome as PlainOutcome}
use Rattle.vx_java.specs.Step.{utf8_of}
use Rattle.vx_link.specs.declared.program.Program.{Program}
use Rattle.vx_sched.specs.Groups as sched
use Rattle.vx_group_states.specs.Stands.{frame_held, is_shaped, state_at}
use Rattle.vx_value.specs.declared.end.End.{End}
use Rattle.vx_value.specs.declared.end.End.TheVariants.{Unfinished}
use Rattle.vx_value.specs.declared.end.Stream.{Stream}
use Rattle.vx_standing.specs.State.{group_of}

-- ---- the groups that wait

-- a run that waits for its next attempt
pub record Waiting : Type 0 where
  pub state : State
  pub attempts : ℕ

abbrev pub waiting_in : {S I : Type 0} → Sets I → HeapView S I → List (Option (Caller S I)) → List Bool → Option (GroupView S I) → Option Waiting
waiting_in sets heap tree c None = None
waiting_in sets heap tree c (Some group) = Some (record { state = state_at sets heap tree group c; attempts = attempts_at sets group c })

-- the run that waits at a configuration
abbrev pub waiting_at : {S I : Type 0} → Sets I → HeapView S I → List (Option (Caller S I)) → List (GroupView S I) → List Bool → Option Waiting
waiting_at sets heap tree groups c = waiting_in sets heap tree c (group_of sets groups c)

-- what waits at a configuration is one of those that run, names what is there, and has attempts left
pub record IsGoodGroup {S I : Type 0} (sets : Sets I) (heap : HeapView S I) (limit : ℕ) (c : List Bool) (group : PlainGroup) : Type 0 where
  pub runs : sets.test heap.allowed c ≡ true
  pub held : list_all (frame_held sets heap c) group.frames ≡ true
  pub left : group.attempts < limit

abbrev pub IsGood : {S I : Type 0} → Sets I → HeapView S I → ℕ → List Bool → Option PlainGroup → Type 0
IsGood sets heap limit c None = Unit {0}
IsGood sets heap limit c (Some group) = IsGoodGroup sets heap limit c group

-- groups that wait, each frame with as many locals as its method asks for
pub record AreWaiting {S I : Type 0} (p : Program) (sets : Sets I) (heap : HeapView S I) (tree : List (Option (Caller S I))) (limit : ℕ) (groups : List (GroupView S I)) : Type 0 where
  pub are_groups : sched.AreGroups sets tree groups
  pub shaped : sched.are_shaped (list_all (is_shaped p)) tree groups ≡ true
  pub good : (c : List Bool) → IsGood sets heap limit c (sched.standing_at sets tree groups c)

-- ---- what comes of an attempt

-- a run that goes on waits while it has attempts left
abbrev pub waits_after : (limit made : ℕ) → Next → Option Waiting
waits_after limit made (Goes s) = cond (nat_lt made limit) (Some (record { state = s; attempts = made })) None
waits_after limit made (Ends end) = None

-- else it has come to an end
abbrev pub end_after : (limit made : ℕ) → Next → Option End
end_after limit made (Goes s) = cond (nat_lt made limit) None (Some Unfinished)
end_after limit made (Ends end) = Some end

abbrev pub spent_after : (limit made : ℕ) → Next → Option ℕ
spent_after limit made (Goes s) = cond (nat_lt made limit) None (Some made)
spent_after limit made (Ends end) = Some made

-- a text as a piece; an empty one is none
abbrev pub piece_if : Stream → List ℕ → Option Piece
piece_if stream [] = None
piece_if stream (b ∷ text) = Some (record { stream = stream; text = b ∷ text })

abbrev pub piece_after : PlainOutcome → Option Piece
piece_after (Write stream units s) = piece_if stream (utf8_of units)
piece_after _ = None
