-- What is under way in a round once its attempt was made, and how what the attempt came to takes its place there.
use Rattle.std.specs.Prelude.{◌≡◌, ◌≢◌, ◌≤◌, ◌<◌, ℕ, Bool, true, false, List, [], ◌∷◌, length, option_map, Option, Some, None, if◌then◌else◌, unwrap_or}
use Rattle.std.specs.Ordering.{nat_cmp}
use Rattle.vx_space.specs.Sets.{Sets, IsKnown}
use Rattle.vx_cond.specs.Cond.{Conditional, IsCond, IsInside, cond_at}
use Rattle.vx_cond.specs.Leaves.{AreLeaves, AreLeavesOf, IsApart, first_of, value_at, value_under, value_within}
use Rattle.vx_group.specs.declared.callers.Caller.{Caller}
use Rattle.vx_group.specs.Callers.{Keeps}
use Rattle.vx_group.specs.Group.{GroupView, attempts_at, path_of}
use Rattle.vx_heap.specs.Heap.{HeapView, IsHeap}
use Rattle.vx_findings.specs.Orders.{piece_cmp}
use Rattle.vx_findings.specs.Shared.{leaves_of}
use Rattle.vx_java.specs.Machine.{Goes, Next, Write}
use Rattle.vx_java.specs.Machine.{Outcome as PlainOutcome}
use Rattle.vx_java.specs.Step.{next}
use Rattle.vx_link.specs.declared.program.Program.{Program}
use Rattle.vx_outcome.specs.Outcome.{condition_of}
use Rattle.vx_outcome.specs.declared.outcome.Outcome.{Outcome}
use Rattle.vx_outcome.specs.declared.outcome.Outcome.TheVariants as shared
use Rattle.vx_group_states.specs.Stands.{StandsIn, comes_to, outcome_at, state_at}
use Rattle.vx_value.specs.Ends.{compare_ends}
use Rattle.vx_value.specs.declared.end.End.{End}
use Rattle.vx_placing.specs.declared.round.Round.{Round}
use Rattle.vx_standing.specs.State.{group_of}
use Rattle.vx_standing.specs.Waiting.{AreWaiting, end_after, piece_after, spent_after, waiting_at, waits_after}

-- ---- what is under way

pub record IsUnderway {S I : Type 0} (p : Program) (sets : Sets I) (heap : HeapView S I) (limit : ℕ) (round : Round S I) : Type 0 where
  pub waiting : AreWaiting p sets heap round.callers limit round.groups
  pub ends : AreLeaves compare_ends sets (leaves_of round.ends.items)
  pub spent : AreLeaves nat_cmp sets (leaves_of round.spent.items)
  pub texts : AreLeaves piece_cmp sets (leaves_of round.texts.items)

-- nothing waits in a set, and nothing has come to its end there
pub record IsVacant {S I : Type 0} (sets : Sets I) (round : Round S I) (set : List Bool → Bool) : Type 0 where
  pub groups : (c : List Bool) → set c ≡ true → group_of sets round.groups c ≡ None
  pub ends : (c : List Bool) → set c ≡ true → value_at sets (leaves_of round.ends.items) c ≡ None
  pub spent : (c : List Bool) → set c ≡ true → value_at sets (leaves_of round.spent.items) c ≡ None

-- nothing was written there
pub record IsUnwritten {S I : Type 0} (sets : Sets I) (round : Round S I) (set : List Bool → Bool) : Type 0 where
  pub texts : (c : List Bool) → set c ≡ true → value_at sets (leaves_of round.texts.items) c ≡ None

-- ---- what is put

-- what is put there if there is something to be put, else what was there
abbrev pub put_if : {A B : Type 0} → (A → Option B) → Option A → Option B → Option B
put_if put None before = before
put_if put (Some next) before = put next

-- what runs lead to took its place: each is among those that wait, or among the ends with its number of attempts; the callers stay under their numbers
pub record IsPut {S I : Type 0} (p : Program) (old new : Sets I) (heap : HeapView S I) (limit : ℕ) (made : List Bool → ℕ) (leads : List Bool → Option Next) (before after : Round S I) : Type 0 where
  pub underway : IsUnderway p new heap limit after
  pub keeps : Keeps before.callers after.callers
  pub waits : (c : List Bool) → waiting_at new heap after.callers after.groups c ≡ put_if (waits_after limit (made c)) (leads c) (waiting_at old heap before.callers before.groups c)
  pub ends : (c : List Bool) → value_at new (leaves_of after.ends.items) c ≡ put_if (end_after limit (made c)) (leads c) (value_at old (leaves_of before.ends.items) c)
  pub spent : (c : List Bool) → value_at new (leaves_of after.spent.items) c ≡ put_if (spent_after limit (made c)) (leads c) (value_at old (leaves_of before.spent.items) c)

-- and what they wrote is among the texts
pub record AreWritten {S I : Type 0} (old new : Sets I) (came : List Bool → Option PlainOutcome) (before after : Round S I) : Type 0 where
  pub texts : (c : List Bool) → value_at new (leaves_of after.texts.items) c ≡ put_if piece_after (came c) (value_at old (leaves_of before.texts.items) c)

-- runs in a condition came to an end, with the attempts that they have made
pub record IsEnded {S I : Type 0} (old new : Sets I) (attempts : Conditional ℕ S I) (condition : I) (end : End) (before after : Round S I) : Type 0 where
  pub callers : after.callers ≡ before.callers
  pub groups : after.groups ≡ before.groups
  pub texts : after.texts ≡ before.texts
  pub ends : AreLeavesOf compare_ends new (value_under old condition end (value_at old (leaves_of before.ends.items))) (leaves_of after.ends.items)
  pub spent : AreLeavesOf nat_cmp new (first_of (value_at old (leaves_of before.spent.items)) (value_within old condition (cond_at old attempts))) (leaves_of after.spent.items)

-- what has to be so before runs come to an end
pub record MayEnd {S I : Type 0} (sets : Sets I) (round : Round S I) (attempts : Conditional ℕ S I) (condition : I) : Type 0 where
  pub ends : AreLeaves compare_ends sets (leaves_of round.ends.items)
  pub spent : AreLeaves nat_cmp sets (leaves_of round.spent.items)
  pub is_cond : IsCond nat_cmp sets attempts
  pub known : IsKnown sets condition
  pub ends_apart : IsApart sets condition (leaves_of round.ends.items)
  pub spent_apart : IsApart sets condition (leaves_of round.spent.items)

-- where the attempts have this number
abbrev pub IsUsedUp : {S I : Type 0} → Sets I → Conditional ℕ S I → (limit : ℕ) → Option I → Type 0
IsUsedUp sets attempts limit None = (c : List Bool) → cond_at sets attempts c ≢ Some limit
IsUsedUp sets attempts limit (Some used) = IsKnown sets used × ((c : List Bool) → (sets.test used c ≡ true → cond_at sets attempts c ≡ Some limit) × (sets.test used c ≡ false → cond_at sets attempts c ≢ Some limit))

-- what holds in a condition, and none elsewhere
abbrev pub leads_in : {A I : Type 0} → Sets I → (condition : I) → (List Bool → A) → List Bool → Option A
leads_in sets condition leads c = if sets.test condition c then Some (leads c) else None

-- what has to be so before the runs of a group go on: it stands, and nothing stands in the round at its configurations
pub record MayGoOn {S I : Type 0} (p : Program) (sets : Sets I) (heap : HeapView S I) (limit : ℕ) (round : Round S I) (group : GroupView S I) : Type 0 where
  pub is_heap : IsHeap sets heap
  pub underway : IsUnderway p sets heap limit round
  pub stands : StandsIn p sets heap round.callers group
  pub bound : (c : List Bool) → sets.test (path_of group) c ≡ true → attempts_at sets group c ≤ limit
  pub vacant : IsVacant sets round (sets.test (path_of group))

-- they went on, and wrote nothing
pub record HaveGoneOn {S I : Type 0} (p : Program) (old new : Sets I) (heap : HeapView S I) (limit : ℕ) (group : GroupView S I) (before after : Round S I) : Type 0 where
  pub put : IsPut p old new heap limit (attempts_at old group) (leads_in old (path_of group) (λ c. Goes (state_at old heap before.callers group c))) before after
  pub texts : after.texts ≡ before.texts

-- ---- outcomes that wait for their place

-- how many attempts a configuration has made
abbrev pub made_at : {S I : Type 0} → Sets I → Conditional ℕ S I → List Bool → ℕ
made_at sets attempts c = unwrap_or (cond_at sets attempts c) 0

-- a group of an outcome, with its attempts
pub record IsGoing {S I : Type 0} (p : Program) (sets : Sets I) (heap : HeapView S I) (tree : List (Option (Caller S I))) (attempts : Conditional ℕ S I) (group : GroupView S I) : Type 0 where
  pub stands : StandsIn p sets heap tree group
  pub made : (c : List Bool) → sets.test (path_of group) c ≡ true → attempts_at sets group c ≡ made_at sets attempts c

-- what has to be so of an outcome that takes its place, and of no other
abbrev pub HasGoing : {S I : Type 0} → Program → Sets I → HeapView S I → List (Option (Caller S I)) → Conditional ℕ S I → Outcome S I → Type 0
HasGoing p sets heap tree attempts (shared.Go group) = IsGoing p sets heap tree attempts group
HasGoing p sets heap tree attempts (shared.Raise group class message) = Unit {0}
HasGoing p sets heap tree attempts (shared.Throw group thrown) = Unit {0}
HasGoing p sets heap tree attempts (shared.Begin group class) = Unit {0}
HasGoing p sets heap tree attempts (shared.Native group method) = Unit {0}
HasGoing p sets heap tree attempts (shared.Write group stream text) = IsGoing p sets heap tree attempts group × (text < length heap.texts)
HasGoing p sets heap tree attempts (shared.Ended condition end) = Unit {0}

-- an outcome of the configurations that have these attempts
pub record IsPlaceable {S I : Type 0} (p : Program) (sets : Sets I) (heap : HeapView S I) (tree : List (Option (Caller S I))) (attempts : Conditional ℕ S I) (outcome : Outcome S I) : Type 0 where
  pub known : IsKnown sets (condition_of outcome)
  pub inside : IsInside sets (condition_of outcome) attempts.scope
  pub going : HasGoing p sets heap tree attempts outcome

abbrev pub ArePlaceable : {S I : Type 0} → Program → Sets I → HeapView S I → List (Option (Caller S I)) → Conditional ℕ S I → List (Outcome S I) → Type 0
ArePlaceable p sets heap tree attempts [] = Unit {0}
ArePlaceable p sets heap tree attempts (outcome ∷ outcomes) = IsPlaceable p sets heap tree attempts outcome × ArePlaceable p sets heap tree attempts outcomes

-- what an outcome says of the configurations in its condition
abbrev pub said_by : {S I : Type 0} → Sets I → HeapView S I → List (Option (Caller S I)) → Outcome S I → List Bool → Option PlainOutcome
said_by sets heap tree outcome c = if sets.test (condition_of outcome) c then Some (outcome_at sets heap tree c outcome) else None

-- what outcomes say
abbrev pub said_in : {S I : Type 0} → Sets I → HeapView S I → List (Option (Caller S I)) → List (Outcome S I) → List Bool → Option PlainOutcome
said_in sets heap tree outcomes c = comes_to sets heap tree c outcomes

abbrev pub led_by : Program → (List Bool → Option PlainOutcome) → List Bool → Option Next
led_by p came c = option_map (next p) (came c)

-- an outcome, or each of some, took its place
pub record IsOutcomePlaced {S I : Type 0} (p : Program) (old new : Sets I) (heap : HeapView S I) (limit : ℕ) (attempts : Conditional ℕ S I) (said : List Bool → Option PlainOutcome) (before after : Round S I) : Type 0 where
  pub put : IsPut p old new heap limit (made_at old attempts) (led_by p said) before after
  pub written : AreWritten old new said before after

-- what has to be so before outcomes of these attempts take their places at some configurations
pub record MayPlace {S I : Type 0} (p : Program) (sets : Sets I) (heap : HeapView S I) (limit : ℕ) (attempts : Conditional ℕ S I) (round : Round S I) (set : List Bool → Bool) : Type 0 where
  pub is_heap : IsHeap sets heap
  pub underway : IsUnderway p sets heap limit round
  pub is_cond : IsCond nat_cmp sets attempts
  pub bound : (c : List Bool) → sets.test attempts.scope c ≡ true → made_at sets attempts c ≤ limit
  pub vacant : IsVacant sets round set
  pub unwritten : IsUnwritten sets round set
