-- The state of all runs side by side, and what stands in it at a configuration (own).
use Rattle.std.specs.Prelude.{◌≡◌, ◌<◌, ◌≤◌, ◌+◌, ◌-◌, ◌++◌, ℕ, Bool, true, false, List, [], ◌∷◌, cond, map, sum, Option, Some, None, is_some, if◌then◌else◌, zero, suc}
use Rattle.std.specs.List.{flat_map}
use Rattle.std.specs.Ordering.{nat_cmp}
use Rattle.vx_space.specs.Sets.{Sets, AreKnown}
use Rattle.vx_cond.specs.Leaves.{AreLeaves, value_at}
use Rattle.vx_group.specs.declared.callers.Caller.{Caller}
use Rattle.vx_group.specs.Callers.{tree_ids}
use Rattle.vx_group.specs.Group.{GroupView, attempts_at, group_ids, path_of}
use Rattle.vx_heap.specs.Heap.{HeapView, IsHeap, IsHeapFor, heap_ids}
use Rattle.vx_families.specs.Bounds.{IsBounded}
use Rattle.vx_findings.specs.declared.piece.Piece.{Piece}
use Rattle.vx_findings.specs.declared.shared.Shared.{Shared}
use Rattle.vx_findings.specs.Shared.{leaves_of}
use Rattle.vx_java.specs.Lockstep.{live_progress}
use Rattle.vx_java.specs.Report.{bytes_of}
use Rattle.vx_java.specs.Step.{Progress, Run, RunResult, result}
use Rattle.vx_link.specs.declared.program.Program.{Program}
use Rattle.vx_sched.specs.Groups.{AreGroups}
use Rattle.vx_group_states.specs.Stands.{StandsIn, state_at}
use Rattle.vx_value.specs.Ends.{compare_ends}
use Rattle.vx_value.specs.declared.end.End.{End}
use Rattle.vx_value.specs.declared.end.Stream.{Stream}

-- a `State` as contracts see it: the shared heap, the tree of callers, the groups that go on, the limit of attempts, the rounds made, and what was found: the texts in the order in which they were written, the ends, the numbers of attempts
pub record StateView (S I : Type 0) : Type 0 where
  pub heap : HeapView S I
  pub tree : List (Option (Caller S I))
  pub groups : List (GroupView S I)
  pub limit : ℕ
  pub rounds : ℕ
  pub found : List (Shared Piece S I)
  pub ends : List (Shared End S I)
  pub spent : List (Shared ℕ S I)

-- ---- what stands at a configuration

-- a run that goes on; or what a run has come to
pub data Standing : Type 0 where
  Runs : (progress : Progress) → Standing
  Came : (result : RunResult) → Standing

-- of a run with a limit: one that has neither ended nor used its attempts goes on
abbrev pub standing_if : Run → Option Progress → Standing
standing_if r None = Came (result r)
standing_if r (Some g) = Runs g

abbrev pub standing_of : (limit : ℕ) → Run → Standing
standing_of limit r = standing_if r (live_progress limit r)

-- the group whose path holds a configuration
abbrev pub group_of : {S I : Type 0} → Sets I → List (GroupView S I) → List Bool → Option (GroupView S I)
group_of sets [] c = None
group_of sets (group ∷ groups) c = if sets.test (path_of group) c then Some group else group_of sets groups c

-- the texts found at a configuration, joined, each byte with its stream
abbrev pub output_at : {S I : Type 0} → Sets I → List (Shared Piece S I) → List Bool → List (Stream × ℕ)
output_at sets [] c = []
output_at sets (text ∷ found) c =
    if sets.test text.condition c then bytes_of (text.value.stream, text.value.text) ++ output_at sets found c else output_at sets found c

-- what was come to: its end and its number of attempts, where there are both
abbrev pub come_to : List (Stream × ℕ) → Option End → Option ℕ → Option RunResult
come_to output (Some end) (Some attempts) = Some (record { output = output; end = end; attempts = attempts })
come_to output _ _ = None

abbrev pub result_at : {S I : Type 0} → Sets I → List (Shared Piece S I) → List (Shared End S I) → List (Shared ℕ S I) → List Bool → Option RunResult
result_at sets found ends spent c =
    come_to (output_at sets found c) (value_at sets (leaves_of ends) c) (value_at sets (leaves_of spent) c)

abbrev pub came_to : Option RunResult → Option Standing
came_to None = None
came_to (Some r) = Some (Came r)

abbrev pub progress_at : {S I : Type 0} → Sets I → StateView S I → GroupView S I → List Bool → Progress
progress_at sets st group c =
    record { state = state_at sets st.heap st.tree group c; output = output_at sets st.found c; attempts = attempts_at sets group c }

abbrev pub standing_in : {S I : Type 0} → Sets I → StateView S I → List Bool → Option (GroupView S I) → Option Standing
standing_in sets st c None = came_to (result_at sets st.found st.ends st.spent c)
standing_in sets st c (Some group) = Some (Runs (progress_at sets st group c))

-- the run of the group that holds the configuration, or what its run has come to
abbrev pub standing_at : {S I : Type 0} → Sets I → StateView S I → List Bool → Option Standing
standing_at sets st c = standing_in sets st c (group_of sets st.groups c)

-- ---- validity

-- a group of the state: it stands there and has attempts left
pub record IsRunning {S I : Type 0} (p : Program) (sets : Sets I) (st : StateView S I) (group : GroupView S I) : Type 0 where
  pub stands : StandsIn p sets st.heap st.tree group
  pub left : (c : List Bool) → sets.test (path_of group) c ≡ true → attempts_at sets group c < st.limit

abbrev pub AreRunning : {S I : Type 0} → Program → Sets I → StateView S I → List (GroupView S I) → Type 0
AreRunning p sets st [] = Unit {0}
AreRunning p sets st (group ∷ groups) = IsRunning p sets st group × AreRunning p sets st groups

-- nothing was found at a configuration
pub record IsNowhere {S I : Type 0} (sets : Sets I) (st : StateView S I) (c : List Bool) : Type 0 where
  pub group : group_of sets st.groups c ≡ None
  pub output : output_at sets st.found c ≡ []
  pub end : value_at sets (leaves_of st.ends) c ≡ None
  pub spent : value_at sets (leaves_of st.spent) c ≡ None

-- a run that goes on has come to nothing
pub record GoesOn {S I : Type 0} (sets : Sets I) (st : StateView S I) (c : List Bool) : Type 0 where
  pub end : value_at sets (leaves_of st.ends) c ≡ None
  pub spent : value_at sets (leaves_of st.spent) c ≡ None

-- the ids that a state holds
abbrev pub shared_ids : {V S I : Type 0} → List (Shared V S I) → List I
shared_ids list = map (λ shared. shared.condition) list

abbrev pub state_ids : {S I : Type 0} → StateView S I → List I
state_ids st =
    heap_ids st.heap ++ (flat_map group_ids st.groups ++ (tree_ids st.tree ++ (shared_ids st.found ++ (shared_ids st.ends ++ shared_ids st.spent))))

-- ---- the attempts that are left

-- all configurations of so many options
abbrev pub configurations : ℕ → List (List Bool)
configurations zero = [] ∷ []
configurations (suc n) = map (λ c. false ∷ c) (configurations n) ++ map (λ c. true ∷ c) (configurations n)

abbrev pub left_of : {S I : Type 0} → Sets I → ℕ → List Bool → Option (GroupView S I) → ℕ
left_of sets limit c None = 0
left_of sets limit c (Some group) = limit - attempts_at sets group c

-- how many attempts all runs have left
abbrev pub attempts_left : {S I : Type 0} → Sets I → StateView S I → ℕ
attempts_left sets st = sum (map (λ c. left_of sets st.limit c (group_of sets st.groups c)) (configurations sets.options))

-- how many attempts the runs of a set of configurations may make, each by itself
abbrev pub attempts_in : {I : Type 0} → Sets I → (set : I) → (limit : ℕ) → ℕ
attempts_in sets set limit = sum (map (λ c. cond (sets.test set c) limit 0) (configurations sets.options))

-- the most attempts that one configuration may make
abbrev pub most_attempts : ℕ
most_attempts = 1000000000

-- a state of the runs of these configurations, over this space
pub record IsState {S I : Type 0} (p : Program) (sets : Sets I) (allowed : I) (st : StateView S I) : Type 0 where
  pub bounded : IsBounded p
  pub some : 0 < st.limit
  pub most : st.limit ≤ most_attempts
  pub is_heap : IsHeap sets st.heap
  pub is_for : IsHeapFor p st.heap
  pub runs : st.heap.allowed ≡ allowed
  pub groups : AreGroups sets st.tree st.groups
  pub running : AreRunning p sets st st.groups
  pub found : AreKnown sets (shared_ids st.found)
  pub ends : AreLeaves compare_ends sets (leaves_of st.ends)
  pub spent : AreLeaves nat_cmp sets (leaves_of st.spent)
  pub everywhere : (c : List Bool) → sets.test allowed c ≡ true → is_some (standing_at sets st c) ≡ true
  pub nowhere : (c : List Bool) → sets.test allowed c ≡ false → IsNowhere sets st c
  pub goes_on : (c : List Bool) → is_some (group_of sets st.groups c) ≡ true → GoesOn sets st c
  pub counted : st.rounds + attempts_left sets st ≤ attempts_in sets allowed st.limit

-- the ids in the frames of callers are known: at the start and after a sweep, while between sweeps a frame that no group has any more may hold any
abbrev pub IsTreeKnown : {S I : Type 0} → Sets I → StateView S I → Type 0
IsTreeKnown sets st = AreKnown sets (tree_ids st.tree)
