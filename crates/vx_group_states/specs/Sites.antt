-- An instruction where it stands, and what a group comes to there.
use Rattle.std.specs.Prelude.{◌≡◌, ◌<◌, ◌+◌, ◌^◌, Bool, true, false, List, Option, is_some, unwrap_or}
use Rattle.vx_space.specs.Sets.{Sets}
use Rattle.vx_cond.specs.declared.cond.Leaf.{Leaf}
use Rattle.vx_cond.specs.Leaves.{value_at}
use Rattle.vx_group.specs.declared.callers.Caller.{Caller}
use Rattle.vx_group.specs.Group.{GroupView, path_of}
use Rattle.vx_heap.specs.Heap.{HeapView, IsHeap}
use Rattle.vx_java.specs.Machine.{Here, State, current_class, go, illegal, when}
use Rattle.vx_java.specs.Machine.{Outcome as PlainOutcome}
use Rattle.vx_link.specs.Parts.{class_at}
use Rattle.vx_link.specs.declared.program.Program.{Program}
use Rattle.vx_outcome.specs.declared.outcome.Outcome.{Outcome}
use Rattle.vx_group_states.specs.Stands.{CameTo, StandsIn, state_at}
use Rattle.vx_group_states.specs.declared.site.Site.{Site}

-- what the row of the instruction sees in a state
abbrev pub here : Site → State → Here
here site s =
    record {
      program = site.program.now;
      state = s;
      code = site.code.now;
      pool = (class_at site.program.now (current_class site.program.now s)).pool;
      size = site.size;
    }

-- there is a position after the instruction
abbrev pub HasPast : {S I : Type 0} → Site → GroupView S I → Type 0
HasPast site group = group.top.position + site.size < 2 ^ 32

-- the outcomes of a group over every heap and every tree in which it stands: what this function of the configuration and the plain state there says
abbrev pub GivesAt : {S I : Type 0} → Program → (HeapView S I → List Bool → State → PlainOutcome) → Sets I → Sets I → GroupView S I → List (Outcome S I) → HeapView S I → Type 0
GivesAt {S = S} {I = I} p says old new group outcomes heap =
    (tree : List (Option (Caller S I))) → IsHeap old heap → StandsIn p old heap tree group → CameTo p old new heap tree group (λ c. says heap c (state_at old heap tree group c)) (old.test (path_of group)) outcomes

abbrev pub Gives : {S I : Type 0} → Program → (State → PlainOutcome) → Sets I → Sets I → GroupView S I → List (Outcome S I) → Type 0
Gives {S = S} {I = I} p says old new group outcomes = (heap : HeapView S I) → GivesAt p (λ _ _. says) old new group outcomes heap

-- ---- parts of a group

-- leaves have a value at each configuration of a set, and at no other
pub record Cover {K S I : Type 0} (sets : Sets I) (path : I) (leaves : List (Leaf K S I)) : Type 0 where
  pub at : (c : List Bool) → is_some (value_at sets leaves c) ≡ sets.test path c

-- where leaves say that the operands fit, the run goes past the instruction
abbrev pub settled_by : {S I : Type 0} → Site → Sets I → List (Leaf Bool S I) → List Bool → State → PlainOutcome
settled_by site sets fits c s = when (unwrap_or (value_at sets fits c) false) (go (here site s) s.top.operands) (illegal (here site s))

-- some configuration is in the set
pub record IsSomewhere {I : Type 0} (sets : Sets I) (path : I) : Type 0 where
  pub config : List Bool
  pub inside : sets.test path config ≡ true
