-- What each family of instructions is given, and what it promises: the row of its operation at each configuration.
use Rattle.std.specs.Prelude.{◌≡◌, ◌<◌, ◌≤◌, ◌+◌, Bool, true, List, length, Option, Some}
use Rattle.vx_space.specs.Sets.{Sets}
use Rattle.vx_cond.specs.Cond.{IsInside}
use Rattle.vx_frame.specs.Frame.{frame_at, shape_of}
use Rattle.vx_group.specs.declared.callers.Caller.{Caller}
use Rattle.vx_group.specs.Group.{GroupView, IsGroup, path_of}
use Rattle.vx_heap.specs.Heap.{HeapView, IsHeap, IsHeapFor}
use Rattle.vx_java.specs.Machine.{State}
use Rattle.vx_java.specs.Machine.{Outcome as PlainOutcome}
use Rattle.vx_java.specs.Operation.{operation_of}
use Rattle.vx_java.specs.Row.{row_of}
use Rattle.vx_java.specs.declared.operation.Operation.{Operation}
use Rattle.vx_link.specs.Parts.{method_at}
use Rattle.vx_opcode.specs.Decode.{instruction_at}
use Rattle.vx_opcode.specs.declared.instruction.Instruction.{Instruction}
use Rattle.vx_outcome.specs.declared.outcome.Outcome.{Outcome}
use Rattle.vx_group_states.specs.Sites.{here}
use Rattle.vx_group_states.specs.Stands.{Attempts, StandsIn, frame_held, is_shaped}
use Rattle.vx_group_states.specs.declared.site.Site.{Site}
use Rattle.vx_families.specs.Bounds.{IsBounded}

-- the row of an operation at a state
abbrev pub row_by : Site → Operation → State → PlainOutcome
row_by site operation s = row_of (here site s) operation s.top.operands

-- this instruction stands where the frame on top of a group stands, and does this
pub record IsAtSite {S I : Type 0} (site : Site) (operation : Operation) (group : GroupView S I) : Type 0 where
  pub instruction : Instruction
  pub code : (method_at site.program.now group.top.method.0).code ≡ Some site.code.now
  pub found : instruction_at site.code.now.bytes group.top.position ≡ Some instruction
  pub size : site.size ≡ instruction.length
  pub does : operation ≡ operation_of instruction
  -- the code is short, and the instruction is whole
  pub within : group.top.position + site.size ≤ length site.code.now.bytes
  pub short : length site.code.now.bytes < 65536

-- a family is given a group of configurations that run at an instruction, and the heap of its program
pub record IsGiven {S I : Type 0} (site : Site) (operation : Operation) (sets : Sets I) (heap : HeapView S I) (group : GroupView S I) : Type 0 where
  pub bounded : IsBounded site.program.now
  pub at_site : IsAtSite site operation group
  pub is_heap : IsHeap sets heap
  pub is_for : IsHeapFor site.program.now heap
  pub is_group : IsGroup sets group
  pub runs : IsInside sets (path_of group) heap.allowed
  pub held : (c : List Bool) → sets.test (path_of group) c ≡ true → frame_held sets heap c (frame_at sets group.top c) ≡ true
  pub shaped : is_shaped site.program.now (shape_of group.top) ≡ true

-- an attempt by some row, over every tree in which the group stands; the tree stays, and the heap is still one of the program
pub record AttemptsBy {S I : Type 0} (site : Site) (says : State → PlainOutcome) (old new : Sets I) (before after : HeapView S I) (group : GroupView S I) (outcomes : List (Outcome S I)) : Type 0 where
  pub is_for : IsHeapFor site.program.now after
  pub attempts : (tree : List (Option (Caller S I))) → StandsIn site.program.now old before tree group → Attempts site.program.now says old new before after tree tree group outcomes

-- an attempt by an operation: at each configuration of the path its row at the plain state there, and nothing else changes
abbrev pub IsAttemptBy : {S I : Type 0} → Site → Operation → Sets I → Sets I → HeapView S I → HeapView S I → GroupView S I → List (Outcome S I) → Type 0
IsAttemptBy site operation old new before after group outcomes = AttemptsBy site (row_by site operation) old new before after group outcomes

-- an attempt by some row over this tree, which may get more callers; the heap is still one of the program
pub record AttemptsIn {S I : Type 0} (site : Site) (says : State → PlainOutcome) (old new : Sets I) (before after : HeapView S I) (tree later : List (Option (Caller S I))) (group : GroupView S I) (outcomes : List (Outcome S I)) : Type 0 where
  pub is_for : IsHeapFor site.program.now after
  pub attempts : Attempts site.program.now says old new before after tree later group outcomes

-- an attempt by an operation that may push frames, or take them off
abbrev pub IsAttemptIn : {S I : Type 0} → Site → Operation → Sets I → Sets I → HeapView S I → HeapView S I → (tree later : List (Option (Caller S I))) → GroupView S I → List (Outcome S I) → Type 0
IsAttemptIn site operation old new before after tree later group outcomes = AttemptsIn site (row_by site operation) old new before after tree later group outcomes
