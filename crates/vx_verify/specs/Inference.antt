-- What an inference keeps, and what its steps do.
use Rattle.std.specs.BTreeSet.{BTreeSet, contains}
use Rattle.std.specs.List.{AllZip}
use Rattle.std.specs.Ordering.{nat_cmp}
use Rattle.std.specs.Prelude.{All, Bool, List, None, Option, Some, [], false, length, option_map, true, ℕ, ◌&&◌, ◌+◌, ◌<◌, ◌==◌, ◌^◌, ◌∷◌, ◌≡◌, ◌≤◌}
use Rattle.vx_class.specs.declared.class_file.Catch.{Catch}
use Rattle.vx_class.specs.declared.class_file.Code.{Code}
use Rattle.vx_java.specs.Ids.{HasClassNumbers}
use Rattle.vx_java.specs.Operation.{operation_of}
use Rattle.vx_java.specs.Selection.{covers}
use Rattle.vx_java.specs.declared.operation.Operation.{Operation}
use Rattle.vx_link.specs.declared.program.Program.{Program}
use Rattle.vx_list.specs.Places.{item_or}
use Rattle.vx_opcode.specs.Decode.{instruction_at}
use Rattle.vx_opcode.specs.declared.instruction.Instruction.{Instruction}
use Rattle.vx_types.specs.Fits.{StateFits}
use Rattle.vx_types.specs.Flow.{EntriesFit, flow_of, targets_of}
use Rattle.vx_types.specs.Ranked.{IsRanked}
use Rattle.vx_types.specs.Types.{VerState}
use Rattle.vx_types.specs.declared.types.Row.{Row}
use Rattle.vx_types.specs.declared.types.Row.TheVariants.{Ends, Leaves}
use Rattle.vx_verify.specs.Forced.{IsForced, IsMerged, IsUntyped}
use Rattle.vx_verify.specs.Inferred.{AreInferred, AreRaised, IsClosedAt}
use Rattle.vx_verify.specs.States.{IsLater, IsStack, IsStore, Stands, operands_at, state_at}
use Rattle.vx_verify.specs.Typing.{AreOperands, IsReached, LeadsOn, caught, handler_state}
use Rattle.vx_verify.specs.declared.inference.Inference.{Inference}
use Rattle.vx_verify.specs.declared.inference.Joint.{Joint}
use Rattle.vx_verify.specs.declared.inference.Joint.TheVariants.{Raised, Same, Unlike}
use Rattle.vx_verify.specs.declared.inference.Subject.{Subject}
use Rattle.vx_verify.specs.declared.rows.Frame.{Frame}
use Rattle.vx_verify.specs.declared.rows.State.{State}
use Rattle.vx_verify.specs.declared.store.Store.{Store}

abbrev pub is_last : Row → Bool
is_last Ends = true
is_last (Leaves wanted) = true
is_last _ = false

-- ---- a method that is asked

abbrev pub code_of : Subject → Code
code_of s = s.code.now

pub record IsSubject (s : Subject) : Type 0 where
  pub classes : HasClassNumbers s.program.now
  pub ranked : IsRanked s.program.now
  pub some : 0 < length s.code.now.bytes
  pub short : length s.code.now.bytes < 2 ^ 16
  pub locals : s.frame.locals ≡ s.code.now.max_locals
  pub few : s.frame.levels ≤ 16
  pub room : s.frame.locals ≤ 2 ^ s.frame.levels

-- the instruction of a position, which has so many bytes
pub record IsDecoded (s : Subject) (at size : ℕ) (o : Operation) : Type 0 where
  pub instruction : Instruction
  pub is : instruction_at s.code.now.bytes at ≡ Some instruction
  pub takes : instruction.length ≡ size
  pub operation : operation_of instruction ≡ o
  pub within : at + size ≤ length s.code.now.bytes
  pub entries : EntriesFit s.code.now.bytes o

-- ---- what is known

abbrev pub state_of : Inference → ℕ → Option State
state_of i position = item_or i.states.items position None

abbrev pub known_of : Subject → Inference → ℕ → Option VerState
known_of s i position = option_map (state_at i.store s.frame) (state_of i position)

abbrev pub marked_of : Inference → ℕ → Bool
marked_of i position = contains nat_cmp i.marked position

-- each position of a set lies in a code of so many bytes
abbrev pub AreWithin : ℕ → BTreeSet ℕ → Type 0
AreWithin n marked = (position : ℕ) → contains nat_cmp marked position ≡ true → position < n

-- the least position of a set from one on, if there is one
abbrev pub IsNext : BTreeSet ℕ → (from : ℕ) → Option ℕ → Type 0
IsNext marked from None = (position : ℕ) → from ≤ position → contains nat_cmp marked position ≡ false
IsNext marked from (Some next) =
    (from ≤ next) × (contains nat_cmp marked next ≡ true) × ((position : ℕ) → from ≤ position → position < next → contains nat_cmp marked position ≡ false)

-- the one operand with which the handler of a row begins
abbrev pub IsCaught : Program → (method : ℕ) → Store → Catch → ℕ → Type 0
IsCaught p m s row operands = IsStack s operands × (operands_at s operands ≡ caught p m row ∷ [])

pub record AreCaught (p : Program) (m : ℕ) (s t : Store) (rows : List Catch) (caught : List ℕ) : Type 0 where
  pub later : IsLater s t
  pub these : AllZip (IsCaught p m t) rows caught

-- a place for each byte of the code, marks in it, and what is known is had by each typing
pub record IsInference (s : Subject) (i : Inference) : Type 0 where
  pub store : IsStore i.store
  pub states : length i.states.items ≡ length s.code.now.bytes
  pub marks : AreWithin (length s.code.now.bytes) i.marked
  pub stands : (position : ℕ) (state : State) → state_of i position ≡ Some state → Stands i.store s.frame state
  pub caught : AllZip (IsCaught s.program.now s.method.0 i.store) s.code.now.catches i.caught.items
  pub inferred : AreInferred s.program.now s.method.0 s.code.now (known_of s i) (marked_of i)

-- ---- what each typing of the method has

abbrev pub IsForcedIn : Subject → (position : ℕ) → VerState → Type 0
IsForcedIn s position state = IsForced s.program.now s.method.0 s.code.now position state

abbrev pub AreForced : Subject → (positions : List ℕ) → VerState → Type 0
AreForced s positions state = All (λ position. IsForcedIn s position state) positions

abbrev pub HasNoTyping : Subject → Type 0
HasNoTyping s = IsUntyped s.program.now s.method.0 s.code.now

-- ---- steps

-- there is no state that both fit, or the least one
abbrev pub HasMerged : Program → Store → Store → Frame → (known state : State) → Option State → Type 0
HasMerged p s t frame known state None = (u : VerState) → StateFits p (state_at s frame known) u → StateFits p (state_at s frame state) u → ⊥
HasMerged p s t frame known state (Some made) = IsLater s t × Stands t frame made × IsMerged p (state_at s frame known) (state_at s frame state) (state_at t frame made)

abbrev pub joint_by : State → Bool → Joint
joint_by both true = Same
joint_by both false = Raised both

-- merged types are those that were known, or above them
abbrev pub joint_of : State → Option State → Joint
joint_of known None = Unlike
joint_of known (Some both) = joint_by both (both.locals == known.locals && both.operands == known.operands)

-- what is known rises
pub record Goes (s : Subject) (i j : Inference) : Type 0 where
  pub inference : IsInference s j
  pub later : IsLater i.store j.store
  pub raised : AreRaised s.program.now (known_of s i) (known_of s j)

-- types that each typing has at a position, above those that are known there
pub record IsRaising (s : Subject) (i : Inference) (position : ℕ) (made : State) : Type 0 where
  pub stands : Stands i.store s.frame made
  pub forced : IsForcedIn s position (state_at i.store s.frame made)
  pub above : (u : VerState) → known_of s i position ≡ Some u → StateFits s.program.now u (state_at i.store s.frame made)

-- and a position, or each of some, is reached with a state
pub record Reaches (s : Subject) (i j : Inference) (position : ℕ) (state : State) : Type 0 where
  pub goes : Goes s i j
  pub reached : IsReached s.program.now (known_of s j) position (state_at i.store s.frame state)

pub record AreReached (s : Subject) (i j : Inference) (positions : List ℕ) (state : State) : Type 0 where
  pub goes : Goes s i j
  pub reached : All (λ position. IsReached s.program.now (known_of s j) position (state_at i.store s.frame state)) positions

-- higher types are found for a position, which a state fits
pub record Rises (s : Subject) (i j : Inference) (position : ℕ) (state made : State) : Type 0 where
  pub goes : Goes s i j
  pub raising : IsRaising s j position made
  pub fitting : StateFits s.program.now (state_at i.store s.frame state) (state_at j.store s.frame made)

abbrev pub IsJoint : Subject → (i j : Inference) → (position : ℕ) → State → Joint → Type 0
IsJoint s i j position state Unlike = HasNoTyping s
IsJoint s i j position state Same = Reaches s i j position state
IsJoint s i j position state (Raised made) = Rises s i j position state made

-- the positions to which an operation leads are reached with what it has made
pub record Leads (s : Subject) (i j : Inference) (at size : ℕ) (o : Operation) (made : State) : Type 0 where
  pub goes : Goes s i j
  pub operands : AreOperands s.code.now (state_at i.store s.frame made)
  pub reached : All (λ position. IsReached s.program.now (known_of s j) position (state_at i.store s.frame made)) (targets_of s.code.now.bytes at size o)

-- the instruction of a position leads on, and its handlers are reached
pub record IsFollowed (s : Subject) (i j : Inference) (at : ℕ) (before : State) : Type 0 where
  pub goes : Goes s i j
  pub leads : LeadsOn s.program.now (known_of s j) (flow_of s.program.now s.method.0 s.code.now at (state_at i.store s.frame before))

-- with what the handler of a row begins
abbrev pub caught_state : Subject → Inference → Catch → (before : State) → VerState
caught_state s i row before = handler_state s.program.now s.method.0 row (state_at i.store s.frame before)

pub record IsHandled (s : Subject) (i j : Inference) (row : Catch) (before : State) : Type 0 where
  pub goes : Goes s i j
  pub reached : IsReached s.program.now (known_of s j) row.handler (caught_state s i row before)

pub record AreHandled (s : Subject) (i j : Inference) (at : ℕ) (before : State) : Type 0 where
  pub goes : Goes s i j
  pub handlers : All (λ row. covers row at ≡ true → IsReached s.program.now (known_of s j) row.handler (caught_state s i row before)) s.code.now.catches

pub record IsLooked (s : Subject) (i j : Inference) (at : ℕ) (before : State) : Type 0 where
  pub goes : Goes s i j
  pub closed : IsClosedAt s.program.now s.method.0 s.code.now (known_of s j) at (state_at i.store s.frame before)

abbrev pub IsClosedIn : Subject → Inference → (at : ℕ) → State → Type 0
IsClosedIn s i at state = IsClosedAt s.program.now s.method.0 s.code.now (known_of s i) at (state_at i.store s.frame state)

-- no typing is there, or nothing is marked any more, or what is known rose
abbrev pub IsSwept : Subject → Inference → Option Bool → Type 0
IsSwept s j None = HasNoTyping s
IsSwept s j (Some true) = IsInference s j
IsSwept s j (Some false) = IsInference s j × ((position : ℕ) → marked_of j position ≡ false)
