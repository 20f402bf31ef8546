-- The plain state of the ordinary machine (JVMS 2.5, 2.6), what one attempt may come to, and what an instruction sees.
use Rattle.std.specs.Prelude.{Bool, List, None, Option, Some, [], codes, decimal, false, length, nat_le, position, slice_set, suc, true, ℕ, ℤ, ◌++◌, ◌+◌, ◌∷◌}
use Prim.Native.String.{String}
use Rattle.vx_class.specs.declared.class_file.Code.{Code}
use Rattle.vx_link.specs.ClassNames.{core_class}
use Rattle.vx_link.specs.Parts.{class_at, method_at}
use Rattle.vx_link.specs.declared.program.LinkedMethod.{LinkedMethod}
use Rattle.vx_link.specs.declared.program.Program.{Program}
use Rattle.vx_list.specs.Places.{item_or}
use Rattle.vx_pool.specs.declared.pool.Pool.{Pool}
use Rattle.vx_value.specs.declared.end.End.{End}
use Rattle.vx_value.specs.declared.end.End.TheVariants.{Illegal, Unsupported}
use Rattle.vx_value.specs.declared.end.Stream.{Stream}
use Rattle.vx_value.specs.declared.key.Kind.{Kind}
use Rattle.vx_value.specs.declared.slot.InitState.{InitState}
use Rattle.vx_value.specs.declared.slot.InitState.TheVariants.{Done}

-- ---- the state

-- a value; nothing stands in a local that cannot be read, and a text only in the text cell of a String or StringBuilder
pub data Value : Type 0 where
  Top : Value
  Int : (n : ℤ) → Value
  Long : (n : ℤ) → Value
  Null : Value
  Ref : (object : ℕ) → Value
  Text : (units : List ℕ) → Value

-- an object: an array has one cell per index, another object one per instance field of its class and superclasses
pub record Object : Type 0 where
  pub class : ℕ
  pub size : ℕ
  pub cells : List Value

-- a frame; the operand on top is first
pub record Frame : Type 0 where
  pub kind : Kind
  pub method : ℕ
  pub position : ℕ
  pub locals : List Value
  pub operands : List Value

-- a state: a reference is a place in the heap; a value per field, of which the static ones count; an initialisation state per class; the frame on top and its callers, the nearest first
pub record State : Type 0 where
  pub heap : List Object
  pub statics : List Value
  pub inits : List InitState
  pub top : Frame
  pub callers : List Frame

-- what a row of the instruction table, a native method or a beginning comes to
pub data Outcome : Type 0 where
  Go : (state : State) → Outcome
  Raise : (class : ℕ) → (message : Option (List ℕ)) → (state : State) → Outcome
  Throw : (object : ℕ) → (state : State) → Outcome
  Begin : (class : ℕ) → (state : State) → Outcome
  Native : (method : ℕ) → (state : State) → Outcome
  Write : (stream : Stream) → (units : List ℕ) → (state : State) → Outcome
  Ended : (end : End) → Outcome

-- what an outcome leads to: a state, or the end of the run
pub data Next : Type 0 where
  Goes : (state : State) → Next
  Ends : (end : End) → Next

-- ---- bounds

-- the most frames that a run may have
abbrev pub frame_bound : ℕ
frame_bound = 1024

-- the greatest length of an array or a text, and the most cells that one instruction makes
abbrev pub length_bound : ℕ
length_bound = 1048576

-- ---- parts of the state

-- how many frames a state has
abbrev pub depth : State → ℕ
depth s = suc (length s.callers)

abbrev pub no_object : Object
no_object = record { class = 0; size = 0; cells = [] }

abbrev pub object_at : State → ℕ → Object
object_at s r = item_or s.heap r no_object

abbrev pub cell_at : State → (object cell : ℕ) → Value
cell_at s r i = item_or (object_at s r).cells i Top

abbrev pub init_at : List InitState → ℕ → InitState
init_at inits c = item_or inits c Done

-- a state whose object has other cells, or another value in one cell
abbrev pub with_cells : State → (object : ℕ) → List Value → State
with_cells s r cells = record s { heap = slice_set s.heap r (record (object_at s r) { cells = cells }) }

abbrev pub with_cell : State → (object cell : ℕ) → Value → State
with_cell s r i v = with_cells s r (slice_set (object_at s r).cells i v)

-- a state with objects at the end of its heap, the first of them at the old length
abbrev pub with_objects : State → List Object → State
with_objects s objects = record s { heap = s.heap ++ objects }

abbrev pub next_object : State → ℕ
next_object s = length s.heap

abbrev pub with_static : State → ℕ → Value → State
with_static s f v = record s { statics = slice_set s.statics f v }

-- the initialisation states with that of some classes replaced
abbrev pub inits_with : List InitState → InitState → List ℕ → List InitState
inits_with inits i [] = inits
inits_with inits i (c ∷ cs) = inits_with (slice_set inits c i) i cs

abbrev pub with_inits : State → InitState → List ℕ → State
with_inits s i classes = record s { inits = inits_with s.inits i classes }

-- the class whose method stands on top
abbrev pub current_class : Program → State → ℕ
current_class p s = (method_at p s.top.method).class.0

-- a long counts two
abbrev pub width : Value → ℕ
width (Long n) = 2
width _ = 1

abbrev pub stack_size : List Value → ℕ
stack_size [] = 0
stack_size (v ∷ vs) = width v + stack_size vs

-- ---- places

-- CLASS.NAMEDESC
abbrev pub method_text : Program → LinkedMethod → List ℕ
method_text p m = (class_at p m.class.0).name ++ (codes "." ++ (m.name ++ m.descriptor))

-- CLASS.NAMEDESC@POSITION
abbrev pub place_at : Program → (method position : ℕ) → List ℕ
place_at p method position = method_text p (method_at p method) ++ (codes "@" ++ decimal position)

-- that of the frame on top
abbrev pub place : Program → State → List ℕ
place p s = place_at p s.top.method s.top.position

abbrev pub illegal_in : Program → State → Outcome
illegal_in p s = Ended (Illegal (place p s))

abbrev pub unsupported_in : Program → State → (word : ℕ) → (what : List ℕ) → Outcome
unsupported_in p s word what = Ended (Unsupported word what (place p s))

-- ---- what an instruction sees

-- the program and the state, the code and the pool of the method on top, and the length of the instruction
pub record Here : Type 0 where
  pub program : Program
  pub state : State
  pub code : Code
  pub pool : Pool
  pub size : ℕ

-- the same in another state
abbrev pub in_state : Here → State → Here
in_state h s = record h { state = s }

-- the state breaks a rule of the instruction
abbrev pub illegal : Here → Outcome
illegal h = illegal_in h.program h.state

-- something outside the accepted language: its word and what it names
abbrev pub unsupported : Here → (word : ℕ) → (what : List ℕ) → Outcome
unsupported h word what = unsupported_in h.program h.state word what

-- the state in which the top frame stands at a position with these operands
abbrev pub at_position : State → ℕ → List Value → State
at_position s position operands = record s { top = record (s.top) { position = position; operands = operands } }

-- past the instruction, with these operands, in a state that may have other objects and statics
abbrev pub past : Here → State → List Value → State
past h s operands = at_position s (s.top.position + h.size) operands

-- goes on past the instruction with these operands
abbrev pub go : Here → List Value → Outcome
go h operands = Go (past h h.state operands)

-- one outcome or another; an outcome that is a call is computed only where it is taken
abbrev pub when : Bool → Outcome → Outcome → Outcome
when true a b = a
when false a b = b

-- operands fit in a method's greatest stack: a row asks it where it pushes, after its pops, and nowhere else
abbrev pub fit : Here → List Value → Bool
fit h operands = nat_le (stack_size operands) h.code.max_stack

-- and a value of a width on these operands
abbrev pub has_room : Here → (width : ℕ) → List Value → Bool
has_room h n operands = nat_le (n + stack_size operands) h.code.max_stack

-- goes on past the instruction with these operands, if they fit
abbrev pub settle : Here → List Value → Outcome
settle h operands = when (fit h operands) (go h operands) (illegal h)

-- pushes a value on these operands, and goes on past the instruction
abbrev pub push : Here → Value → List Value → Outcome
push h v operands = settle h (v ∷ operands)

-- a new object at the end of the heap, pushed on operands that have room
abbrev pub push_new : Here → Object → List Value → Outcome
push_new h o operands = Go (past h (with_objects h.state (o ∷ [])) (Ref (next_object h.state) ∷ operands))

-- raises a core class, with no message or with one
abbrev pub raise : Here → String → Outcome
raise h class = Raise (core_class h.program class) None h.state

abbrev pub raise_with : Here → String → (message : List ℕ) → Outcome
raise_with h class message = Raise (core_class h.program class) (Some message) h.state
