-- What an instruction makes of the types before it, and where it leads (JVMS 4.10.2.2).
use Rattle.std.specs.List.{list_all, list_any, range_with_len}
use Rattle.std.specs.Prelude.{Bool, List, None, Option, Some, [], false, if◌then◌else◌, length, map, nat_le, nat_lt, option_and_then, option_map, pos, slice_set, suc, true, zero, ℕ, ℤ, ◌&&◌, ◌*◌, ◌++◌, ◌+ℤ◌, ◌+◌, ◌∷◌, ◌≤◌}
use Rattle.vx_class.specs.declared.class_file.Code.{Code}
use Rattle.vx_java.specs.Operation.{operation_of}
use Rattle.vx_java.specs.StackForms.{lower, upper}
use Rattle.vx_java.specs.declared.operation.Operation.{Operation}
use Rattle.vx_java.specs.declared.operation.Operation.TheVariants.{Goto, IfInt, IfInts, IfNull, IfSame, SwitchLookup, SwitchTable}
use Rattle.vx_java.specs.declared.operation.Shuffle.{Shuffle}
use Rattle.vx_java.specs.declared.operation.Shuffle.TheVariants.{Pop, Pop2, Swap}
use Rattle.vx_java.specs.declared.operation.Sort.{Sort}
use Rattle.vx_java.specs.declared.operation.Sort.TheVariants as sort
use Rattle.vx_link.specs.declared.program.Program.{Program}
use Rattle.vx_list.specs.Places.{item_or}
use Rattle.vx_opcode.specs.Decode.{count, instruction_at}
use Rattle.vx_opcode.specs.Numbers.{s4}
use Rattle.vx_opcode.specs.declared.instruction.Instruction.{Instruction}
use Rattle.vx_types.specs.Fits.{fits}
use Rattle.vx_types.specs.Rows.{row_of}
use Rattle.vx_types.specs.Types.{VerState}
use Rattle.vx_types.specs.declared.types.Row.{Row}
use Rattle.vx_types.specs.declared.types.Row.TheVariants.{Ends, Increase, Leaves, Load, LoadReference, Move, Refused, Store, Takes}
use Rattle.vx_types.specs.declared.types.VerType.{VerType}
use Rattle.vx_types.specs.declared.types.VerType.TheVariants.{Int, Long, Null, Ref, Top}
use Rattle.vx_types.specs.declared.types.Want.{Want}
use Rattle.vx_types.specs.declared.types.Want.TheVariants.{Fits, FitsBoth, FitsOne, OfSort}
use Rattle.vx_value.specs.Arithmetic.{natural}

-- ---- what stands on the operands

abbrev pub is_of : Sort → VerType → Bool
is_of sort.Int Int = true
is_of sort.Long Long = true
is_of sort.Reference Null = true
is_of sort.Reference (Ref d e) = true
is_of _ _ = false

abbrev pub meets : Program → Want → VerType → Bool
meets p (OfSort s) t = is_of s t
meets p (Fits wanted) t = fits p t wanted
meets p (FitsBoth one other) t = fits p t one && fits p t other
meets p (FitsOne these) t = list_any (fits p t) these

-- the operands under those that are wanted, where each of these is there
abbrev pub taken : Program → List Want → List VerType → Option (List VerType)
taken p [] operands = Some operands
taken p (w ∷ ws) [] = None
taken p (w ∷ ws) (t ∷ ts) = if meets p w t then taken p ws ts else None

abbrev pub put : Option VerType → List VerType → List VerType
put None operands = operands
put (Some t) operands = t ∷ operands

-- a long counts two, and so does what may be one
abbrev pub width : VerType → ℕ
width Long = 2
width Top = 2
width _ = 1

abbrev pub stack_size : List VerType → ℕ
stack_size [] = 0
stack_size (t ∷ ts) = width t + stack_size ts

-- ---- local variables

-- a local variable that holds the first half of a long cannot be read once its second half is overwritten
abbrev pub unless_long : VerType → VerType
unless_long Long = Top
unless_long t = t

abbrev pub without_half : List VerType → ℕ → List VerType
without_half locals zero = locals
without_half locals (suc n) = slice_set locals n (unless_long (item_or locals n Top))

-- the value at n; a long takes n + 1 too, which cannot be read
abbrev pub locals_with : List VerType → ℕ → VerType → List VerType
locals_with locals n Long = slice_set (slice_set (without_half locals n) n Long) (n + 1) Top
locals_with locals n t = slice_set (without_half locals n) n t

abbrev pub load : Sort → VerType → VerState → Option VerState
load s t before = if is_of s t then Some (record before { operands = t ∷ before.operands }) else None

abbrev pub store_top : Sort → ℕ → List VerType → List VerType → Option VerState
store_top s n locals [] = None
store_top s n locals (t ∷ operands) = if is_of s t then Some (record { locals = locals_with locals n t; operands = operands }) else None

-- ---- the stack forms

-- so many words of types off the top, and the types under them; none where types lack, one cannot be read, or a long would be divided
abbrev pub words : ℕ → List VerType → Option (List VerType × List VerType)
words zero operands = Some ([], operands)
words (suc n) [] = None
words (suc n) (Top ∷ operands) = None
words (suc zero) (Long ∷ operands) = None
words (suc (suc n)) (Long ∷ operands) = option_map (λ t. (Long ∷ t.0, t.1)) (words n operands)
words (suc n) (t ∷ operands) = option_map (λ r. (t ∷ r.0, r.1)) (words n operands)

-- the types in their new order, as the machine puts the values
abbrev pub types_reordered : Shuffle → List VerType → List VerType → List VerType → List VerType
types_reordered Pop a b rest = rest
types_reordered Pop2 a b rest = rest
types_reordered Swap a b rest = b ++ (a ++ rest)
types_reordered _ a b rest = a ++ (b ++ (a ++ rest))

abbrev pub moved_from : Shuffle → List VerType × List VerType → Option (List VerType)
moved_from form top = option_map (λ under. types_reordered form top.0 under.0 under.1) (words (lower form) top.1)

abbrev pub moved : Shuffle → List VerType → Option (List VerType)
moved form operands = option_and_then (moved_from form) (words (upper form) operands)

-- ---- arrays of references

-- the component of an array of references; that of null is null
abbrev pub component : VerType → Option VerType
component Null = Some Null
component (Ref (suc d) e) = Some (Ref d e)
component _ = None

abbrev pub load_reference : List VerType → Option (List VerType)
load_reference (Int ∷ array ∷ rest) = option_map (λ t. t ∷ rest) (component array)
load_reference _ = None

-- ---- a row at a state

abbrev pub with_operands : VerState → Option (List VerType) → Option VerState
with_operands s operands = option_map (λ these. record s { operands = these }) operands

-- what a row makes of a state that has what it needs
abbrev pub after : Program → Row → VerState → Option VerState
after p Refused s = None
after p Ends s = Some s
after p (Leaves wanted) s = option_map (λ rest. s) (taken p wanted s.operands)
after p (Takes wanted given) s = with_operands s (option_map (put given) (taken p wanted s.operands))
after p (Load kind n) s = load kind (item_or s.locals n Top) s
after p (Store kind n) s = store_top kind n s.locals s.operands
after p (Increase n) s = if is_of sort.Int (item_or s.locals n Top) then Some s else None
after p (Move form) s = with_operands s (moved form s.operands)
after p LoadReference s = with_operands s (load_reference s.operands)

-- ---- where an instruction leads

abbrev pub target : (at : ℕ) → ℤ → ℕ
target at offset = natural (pos at +ℤ offset)

-- the jump that stands so many bytes from a place on, for each of so many keys
abbrev pub targets_from : List ℕ → (at first step keys : ℕ) → List ℕ
targets_from code at first step keys = map (λ k. target at (s4 code (first + step * k))) (range_with_len 0 keys)

-- the positions to which an operation leads, whose instruction has so many bytes
abbrev pub targets_of : List ℕ → (at size : ℕ) → Operation → List ℕ
targets_of code at size (IfInt test offset) = target at offset ∷ (at + size) ∷ []
targets_of code at size (IfInts test offset) = target at offset ∷ (at + size) ∷ []
targets_of code at size (IfSame wanted offset) = target at offset ∷ (at + size) ∷ []
targets_of code at size (IfNull wanted offset) = target at offset ∷ (at + size) ∷ []
targets_of code at size (Goto offset) = target at offset ∷ []
targets_of code at size (SwitchTable fallback low high first) = target at fallback ∷ targets_from code at first 4 (count low high)
targets_of code at size (SwitchLookup fallback pairs first) = target at fallback ∷ targets_from code at (first + 4) 8 pairs
targets_of code at size _ = (at + size) ∷ []

-- the jumps of a switch lie in the code
abbrev pub EntriesFit : List ℕ → Operation → Type 0
EntriesFit code (SwitchTable fallback low high first) = first + 4 * count low high ≤ length code
EntriesFit code (SwitchLookup fallback pairs first) = first + 8 * pairs ≤ length code
EntriesFit code _ = Unit {0}

-- nothing follows a return, a thrown object, and what program and instruction end
abbrev pub targets_by : Row → List ℕ → List ℕ
targets_by Ends targets = []
targets_by (Leaves wanted) targets = []
targets_by _ targets = targets

-- ---- an instruction

-- an instruction is refused, or makes a state of the state before it, with which each of the positions to which it leads is reached
pub data Flow : Type 0 where
  Refuses : Flow
  Next : (after : VerState) → (targets : List ℕ) → Flow

-- the operands fit in the method's greatest stack, and each position lies in the code
abbrev pub settled : Code → List ℕ → Option VerState → Flow
settled code targets None = Refuses
settled code targets (Some s) =
    if nat_le (stack_size s.operands) code.max_stack && list_all (λ t. nat_lt t (length code.bytes)) targets then Next s targets else Refuses

abbrev pub flow_by : Program → Code → (at size : ℕ) → Operation → Row → VerState → Flow
flow_by p code at size o row before = settled code (targets_by row (targets_of code.bytes at size o)) (after p row before)

abbrev pub flow_from : Program → (method : ℕ) → Code → (at : ℕ) → Option Instruction → VerState → Flow
flow_from p m code at None before = Refuses
flow_from p m code at (Some i) before = flow_by p code at i.length (operation_of i) (row_of p m (operation_of i)) before

-- what the instruction at a position of a method's code makes of the types before it
abbrev pub flow_of : Program → (method : ℕ) → Code → (at : ℕ) → VerState → Flow
flow_of p m code at before = flow_from p m code at (instruction_at code.bytes at) before
