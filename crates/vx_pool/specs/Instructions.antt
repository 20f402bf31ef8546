-- The checks of a method's instructions.
use Rattle.std.specs.Prelude.{◌≡◌, IsTrue, ℕ, zero, suc, ◌+◌, ◌-◌, ◌*◌, ◌%◌, ℤ, pos, negsuc, ◌+ℤ◌, List, [], ◌∷◌, ◌++◌, length, take_while, Bool, true, false, Option, Some, None, Result, Ok, is_some, option_and_then, not, nat_lt, nat_le, ◌==◌, ◌&&◌, ◌||◌, slice_index, int_le, int_lt, if◌then◌else◌}
use Rattle.std.specs.List.{list_any}
use Rattle.vx_pool.specs.declared.pool.Entry.{Entry}
use Rattle.vx_pool.specs.declared.pool.Entry.TheVariants as entry
use Rattle.vx_pool.specs.declared.pool.Pool.{Pool}
use Rattle.vx_pool.specs.Reading.{Fault, ◌>>=◌, refuse}
use Rattle.vx_desc.specs.Names.{is_init}
use Rattle.vx_desc.specs.Descriptors.{method_slots}
use Rattle.vx_opcode.specs.declared.instruction.Instruction.{Instruction}
use Rattle.vx_opcode.specs.declared.instruction.Operand.{Operand}
use Rattle.vx_opcode.specs.declared.instruction.Operand.TheVariants as operand
use Rattle.vx_opcode.specs.Numbers.{s4}
use Rattle.vx_opcode.specs.Decode.{count, instruction_at}
use Rattle.vx_pool.specs.Lookups.{entry_of, class, is_field, is_method, is_interface_method, is_invoke_dynamic, class_text, member_name, member_descriptor, is_array}
use Rattle.vx_pool.specs.Checks.{first_failing, each, all_hold}
use Rattle.vx_pool.specs.Entries.{where_read, usable}

abbrev pub between : ℕ → ℕ → ℕ → Bool
between low high n = nat_le low n && nat_le n high

-- ---- locals

-- the local that an instruction reads or writes
abbrev pub local_of : ℕ → Operand → Option ℕ
local_of op (operand.Local n) = Some n
local_of op (operand.Increment n by) = Some n
local_of op operand.Nothing = if between 0x1a 0x2d op then Some ((op - 0x1a) % 4) else if between 0x3b 0x4e op then Some ((op - 0x3b) % 4) else None
local_of op _ = None

-- the loads and stores of a long
abbrev pub is_long_local : ℕ → Bool
is_long_local op = (op == 0x16 || op == 0x37) || (between 0x1e 0x21 op || between 0x3f 0x42 op)

-- a local is below max_locals, and so is the second one of a long
abbrev pub local_fits : ℕ → ℕ → Operand → Bool
local_fits max_locals op o = fits (local_of op o)
  where
    fits : Option ℕ → Bool
    fits None = true
    fits (Some n) = nat_lt (if is_long_local op then n + 1 else n) max_locals

-- ---- entries of the pool

-- what ldc may load
abbrev pub is_loadable : Option Entry → Bool
is_loadable (Some (entry.Integer n)) = true
is_loadable (Some (entry.Float n)) = true
is_loadable (Some (entry.Text i)) = true
is_loadable (Some (entry.Class i)) = true
is_loadable (Some (entry.MethodHandle kind i)) = true
is_loadable (Some (entry.MethodType i)) = true
is_loadable _ = false

abbrev pub is_wide_constant : Option Entry → Bool
is_wide_constant (Some (entry.Long n)) = true
is_wide_constant (Some (entry.Double n)) = true
is_wide_constant _ = false

-- the kinds of entry that an opcode may name; invokespecial and invokestatic name a method of an interface from major version 52 on
abbrev pub is_kind_for : ℕ → ℕ → Option Entry → Bool
is_kind_for major op e =
    if nat_le op 0x13 then is_loadable e
    else if nat_le op 0x14 then is_wide_constant e
    else if nat_le op 0xb5 then is_field e
    else if nat_le op 0xb6 then is_method e
    else if nat_le op 0xb8 then is_method e || (major == 52 && is_interface_method e)
    else if nat_le op 0xb9 then is_interface_method e
    else if nat_le op 0xba then is_invoke_dynamic e
    else is_some (class e)

-- the name and type of a method that is called
abbrev pub called : Option Entry → Option ℕ
called (Some (entry.Method c n)) = Some n
called (Some (entry.InterfaceMethod c n)) = Some n
called _ = None

-- a name that begins with < is called only by invokespecial, and is then <init>
abbrev pub is_callable : ℕ → List ℕ → Bool
is_callable op name = if slice_index name 0 == 60 then op == 0xb7 && is_init name else true

abbrev pub dimensions : List ℕ → ℕ
dimensions name = length (take_while (λ b. b == 91) name)

-- the receiver and the arguments
abbrev pub has_slots : ℕ → List ℕ → Bool
has_slots n descriptor = has (method_slots descriptor)
  where
    has : Option ℕ → Bool
    has None = false
    has (Some slots) = slots + 1 == n

-- ---- the checks of an instruction in their order, each with its reason

abbrev pub pool_checks : Pool → ℕ → ℕ → ℕ → List (Bool × ℕ)
pool_checks pool major op i =
    (usable pool i, 5)
    ∷ (is_kind_for major op (entry_of pool i), 6)
    ∷ (where_read (is_callable op) (option_and_then (member_name pool) (called (entry_of pool i))), 6)
    ∷ []

abbrev pub operand_checks : Pool → ℕ → ℕ → ℕ → Operand → List (Bool × ℕ)
operand_checks pool major max_locals op (operand.Pool i) =
    pool_checks pool major op i
    ++ (not (op == 0xbb) || where_read (λ name. not (is_array name)) (class_text pool i), 6)
    ∷ (not (op == 0xbd) || where_read (λ name. nat_lt (dimensions name) 255) (class_text pool i), 12)
    ∷ []
operand_checks pool major max_locals op (operand.Interface i n) =
    pool_checks pool major op i
    ++ (where_read (has_slots n) (option_and_then (member_descriptor pool) (called (entry_of pool i))), 12)
    ∷ []
operand_checks pool major max_locals op (operand.Dimensions i n) =
    pool_checks pool major op i
    ++ (nat_le 1 n && where_read (λ name. nat_le n (dimensions name)) (class_text pool i), 12)
    ∷ []
operand_checks pool major max_locals op o = (local_fits max_locals op o, 5) ∷ []

-- ---- a walk over the code, whose first byte stands at base

abbrev pub given : ℕ → Option Instruction → Result Instruction Fault
given at None = refuse at 10
given at (Some i) = Ok i

-- the instruction at a place
abbrev pub whole_at : List ℕ → ℕ → ℕ → Result Instruction Fault
whole_at code base at = given (base + at) (instruction_at code at)

-- the instruction at a place, which meets its checks but for its jumps
unfoldable pub checked_at : Pool → ℕ → ℕ → List ℕ → ℕ → ℕ → Result Instruction Fault
checked_at pool major max_locals code base at = do
  i ← whole_at code base at
  _ ← first_failing (base + at) (operand_checks pool major max_locals i.opcode i.operand)
  Ok i

-- the places from one on where instructions stand, behind those that are there; there are at most as many as the first number
unfoldable pub walk : (ℕ → Result Instruction Fault) → ℕ → List ℕ → ℕ → ℕ → Result (List ℕ) Fault
walk look end front zero at = Ok front
walk look end front (suc n) at = if nat_lt at end then (look at >>= λ i. walk look end (front ++ at ∷ []) n (at + i.length)) else Ok front

-- the places where instructions stand
abbrev pub starts_of : Pool → ℕ → ℕ → List ℕ → ℕ → Result (List ℕ) Fault
starts_of pool major max_locals code base = walk (checked_at pool major max_locals code base) (length code) [] (length code) 0

-- ---- jumps

abbrev pub is_start : List ℕ → ℕ → Bool
is_start starts at = list_any (λ s. s == at) starts

-- a jump from a place
abbrev pub is_target : List ℕ → ℕ → ℤ → Bool
is_target starts at jump = is (pos at +ℤ jump)
  where
    is : ℤ → Bool
    is (pos n) = is_start starts n
    is (negsuc n) = false

abbrev pub all_below : ℕ → (ℕ → Bool) → Bool
all_below zero test = true
all_below (suc n) test = all_below n test && test n

abbrev pub jump_checks : List ℕ → List ℕ → ℕ → Operand → List (Bool × ℕ)
jump_checks starts code at (operand.Jump jump) = (is_target starts at jump, 11) ∷ []
jump_checks starts code at (operand.Table fallback low high first) =
    (is_target starts at fallback && all_below (count low high) (λ k. is_target starts at (s4 code (first + 4 * k))), 11)
    ∷ (int_le low high, 12)
    ∷ []
jump_checks starts code at (operand.Lookup fallback pairs first) =
    (is_target starts at fallback && all_below pairs (λ k. is_target starts at (s4 code (first + 4 + 8 * k))), 11)
    ∷ (all_below (pairs - 1) (λ k. int_lt (s4 code (first + 8 * k)) (s4 code (first + 8 * k + 8))), 12)
    ∷ []
jump_checks starts code at _ = []

abbrev pub jumps_at : List ℕ → List ℕ → ℕ → ℕ → Result (Unit {0}) Fault
jumps_at starts code base at = whole_at code base at >>= λ i. first_failing (base + at) (jump_checks starts code at i.operand)

abbrev pub jumps_checked : List ℕ → List ℕ → ℕ → Result (Unit {0}) Fault
jumps_checked starts code base = each (λ at _. jumps_at starts code base at) (λ _. 0) starts 0

-- ---- code whose instructions meet their checks

-- instructions one after the other, from a place to the end of the code
abbrev pub AreInstructions : List ℕ → ℕ → List ℕ → Type 0
AreInstructions code at [] = at ≡ length code
AreInstructions code at (start ∷ others) =
    (start ≡ at) × (i : Instruction) × (instruction_at code at ≡ Some i) × AreInstructions code (at + i.length) others

-- the instruction at a place meets its checks but for its jumps
abbrev pub OperandHolds : Pool → ℕ → ℕ → List ℕ → ℕ → Type 0
OperandHolds pool major max_locals code at =
    (i : Instruction) × (instruction_at code at ≡ Some i) × IsTrue (all_hold (operand_checks pool major max_locals i.opcode i.operand))

-- the jumps of the instruction at a place lead to instructions, and a switch is in order
abbrev pub JumpsHold : List ℕ → List ℕ → ℕ → Type 0
JumpsHold starts code at = (i : Instruction) × (instruction_at code at ≡ Some i) × IsTrue (all_hold (jump_checks starts code at i.operand))
