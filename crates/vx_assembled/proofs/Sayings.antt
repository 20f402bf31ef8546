-- What a line of a source says: numbers in their ranges, names in plain words, operands that fit their opcode.
use Rattle.std.specs.Prelude.{◌≡◌, ℕ, ℤ, pos, ◌+ℤ◌, ◌<◌, ◌≤◌, List, length, Bool, true, false, Option, Some, None, ◌⊎◌, ◌==◌, int_le, FitsSigned}
use Rattle.std.specs.Int.{w8, w16, w32, w64}
use Rattle.std.specs.List.{AllByRecursion}
use Rattle.vx_opcode.specs.declared.shape.Shape.TheVariants as shape
use Rattle.vx_opcode.specs.Table.{shape_of}
use Rattle.vx_pool.specs.Text.{is_text}
use Rattle.vx_source.specs.declared.lines.Said.{Said}
use Rattle.vx_source.specs.declared.lines.Said.TheVariants as said
use Rattle.vx_source.specs.declared.lines.SourceLine.{SourceLine}
use Rattle.vx_source.specs.declared.statement.Instruction.{Instruction}
use Rattle.vx_source.specs.declared.statement.Member.{Member}
use Rattle.vx_source.specs.declared.statement.Operand.{Operand}
use Rattle.vx_source.specs.declared.statement.Operand.TheVariants as operand
use Rattle.vx_source.specs.declared.statement.Room.{Room}
use Rattle.vx_source.specs.declared.statement.Statement.{Statement}
use Rattle.vx_source.specs.declared.statement.Statement.TheVariants as statement
use Rattle.vx_source.specs.declared.statement.Value.{Value}
use Rattle.vx_source.specs.declared.statement.Value.TheVariants as value
use Rattle.vx_assembled.proofs.Operands.{is_among, LOADS, CLASSES, FIELDS, CALLS, OWN_CALLS}
use Rattle.vx_assembled.proofs.Texts.{IsTextOf}

abbrev pub IsWord : List ℕ → Type 0
IsWord word = is_text word ≡ true

-- ---- operands

-- the number of bipush, of sipush, and of newarray
abbrev pub IsSaidNumber : ℕ → ℤ → Type 0
IsSaidNumber op n = ((op ≡ 0x10) × FitsSigned w8 n) ⊎ (((op ≡ 0x11) × FitsSigned w16 n) ⊎ ((op ≡ 0xbc) × (k : ℕ) × (n ≡ pos k) × (4 ≤ k) × (k ≤ 11)))

abbrev pub IsSaidText : Option (List ℕ) → Type 0
IsSaidText None = Unit {0}
IsSaidText (Some text) = IsTextOf text

-- a field, a method, a method that may be one of an interface, and a method of an interface
abbrev pub IsMemberFor : ℕ → Bool → Type 0
IsMemberFor op interface =
    (is_among FIELDS op ≡ true) ⊎ (((is_among CALLS op ≡ true) × (interface ≡ false)) ⊎ (((is_among OWN_CALLS op ≡ true) × (interface ≡ true)) ⊎ (op ≡ 0xb9)))

pub record IsSaidMember (op : ℕ) (m : Member) : Type 0 where
  pub for_op : IsMemberFor op m.interface
  pub class : IsWord m.class
  pub name : IsWord m.name
  pub descriptor : IsWord m.descriptor

-- goto_w jumps by four bytes
abbrev pub IsSaidJump : ℕ → Type 0
IsSaidJump op = ((shape_of op ≡ Some shape.Jump) × ((op == 0xc8) ≡ false)) ⊎ (op ≡ 0xc8)

abbrev pub IsSaidOperand : Bool → ℕ → Operand → Type 0
IsSaidOperand false op operand.Nothing = shape_of op ≡ Some shape.Plain
IsSaidOperand false op (operand.Number n) = IsSaidNumber op n
IsSaidOperand false op (operand.Int n) = (is_among LOADS op ≡ true) × FitsSigned w32 n
IsSaidOperand false op (operand.Long n) = (op ≡ 0x14) × FitsSigned w64 n
IsSaidOperand false op (operand.Text text) = (is_among LOADS op ≡ true) × IsSaidText text
IsSaidOperand false op (operand.Class name) = ((is_among LOADS op ≡ true) ⊎ (is_among CLASSES op ≡ true)) × IsWord name
IsSaidOperand false op (operand.Local n) = (shape_of op ≡ Some shape.Local) × (n < 256)
IsSaidOperand false op (operand.Increment n k) = (shape_of op ≡ Some shape.Increment) × (n < 256) × FitsSigned w8 k
IsSaidOperand false op (operand.Jump label) = IsSaidJump op
IsSaidOperand false op (operand.Member m) = IsSaidMember op m
IsSaidOperand false op (operand.Dimensions name n) = (op ≡ 0xc5) × IsWord name × (n < 256)
IsSaidOperand false op (operand.Table t) = (op ≡ 0xaa) × FitsSigned w32 t.low × (1 ≤ length t.labels) × (int_le (t.low +ℤ pos (length t.labels)) (pos 0x8000_0000) ≡ true)
IsSaidOperand false op (operand.Lookup l) = (op ≡ 0xab) × AllByRecursion (λ c. FitsSigned w32 c.key) l.cases
IsSaidOperand true op (operand.Local n) = (shape_of op ≡ Some shape.Local) × (n < 65536)
IsSaidOperand true op (operand.Increment n k) = (shape_of op ≡ Some shape.Increment) × (n < 65536) × FitsSigned w16 k
IsSaidOperand true op _ = ⊥

pub record IsSaidInstruction (i : Instruction) : Type 0 where
  pub few : i.opcode < 256
  pub operand : IsSaidOperand i.wide i.opcode i.operand

-- ---- statements

abbrev pub IsSaidValue : Value → Type 0
IsSaidValue value.Nothing = Unit {0}
IsSaidValue (value.Int n) = FitsSigned w32 n
IsSaidValue (value.Long n) = FitsSigned w64 n
IsSaidValue (value.Text text) = IsSaidText text

abbrev pub IsSaidRoom : Option Room → Type 0
IsSaidRoom None = Unit {0}
IsSaidRoom (Some room) = (room.max_stack < 65536) × (room.max_locals < 65536)

abbrev pub IsSaidClass : Option (List ℕ) → Type 0
IsSaidClass None = Unit {0}
IsSaidClass (Some name) = IsWord name

abbrev pub IsSaid : Statement → Type 0
IsSaid (statement.Version major) = (45 ≤ major) × (major ≤ 52)
IsSaid (statement.Class line) = (line.flags < 65536) × IsWord line.name × IsWord line.super_class
IsSaid (statement.Implements name) = IsWord name
IsSaid (statement.Field line) = (line.flags < 65536) × IsWord line.name × IsWord line.descriptor × IsSaidValue line.value
IsSaid (statement.Method line) = (line.flags < 65536) × IsWord line.name × IsWord line.descriptor × IsSaidRoom line.room
IsSaid statement.End = Unit {0}
IsSaid (statement.Label name) = Unit {0}
IsSaid (statement.Catch line) = IsSaidClass line.class
IsSaid (statement.Instruction i) = IsSaidInstruction i

-- whether a line with such a statement ends a body
abbrev pub ends : Statement → Bool
ends (statement.Label name) = false
ends (statement.Catch line) = false
ends (statement.Instruction i) = false
ends _ = true

abbrev pub IsSaidIn : Bool → Said → Type 0
IsSaidIn ends_body (said.Refused reason) = Unit {0}
IsSaidIn ends_body (said.Statement s) = IsSaid s × (ends_body ≡ ends s)

-- what holds of each line of a source
abbrev pub IsLine : SourceLine → Type 0
IsLine line = IsSaidIn line.ends_body line.said
