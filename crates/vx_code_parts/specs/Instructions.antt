-- One instruction of a body: its labels, its rules, the constant that it needs, and its draft.
use Rattle.std.specs.Prelude.{ℕ, ℤ, ◌+◌, List, [], ◌∷◌, ◌++◌, map, Bool, true, not, is_some, nat_le, nat_lt, int_lt, ◌==◌, ◌&&◌, ◌||◌, Option, Some, None, unwrap_or, Ok, if◌then◌else◌}
use Rattle.std.specs.List.{list_all}
use Rattle.std.specs.Int.{w16, w32, cast_unsigned}
use Rattle.byteorder.specs.Endian.{big_bytes}
use Rattle.vx_class.specs.Spelling.{u2}
use Rattle.vx_opcode.specs.declared.instruction.Operand.TheVariants as plain
use Rattle.vx_pool.specs.Instructions.{local_of, is_long_local, is_callable, dimensions}
use Rattle.vx_source_words.specs.Reading.{Read, check}
use Rattle.vx_source.specs.declared.statement.Operand.{Operand}
use Rattle.vx_source.specs.declared.statement.Operand.TheVariants as operand
use Rattle.vx_source.specs.declared.statement.Member.{Member}
use Rattle.vx_source.specs.declared.statement.Case.{Case}
use Rattle.vx_source.specs.declared.statement.Instruction.{Instruction}
use Rattle.vx_code_parts.specs.Bodies.{find_label}
use Rattle.vx_class_parts.specs.Rules.{is_lawful_class, is_plain_class, is_lawful_field, is_lawful_method, interface_slots, has_dimensions}
use Rattle.vx_code_parts.specs.declared.labels.Labels.{Labels}
use Rattle.vx_class_parts.specs.declared.constants.Constant.{Constant}
use Rattle.vx_class_parts.specs.declared.constants.Constant.TheVariants as constant
use Rattle.vx_class_parts.specs.declared.constants.Kind.{Kind}
use Rattle.vx_class_parts.specs.declared.constants.Kind.TheVariants as kind
use Rattle.vx_code_parts.specs.declared.drafts.Draft.{Draft}
use Rattle.vx_code_parts.specs.declared.drafts.Draft.TheVariants as draft
use Rattle.vx_code_parts.specs.declared.drafts.Row.{Row}

-- ---- labels

-- the number of the instruction behind a label, or 0
abbrev pub number_of : Labels → List ℕ → ℕ
number_of labels name = unwrap_or (find_label labels.labels name) 0

abbrev pub is_known : Labels → List ℕ → Bool
is_known labels name = is_some (find_label labels.labels name)

-- an instruction stands behind a label
abbrev pub leads : Labels → List ℕ → Bool
leads labels name = nat_lt (number_of labels name) labels.instructions

-- a test of each label of an operand
abbrev pub all_labels : (List ℕ → Bool) → Operand → Bool
all_labels test (operand.Jump label) = test label
all_labels test (operand.Table table) = test table.fallback && list_all test table.labels
all_labels test (operand.Lookup lookup) = test lookup.fallback && list_all (λ c. test c.label) lookup.cases
all_labels test _ = true

-- ---- rules

-- a static call of a method of an interface stands only in version 52
abbrev pub is_of_version : ℕ → Operand → Bool
is_of_version major (operand.Member m) = not m.interface || major == 52
is_of_version major _ = true

abbrev pub is_text : Operand → Bool
is_text (operand.Text text) = is_some text
is_text _ = true

-- new makes no array, and anewarray none of more than 255 dimensions
abbrev pub class_rule : ℕ → List ℕ → Bool
class_rule op name = if op == 0xbb then is_plain_class name else is_lawful_class name && (not (op == 0xbd) || nat_lt (dimensions name) 255)

abbrev pub is_field_opcode : ℕ → Bool
is_field_opcode op = nat_le op 0xb5

abbrev pub call_rule : ℕ → Member → Bool
call_rule op m = is_lawful_method m.name m.descriptor && is_callable op m.name && (not (op == 0xb9) || nat_lt (interface_slots m.descriptor) 256)

abbrev pub member_rule : ℕ → Member → Bool
member_rule op m = is_lawful_class m.class && (if is_field_opcode op then is_lawful_field m.name m.descriptor else call_rule op m)

abbrev pub is_above : Option Case → Case → Bool
is_above None c = true
is_above (Some least) c = int_lt least.key c.key

-- the keys ascend, from a case before them on
unfoldable pub ascend : Option Case → List Case → Bool
ascend least [] = true
ascend least (c ∷ cs) = is_above least c && ascend (Some c) cs

-- a local is below max_locals, and so is the second one of a long
abbrev pub local_below : ℕ → ℕ → Option ℕ → Bool
local_below max_locals op None = true
local_below max_locals op (Some n) = nat_lt (if is_long_local op then n + 1 else n) max_locals

abbrev pub is_lawful : ℕ → ℕ → Operand → Bool
is_lawful max_locals op (operand.Class name) = class_rule op name
is_lawful max_locals op (operand.Dimensions name n) = is_lawful_class name && has_dimensions n name
is_lawful max_locals op (operand.Member m) = member_rule op m
is_lawful max_locals op (operand.Lookup lookup) = ascend None lookup.cases
is_lawful max_locals op (operand.Local n) = local_below max_locals op (Some n)
is_lawful max_locals op (operand.Increment n k) = local_below max_locals op (Some n)
is_lawful max_locals op operand.Nothing = local_below max_locals op (local_of op plain.Nothing)
is_lawful max_locals op _ = true

-- the checks of an instruction, by ascending reason
unfoldable pub instruction_checked : ℕ → ℕ → Labels → Instruction → Read (Unit {0})
instruction_checked major max_locals labels i =
    check (is_of_version major i.operand) 2
    (check (all_labels (is_known labels) i.operand) 4
    (check (is_text i.operand) 6
    (check (is_lawful max_locals i.opcode i.operand && all_labels (leads labels) i.operand) 8 (Ok tt))))

-- ---- the constant that an instruction needs

abbrev pub kind_of : ℕ → Bool → Kind
kind_of op interface = if is_field_opcode op then kind.Field else if op == 0xb9 || interface then kind.InterfaceMethod else kind.Method

abbrev pub constant_of : ℕ → Operand → Option Constant
constant_of op (operand.Int n) = Some (constant.Integer n)
constant_of op (operand.Long n) = Some (constant.Long n)
constant_of op (operand.Text (Some text)) = Some (constant.Literal text)
constant_of op (operand.Class name) = Some (constant.Class name)
constant_of op (operand.Dimensions name n) = Some (constant.Class name)
constant_of op (operand.Member m) = Some (constant.Member (kind_of op m.interface) m.class m.name m.descriptor)
constant_of op _ = None

-- ---- drafts

abbrev pub one : ℕ → List ℕ
one n = big_bytes 1 n

-- an index has one byte behind ldc, and else two
abbrev pub index_bytes : ℕ → ℕ → List ℕ
index_bytes op index = if op == 0x12 then one index else u2 index

-- behind the index of invokeinterface stand the argument slots and 0
abbrev pub slots_bytes : ℕ → List ℕ → List ℕ
slots_bytes op descriptor = if op == 0xb9 then one (interface_slots descriptor) ++ one 0 else []

-- sipush has two bytes, bipush and newarray one
abbrev pub number_bytes : ℕ → ℤ → List ℕ
number_bytes op n = if op == 0x11 then u2 (cast_unsigned w32 n) else one (cast_unsigned w32 n)

abbrev pub wide_prefix : Bool → List ℕ
wide_prefix wide = if wide then one 0xc4 else []

abbrev pub sized : Bool → ℕ → List ℕ
sized wide n = if wide then u2 n else one n

-- what stands behind an opcode without jumps, where the constant has an index
unfoldable pub operand_bytes : ℕ → Bool → ℕ → Operand → List ℕ
operand_bytes op wide index (operand.Number n) = number_bytes op n
operand_bytes op wide index (operand.Local n) = sized wide n
operand_bytes op wide index (operand.Increment n k) = sized wide n ++ sized wide (cast_unsigned w16 k)
operand_bytes op wide index (operand.Member m) = u2 index ++ slots_bytes op m.descriptor
operand_bytes op wide index (operand.Dimensions name n) = u2 index ++ one n
operand_bytes op wide index operand.Nothing = []
operand_bytes op wide index _ = index_bytes op index

-- goto_w has four bytes behind the opcode, the other jumps two
abbrev pub jump_draft : ℕ → ℕ → Draft
jump_draft op target = if op == 0xc8 then draft.JumpWide op target else draft.Jump op target

abbrev pub row_of : Labels → Case → Row
row_of labels c = record { key = c.key; target = number_of labels c.label }

-- the draft of an instruction, the index of whose constant is known
unfoldable pub drafted : Labels → ℕ → ℕ → Bool → Operand → Draft
drafted labels index op wide (operand.Jump label) = jump_draft op (number_of labels label)
drafted labels index op wide (operand.Table table) = draft.Table table.low (number_of labels table.fallback) (map (number_of labels) table.labels)
drafted labels index op wide (operand.Lookup lookup) = draft.Lookup (number_of labels lookup.fallback) (map (row_of labels) lookup.cases)
drafted labels index op wide o = draft.Bytes (wide_prefix wide ++ (one op ++ operand_bytes op wide index o))

abbrev pub draft_of : Labels → ℕ → Instruction → Draft
draft_of labels index i = drafted labels index i.opcode i.wide i.operand
