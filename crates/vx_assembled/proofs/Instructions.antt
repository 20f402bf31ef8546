-- The bytes of an instruction without jumps are that instruction, and it meets its checks.
use Rattle.std.proofs.Common.{◌≡◌, ℕ, ℤ, pos, ◌<◌, List, ◌++◌, length, Bool, true, false, not, nat_lt, ◌==◌, ◌&&◌, ◌||◌, Option, Some, None, if◌then◌else◌, ◌⊎◌, inl, inr, FitsSigned, refl, sym, subst, arith}
use Rattle.std.proofs.lemmas.Bool.{and_parts, lt-ltb, ltb-true}
use Rattle.std.specs.Int.{w8}
use Rattle.byteorder.specs.Endian.{big_bytes}
use Rattle.vx_pool.specs.declared.pool.Pool.{Pool}
use Rattle.vx_desc.specs.Names.{is_method_name}
use Rattle.vx_desc.specs.Descriptors.{is_method_descriptor}
use Rattle.vx_opcode.specs.declared.instruction.Instruction.{Instruction}
use Rattle.vx_opcode.specs.declared.instruction.Operand.TheVariants as plain
use Rattle.vx_opcode.specs.declared.shape.Shape.TheVariants as shape
use Rattle.vx_opcode.specs.Table.{shape_of}
use Rattle.vx_pool.specs.Checks.{all_hold}
use Rattle.vx_pool.specs.Instructions.{operand_checks, jump_checks, is_callable}
use Rattle.vx_class_parts.specs.Constants.{places, in_file, in_file_or_zero, pool_of}
use Rattle.vx_class_parts.specs.Rules.{is_short, is_lawful_class, is_lawful_method, interface_slots, has_dimensions}
use Rattle.vx_class_parts.specs.declared.constants.Constant.{Constant}
use Rattle.vx_class_parts.specs.declared.constants.Constant.TheVariants as constant
use Rattle.vx_class_parts.specs.declared.constants.Kind.TheVariants as kind
use Rattle.vx_source.specs.declared.statement.Member.{Member}
use Rattle.vx_source.specs.declared.statement.Operand.{Operand}
use Rattle.vx_source.specs.declared.statement.Operand.TheVariants as operand
use Rattle.vx_code_parts.specs.Instructions.{is_of_version, is_text, is_lawful, member_rule, call_rule, class_rule, kind_of, constant_of, one, operand_bytes, wide_prefix}
use Rattle.vx_assembled.proofs.Decoded.{Decodes, made, plain_decodes, byte_decodes, short_decodes, near_decodes, pool_decodes, local_decodes, increment_decodes, interface_decodes, array_decodes, dimensions_decodes, wide_local_decodes, wide_increment_decodes}
use Rattle.vx_assembled.proofs.Entries.{IsClassName, class_name, text_there, name_and_type_there, IsMember, method_member}
use Rattle.vx_assembled.proofs.Operands.{among, is_among, LOADS, CLASSES, FIELDS, CALLS, OWN_CALLS, loads_integer, loads_literal, loads_class, loads_long, rule_lawful, names_class, names_dimensions, names_field, IsCalled, names_method, names_interface_method, names_interface, local_met, increment_met, nothing_met}
use Rattle.vx_assembled.proofs.Pools.{IsHeld, IsNeeded, placed}
use Rattle.vx_assembled.proofs.Sayings.{IsSaidOperand, IsSaidNumber, IsMemberFor}

-- ---- an instruction without jumps

-- bytes that are an instruction whose operand meets its checks, and that jumps nowhere
pub record IsInstruction (pool : Pool) (major max_locals : ℕ) (bytes : List ℕ) : Type 0 where
  pub i : Instruction
  pub decodes : Decodes bytes i
  pub meets : all_hold (operand_checks pool major max_locals i.opcode i.operand) ≡ true
  pub straight : (starts code : List ℕ) (at : ℕ) → all_hold (jump_checks starts code at i.operand) ≡ true

-- ---- what loads a constant

abbrev Bytes : ℕ → ℕ → Operand → List ℕ
Bytes op i o = wide_prefix false ++ (one op ++ operand_bytes op false i o)

-- ldc has one byte for an index
abbrev IsNear : ℕ → ℕ → Type 0
IsNear op i = op ≡ 0x12 → i < 256

loads_made : (pool : Pool) (major max_locals op i : ℕ) (text : List ℕ) → is_among LOADS op ≡ true → i < 65536 → IsNear op i → text ≡ (if op == 0x12 then big_bytes 1 i else big_bytes 2 i)
    → all_hold (operand_checks pool major max_locals op (plain.Pool i)) ≡ true → IsInstruction pool major max_locals (big_bytes 1 op ++ text)
loads_made pool major max_locals op i text load few near is meets =
    subst (λ (t : List ℕ). IsInstruction pool major max_locals (big_bytes 1 op ++ t)) (sym is) (among Made LOADS op load (near_one, (far_one, tt)) near meets)
  where
    Made : ℕ → Type 0
    Made n = IsNear n i → all_hold (operand_checks pool major max_locals n (plain.Pool i)) ≡ true → IsInstruction pool major max_locals (big_bytes 1 n ++ (if n == 0x12 then big_bytes 1 i else big_bytes 2 i))

    near_one : Made 0x12
    near_one near meets = record { i = made 0x12 2 (plain.Pool i); decodes = near_decodes 0x12 i (omega arith) refl (near refl); meets = meets; straight = λ starts code at. refl }

    far_one : Made 0x13
    far_one near meets = record { i = made 0x13 3 (plain.Pool i); decodes = pool_decodes 0x13 i (omega arith) refl few; meets = meets; straight = λ starts code at. refl }

pool_made : (pool : Pool) (major max_locals op i : ℕ) → op < 256 → shape_of op ≡ Some shape.Pool → i < 65536 → all_hold (operand_checks pool major max_locals op (plain.Pool i)) ≡ true
    → IsInstruction pool major max_locals (big_bytes 1 op ++ big_bytes 2 i)
pool_made pool major max_locals op i small is few meets = record { i = made op 3 (plain.Pool i); decodes = pool_decodes op i small is few; meets = meets; straight = λ starts code at. refl }

-- ---- by the operand

abbrev Is : List Constant → ℕ → ℕ → ℕ → ℕ → Operand → Type 0
Is pool major max_locals op i o = IsInstruction (pool_of pool) major max_locals (Bytes op i o)

nothing_is : (pool : List Constant) (major max_locals op i : ℕ) → op < 256 → shape_of op ≡ Some shape.Plain → is_lawful max_locals op operand.Nothing ≡ true → Is pool major max_locals op i operand.Nothing
unfolding operand_bytes
nothing_is pool major max_locals op i small is lawful = record {
  i = made op 1 plain.Nothing;
  decodes = plain_decodes op small is;
  meets = nothing_met (pool_of pool) major max_locals op lawful;
  straight = λ starts code at. refl;
}

number_is : (pool : List Constant) (major max_locals op i : ℕ) (n : ℤ) → IsSaidNumber op n → Is pool major max_locals op i (operand.Number n)
unfolding operand_bytes
number_is pool major max_locals op i n (inl byte) =
    subst (λ (m : ℕ). Is pool major max_locals m i (operand.Number n)) (sym byte.0)
    (record { i = made 0x10 2 (plain.Number n); decodes = byte_decodes 0x10 n (omega arith) refl byte.1; meets = refl; straight = λ starts code at. refl })
number_is pool major max_locals op i n (inr (inl short)) =
    subst (λ (m : ℕ). Is pool major max_locals m i (operand.Number n)) (sym short.0)
    (record { i = made 0x11 3 (plain.Number n); decodes = short_decodes 0x11 n (omega arith) refl short.1; meets = refl; straight = λ starts code at. refl })
number_is pool major max_locals op i n (inr (inr kinds)) =
    subst (λ (m : ℕ). Is pool major max_locals m i (operand.Number n)) (sym kinds.0)
    (subst (λ (z : ℤ). Is pool major max_locals 0xbc i (operand.Number z)) (sym kinds.2)
    (record { i = made 0xbc 2 (plain.Number (pos kinds.1)); decodes = array_decodes 0xbc kinds.1 (omega arith) refl kinds.3 kinds.4; meets = refl; straight = λ starts code at. refl }))

int_is : (pool : List Constant) (major max_locals op : ℕ) (n : ℤ) → places pool < 65536 → is_among LOADS op ≡ true → IsHeld pool (constant.Integer n) → IsNear op (in_file pool (constant.Integer n))
    → Is pool major max_locals op (in_file pool (constant.Integer n)) (operand.Int n)
unfolding operand_bytes
int_is pool major max_locals op n few load held near =
    let p = placed pool (constant.Integer n) few held in
    loads_made (pool_of pool) major max_locals op (in_file pool (constant.Integer n)) (if op == 0x12 then big_bytes 1 (in_file pool (constant.Integer n)) else big_bytes 2 (in_file pool (constant.Integer n))) load p.few near refl
    (loads_integer (pool_of pool) major max_locals (in_file pool (constant.Integer n)) n op load p.there)

literal_is : (pool : List Constant) (major max_locals op : ℕ) (t : List ℕ) → places pool < 65536 → is_among LOADS op ≡ true → IsHeld pool (constant.Literal t) → IsNear op (in_file pool (constant.Literal t))
    → Is pool major max_locals op (in_file pool (constant.Literal t)) (operand.Text (Some t))
unfolding operand_bytes
literal_is pool major max_locals op t few load held near =
    let p = placed pool (constant.Literal t) few held.0 in
    loads_made (pool_of pool) major max_locals op (in_file pool (constant.Literal t)) (if op == 0x12 then big_bytes 1 (in_file pool (constant.Literal t)) else big_bytes 2 (in_file pool (constant.Literal t))) load p.few near refl
    (loads_literal (pool_of pool) major max_locals (in_file pool (constant.Literal t)) (in_file pool (constant.Text t)) op load p.there)

long_is : (pool : List Constant) (major max_locals : ℕ) (n : ℤ) → places pool < 65536 → IsHeld pool (constant.Long n) → Is pool major max_locals 0x14 (in_file pool (constant.Long n)) (operand.Long n)
unfolding operand_bytes
long_is pool major max_locals n few held =
    let p = placed pool (constant.Long n) few held in
    pool_made (pool_of pool) major max_locals 0x14 (in_file pool (constant.Long n)) (omega arith) refl p.few (loads_long (pool_of pool) major max_locals (in_file pool (constant.Long n)) n p.there)

loaded_class_is : (pool : List Constant) (major max_locals op : ℕ) (name : List ℕ) → places pool < 65536 → is_among LOADS op ≡ true → IsHeld pool (constant.Class name) → IsNear op (in_file pool (constant.Class name))
    → Is pool major max_locals op (in_file pool (constant.Class name)) (operand.Class name)
unfolding operand_bytes
loaded_class_is pool major max_locals op name few load held near =
    let p = placed pool (constant.Class name) few held.0 in
    loads_made (pool_of pool) major max_locals op (in_file pool (constant.Class name)) (if op == 0x12 then big_bytes 1 (in_file pool (constant.Class name)) else big_bytes 2 (in_file pool (constant.Class name))) load p.few near refl
    (loads_class (pool_of pool) major max_locals (in_file pool (constant.Class name)) (in_file pool (constant.Text name)) op load p.there)

named_class_is : (pool : List Constant) (major max_locals op : ℕ) (name : List ℕ) → places pool < 65536 → is_among CLASSES op ≡ true → IsHeld pool (constant.Class name) → class_rule op name ≡ true
    → Is pool major max_locals op (in_file pool (constant.Class name)) (operand.Class name)
unfolding operand_bytes
named_class_is pool major max_locals op name few class held rule =
    let p = placed pool (constant.Class name) few held.0 in
    let short = (class_name name (rule_lawful op name rule)).short in
    let meets = names_class (pool_of pool) major max_locals (in_file pool (constant.Class name)) (in_file pool (constant.Text name)) name op class p.there (text_there pool name few short held.1) rule in
    among Made CLASSES op class (
      λ m. pool_made (pool_of pool) major max_locals 0xbb i (omega arith) refl p.few m,
      (
        λ m. pool_made (pool_of pool) major max_locals 0xbd i (omega arith) refl p.few m,
        (
          λ m. pool_made (pool_of pool) major max_locals 0xc0 i (omega arith) refl p.few m,
          (λ m. pool_made (pool_of pool) major max_locals 0xc1 i (omega arith) refl p.few m, tt),
        ),
      ),
    ) meets
  where
    i : ℕ
    i = in_file pool (constant.Class name)

    Made : ℕ → Type 0
    Made n = all_hold (operand_checks (pool_of pool) major max_locals n (plain.Pool i)) ≡ true → IsInstruction (pool_of pool) major max_locals (big_bytes 1 n ++ (if n == 0x12 then big_bytes 1 i else big_bytes 2 i))

dimensions_are : (pool : List Constant) (major max_locals : ℕ) (name : List ℕ) (n : ℕ) → places pool < 65536 → n < 256 → IsHeld pool (constant.Class name) → is_lawful max_locals 0xc5 (operand.Dimensions name n) ≡ true
    → Is pool major max_locals 0xc5 (in_file pool (constant.Class name)) (operand.Dimensions name n)
unfolding operand_bytes
dimensions_are pool major max_locals name n few small held rule =
    let r = and_parts (is_lawful_class name) (has_dimensions n name) rule in
    let p = placed pool (constant.Class name) few held.0 in
    record {
      i = made 0xc5 4 (plain.Dimensions (in_file pool (constant.Class name)) n);
      decodes = dimensions_decodes 0xc5 (in_file pool (constant.Class name)) n (omega arith) refl p.few small;
      meets = names_dimensions (pool_of pool) major max_locals (in_file pool (constant.Class name)) (in_file pool (constant.Text name)) n name p.there (text_there pool name few (class_name name r.0).short held.1) r.1;
      straight = λ starts code at. refl;
    }

-- ---- members

abbrev member_constant : ℕ → Member → Constant
member_constant op m = constant.Member (kind_of op m.interface) m.class m.name m.descriptor

-- a call names a method
called : (pool : List Constant) (is_name is_descriptor : List ℕ → Bool) (name descriptor : List ℕ) → places pool < 65536 → IsMember is_name is_descriptor name descriptor
    → IsHeld pool (constant.NameAndType name descriptor) → IsCalled (pool_of pool) (in_file pool (constant.NameAndType name descriptor)) name descriptor
called pool is_name is_descriptor name descriptor few is held = record {
  i = in_file pool (constant.Text name);
  j = in_file pool (constant.Text descriptor);
  pair = name_and_type_there pool name descriptor few held.0;
  is_name = text_there pool name few is.short_name held.1;
  is_descriptor = text_there pool descriptor few is.short_descriptor held.2;
}

record IsCall (op : ℕ) (m : Member) : Type 0 where
  class : IsClassName m.class
  method : IsMember is_method_name is_method_descriptor m.name m.descriptor
  short : is_short m.descriptor ≡ true
  callable : is_callable op m.name ≡ true
  slots : (not (op == 0xb9) || nat_lt (interface_slots m.descriptor) 256) ≡ true

call_of : (op : ℕ) (m : Member) → (is_lawful_class m.class && call_rule op m) ≡ true → IsCall op m
call_of op m h =
    let p = and_parts (is_lawful_class m.class) (call_rule op m) h in
    let q = and_parts (is_lawful_method m.name m.descriptor && is_callable op m.name) (not (op == 0xb9) || nat_lt (interface_slots m.descriptor) 256) p.1 in
    let r = and_parts (is_lawful_method m.name m.descriptor) (is_callable op m.name) q.0 in
    let method = method_member m.name m.descriptor r.0 in
    record {
      class = class_name m.class p.0;
      method = method;
      short = lt-ltb (length m.descriptor) 65536 method.short_descriptor;
      callable = r.1;
      slots = q.1;
    }

abbrev IsMemberAt : List Constant → ℕ → ℕ → Member → ℕ → Type 0
IsMemberAt pool major max_locals m op = IsHeld pool (member_constant op m) → is_of_version major (operand.Member m) ≡ true → member_rule op m ≡ true
    → Is pool major max_locals op (in_file pool (member_constant op m)) (operand.Member m)

-- a member with and without the word interface
abbrev with_word : Bool → Member → Member
with_word b m = record { interface = b; class = m.class; name = m.name; descriptor = m.descriptor }

word_is : (m : Member) (b : Bool) → m.interface ≡ b → m ≡ with_word b m
word_is m b e = λ i. record { interface = e i; class = m.class; name = m.name; descriptor = m.descriptor }

field_is : (pool : List Constant) (major max_locals : ℕ) (m : Member) (op : ℕ) → places pool < 65536 → is_among FIELDS op ≡ true → IsMemberAt pool major max_locals m op
unfolding operand_bytes
field_is pool major max_locals m op few field =
    among (IsMemberAt pool major max_locals m) FIELDS op field (
      λ h v r. at_op 0xb2 (omega arith) refl refl h,
      (λ h v r. at_op 0xb3 (omega arith) refl refl h, (λ h v r. at_op 0xb4 (omega arith) refl refl h, (λ h v r. at_op 0xb5 (omega arith) refl refl h, tt))),
    )
  where
    c : Constant
    c = constant.Member kind.Field m.class m.name m.descriptor

    at_op : (n : ℕ) → n < 256 → shape_of n ≡ Some shape.Pool → is_among FIELDS n ≡ true → IsHeld pool c → IsInstruction (pool_of pool) major max_locals (big_bytes 1 n ++ big_bytes 2 (in_file pool c))
    at_op n small is field held =
        let p = placed pool c few held.0 in
        pool_made (pool_of pool) major max_locals n (in_file pool c) small is p.few
        (names_field (pool_of pool) major max_locals (in_file pool c) (in_file pool (constant.Class m.class)) (in_file pool (constant.NameAndType m.name m.descriptor)) n field p.there)

-- a method
method_is : (pool : List Constant) (major max_locals : ℕ) (m : Member) (op : ℕ) → places pool < 65536 → is_among CALLS op ≡ true → IsMemberAt pool major max_locals (with_word false m) op
unfolding operand_bytes
method_is pool major max_locals m op few call =
    among (IsMemberAt pool major max_locals (with_word false m)) CALLS op call (
      λ h v r. at_op 0xb6 (omega arith) refl refl h (call_of 0xb6 (with_word false m) r).method (call_of 0xb6 (with_word false m) r).callable,
      (
        λ h v r. at_op 0xb7 (omega arith) refl refl h (call_of 0xb7 (with_word false m) r).method (call_of 0xb7 (with_word false m) r).callable,
        (λ h v r. at_op 0xb8 (omega arith) refl refl h (call_of 0xb8 (with_word false m) r).method (call_of 0xb8 (with_word false m) r).callable, tt),
      ),
    )
  where
    c : Constant
    c = constant.Member kind.Method m.class m.name m.descriptor

    at_op : (n : ℕ) → n < 256 → shape_of n ≡ Some shape.Pool → is_among CALLS n ≡ true → IsHeld pool c → IsMember is_method_name is_method_descriptor m.name m.descriptor → is_callable n m.name ≡ true
        → IsInstruction (pool_of pool) major max_locals (big_bytes 1 n ++ big_bytes 2 (in_file pool c))
    at_op n small is call held method callable =
        let p = placed pool c few held.0 in
        pool_made (pool_of pool) major max_locals n (in_file pool c) small is p.few
        (names_method (pool_of pool) major max_locals (in_file pool c) (in_file pool (constant.Class m.class)) (in_file pool (constant.NameAndType m.name m.descriptor)) m.name m.descriptor n call p.there
        (called pool is_method_name is_method_descriptor m.name m.descriptor few method held.2) callable)

-- a method of an interface that isn't called by invokeinterface
own_is : (pool : List Constant) (major max_locals : ℕ) (m : Member) (op : ℕ) → places pool < 65536 → is_among OWN_CALLS op ≡ true → IsMemberAt pool major max_locals (with_word true m) op
unfolding operand_bytes
own_is pool major max_locals m op few call =
    among (IsMemberAt pool major max_locals (with_word true m)) OWN_CALLS op call (
      λ h v r. at_op 0xb7 (omega arith) refl refl v h (call_of 0xb7 (with_word true m) r).method (call_of 0xb7 (with_word true m) r).callable,
      (λ h v r. at_op 0xb8 (omega arith) refl refl v h (call_of 0xb8 (with_word true m) r).method (call_of 0xb8 (with_word true m) r).callable, tt),
    )
  where
    c : Constant
    c = constant.Member kind.InterfaceMethod m.class m.name m.descriptor

    at_op : (n : ℕ) → n < 256 → shape_of n ≡ Some shape.Pool → is_among OWN_CALLS n ≡ true → (major == 52) ≡ true → IsHeld pool c → IsMember is_method_name is_method_descriptor m.name m.descriptor
        → is_callable n m.name ≡ true → IsInstruction (pool_of pool) major max_locals (big_bytes 1 n ++ big_bytes 2 (in_file pool c))
    at_op n small is call version held method callable =
        let p = placed pool c few held.0 in
        pool_made (pool_of pool) major max_locals n (in_file pool c) small is p.few
        (names_interface_method (pool_of pool) major max_locals (in_file pool c) (in_file pool (constant.Class m.class)) (in_file pool (constant.NameAndType m.name m.descriptor)) m.name m.descriptor n call p.there
        (called pool is_method_name is_method_descriptor m.name m.descriptor few method held.2) version callable)

-- a method of an interface, with its argument slots
interface_is : (pool : List Constant) (major max_locals : ℕ) (m : Member) → places pool < 65536 → IsMemberAt pool major max_locals m 0xb9
unfolding operand_bytes
interface_is pool major max_locals m few held version rule =
    let k = call_of 0xb9 m rule in
    let p = placed pool (constant.Member kind.InterfaceMethod m.class m.name m.descriptor) few held.0 in
    let i = in_file pool (constant.Member kind.InterfaceMethod m.class m.name m.descriptor) in
    record {
      i = made 0xb9 5 (plain.Interface i (interface_slots m.descriptor));
      decodes = interface_decodes 0xb9 i (interface_slots m.descriptor) (omega arith) refl p.few (ltb-true (interface_slots m.descriptor) 256 k.slots);
      meets = names_interface (pool_of pool) major max_locals i (in_file pool (constant.Class m.class)) (in_file pool (constant.NameAndType m.name m.descriptor)) m.name m.descriptor p.there
          (called pool is_method_name is_method_descriptor m.name m.descriptor few k.method held.2) k.callable k.short k.method.descriptor;
      straight = λ starts code at. refl;
    }

member_is : (pool : List Constant) (major max_locals : ℕ) (m : Member) (op : ℕ) → places pool < 65536 → IsMemberFor op m.interface → IsMemberAt pool major max_locals m op
member_is pool major max_locals m op few (inl field) = field_is pool major max_locals m op few field
member_is pool major max_locals m op few (inr (inl call)) =
    subst (λ (x : Member). IsMemberAt pool major max_locals x op) (sym (word_is m false call.1)) (method_is pool major max_locals m op few call.0)
member_is pool major max_locals m op few (inr (inr (inl own))) =
    subst (λ (x : Member). IsMemberAt pool major max_locals x op) (sym (word_is m true own.1)) (own_is pool major max_locals m op few own.0)
member_is pool major max_locals m op few (inr (inr (inr last))) =
    subst (λ (n : ℕ). IsMemberAt pool major max_locals m n) (sym last) (interface_is pool major max_locals m few)

-- ---- locals

local_is : (pool : List Constant) (major max_locals op n : ℕ) → op < 256 → (shape_of op ≡ Some shape.Local) × (n < 256) → is_lawful max_locals op (operand.Local n) ≡ true → Is pool major max_locals op 0 (operand.Local n)
unfolding operand_bytes
local_is pool major max_locals op n small said lawful = record {
  i = made op 2 (plain.Local n);
  decodes = local_decodes op n small said.0 said.1;
  meets = local_met (pool_of pool) major max_locals op n lawful;
  straight = λ starts code at. refl;
}

increment_is : (pool : List Constant) (major max_locals op n : ℕ) (k : ℤ) → op < 256 → (shape_of op ≡ Some shape.Increment) × (n < 256) × FitsSigned w8 k → is_lawful max_locals op (operand.Increment n k) ≡ true
    → Is pool major max_locals op 0 (operand.Increment n k)
unfolding operand_bytes
increment_is pool major max_locals op n k small said lawful = record {
  i = made op 3 (plain.Increment n k);
  decodes = increment_decodes op n k small said.0 said.1 said.2;
  meets = increment_met (pool_of pool) major max_locals op n k lawful;
  straight = λ starts code at. refl;
}

-- ---- all instructions without jumps

abbrev pub jumps : Operand → Bool
jumps (operand.Jump label) = true
jumps (operand.Table t) = true
jumps (operand.Lookup l) = true
jumps _ = false

-- the index of ldc's constant has one byte
abbrev pub IsNearNeeded : List Constant → ℕ → Option Constant → Type 0
IsNearNeeded pool op None = Unit {0}
IsNearNeeded pool op (Some c) = op ≡ 0x12 → in_file pool c < 256

abbrev bytes_of : List Constant → ℕ → Bool → Operand → List ℕ
bytes_of pool op wide o = wide_prefix wide ++ (one op ++ operand_bytes op wide (in_file_or_zero pool (constant_of op o)) o)

record Meets (pool : List Constant) (major max_locals op : ℕ) (o : Operand) : Type 0 where
  version : is_of_version major o ≡ true
  text : is_text o ≡ true
  lawful : is_lawful max_locals op o ≡ true
  needed : IsNeeded pool (constant_of op o)
  near : IsNearNeeded pool op (constant_of op o)

narrow_is : (pool : List Constant) (major max_locals op : ℕ) (o : Operand) → places pool < 65536 → op < 256 → jumps o ≡ false → IsSaidOperand false op o → Meets pool major max_locals op o
    → IsInstruction (pool_of pool) major max_locals (bytes_of pool op false o)
narrow_is pool major max_locals op operand.Nothing few small straight said m = nothing_is pool major max_locals op 0 small said m.lawful
narrow_is pool major max_locals op (operand.Number n) few small straight said m = number_is pool major max_locals op 0 n said
narrow_is pool major max_locals op (operand.Int n) few small straight said m = int_is pool major max_locals op n few said.0 m.needed m.near
narrow_is pool major max_locals op (operand.Long n) few small straight said m =
    subst (λ (k : ℕ). Is pool major max_locals k (in_file pool (constant.Long n)) (operand.Long n)) (sym said.0) (long_is pool major max_locals n few m.needed)
narrow_is pool major max_locals op (operand.Text None) few small straight said m = let bad = m.text in absurd cc
narrow_is pool major max_locals op (operand.Text (Some t)) few small straight said m = literal_is pool major max_locals op t few said.0 m.needed m.near
narrow_is pool major max_locals op (operand.Class name) few small straight said m = by_kind said.0
  where
    by_kind : (is_among LOADS op ≡ true) ⊎ (is_among CLASSES op ≡ true) → Is pool major max_locals op (in_file pool (constant.Class name)) (operand.Class name)
    by_kind (inl load) = loaded_class_is pool major max_locals op name few load m.needed m.near
    by_kind (inr class) = named_class_is pool major max_locals op name few class m.needed m.lawful
narrow_is pool major max_locals op (operand.Local n) few small straight said m = local_is pool major max_locals op n small said m.lawful
narrow_is pool major max_locals op (operand.Increment n k) few small straight said m = increment_is pool major max_locals op n k small said m.lawful
narrow_is pool major max_locals op (operand.Jump label) few small straight said m = absurd cc
narrow_is pool major max_locals op (operand.Member member) few small straight said m = member_is pool major max_locals member op few said.for_op m.needed m.version m.lawful
narrow_is pool major max_locals op (operand.Dimensions name n) few small straight said m =
    subst (λ (k : ℕ). is_lawful max_locals k (operand.Dimensions name n) ≡ true → Is pool major max_locals k (in_file pool (constant.Class name)) (operand.Dimensions name n)) (sym said.0)
    (λ rule. dimensions_are pool major max_locals name n few said.2 m.needed rule) m.lawful
narrow_is pool major max_locals op (operand.Table t) few small straight said m = absurd cc
narrow_is pool major max_locals op (operand.Lookup l) few small straight said m = absurd cc

wide_is : (pool : List Constant) (major max_locals op : ℕ) (o : Operand) → op < 256 → IsSaidOperand true op o → is_lawful max_locals op o ≡ true
    → IsInstruction (pool_of pool) major max_locals (bytes_of pool op true o)
unfolding operand_bytes
wide_is pool major max_locals op (operand.Local n) small said lawful = record {
  i = made op 4 (plain.Local n);
  decodes = wide_local_decodes op n small said.0 said.1;
  meets = local_met (pool_of pool) major max_locals op n lawful;
  straight = λ starts code at. refl;
}
wide_is pool major max_locals op (operand.Increment n k) small said lawful = record {
  i = made op 6 (plain.Increment n k);
  decodes = wide_increment_decodes op n k small said.0 said.1 said.2;
  meets = increment_met (pool_of pool) major max_locals op n k lawful;
  straight = λ starts code at. refl;
}
wide_is pool major max_locals op operand.Nothing small said lawful = absurd said
wide_is pool major max_locals op (operand.Number n) small said lawful = absurd said
wide_is pool major max_locals op (operand.Int n) small said lawful = absurd said
wide_is pool major max_locals op (operand.Long n) small said lawful = absurd said
wide_is pool major max_locals op (operand.Text t) small said lawful = absurd said
wide_is pool major max_locals op (operand.Class name) small said lawful = absurd said
wide_is pool major max_locals op (operand.Jump label) small said lawful = absurd said
wide_is pool major max_locals op (operand.Member m) small said lawful = absurd said
wide_is pool major max_locals op (operand.Dimensions name n) small said lawful = absurd said
wide_is pool major max_locals op (operand.Table t) small said lawful = absurd said
wide_is pool major max_locals op (operand.Lookup l) small said lawful = absurd said

-- what a source may say in a line, where the pool has what it needs
pub record IsLawfulHere (pool : List Constant) (major max_locals op : ℕ) (wide : Bool) (o : Operand) : Type 0 where
  pub few : places pool < 65536
  pub small : op < 256
  pub said : IsSaidOperand wide op o
  pub version : is_of_version major o ≡ true
  pub text : is_text o ≡ true
  pub lawful : is_lawful max_locals op o ≡ true
  pub needed : IsNeeded pool (constant_of op o)
  pub near : IsNearNeeded pool op (constant_of op o)

pub instruction_is : (pool : List Constant) (major max_locals op : ℕ) (wide : Bool) (o : Operand) → IsLawfulHere pool major max_locals op wide o → jumps o ≡ false
    → IsInstruction (pool_of pool) major max_locals (wide_prefix wide ++ (one op ++ operand_bytes op wide (in_file_or_zero pool (constant_of op o)) o))
instruction_is pool major max_locals op true o h straight = wide_is pool major max_locals op o h.small h.said h.lawful
instruction_is pool major max_locals op false o h straight =
    narrow_is pool major max_locals op o h.few h.small straight h.said (record { version = h.version; text = h.text; lawful = h.lawful; needed = h.needed; near = h.near })
