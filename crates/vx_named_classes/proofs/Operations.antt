-- An instruction that meets its checks names its class by a text.
use Rattle.std.proofs.Common.{Bool, List, Some, [], false, is_some, refl, true, ℕ, ◌&&◌, ◌∷◌, ◌≡◌}
use Rattle.std.specs.List.{AllByRecursion, list_all}
use Rattle.std.specs.Prelude.{nat_le, not, ◌==◌, ◌||◌}
use Rattle.vx_pool.specs.Checks.{all_hold}
use Rattle.vx_pool.specs.Entries.{usable}
use Rattle.vx_pool.specs.Holding.{and_true}
use Rattle.vx_pool.specs.Instructions.{is_kind_for, is_start, operand_checks}
use Rattle.vx_pool.specs.Lookups.{class, entry_of, is_field, is_interface_method, is_method}
use Rattle.vx_java.specs.Operation.{entry_of as entry_named, operation_of, rules}
use Rattle.vx_java.specs.declared.operation.Operation.{Operation}
use Rattle.vx_java.specs.declared.operation.Operation.TheVariants.{CheckCast, GetField, GetStatic, InstanceOf, Invoke, New, NewGrid, NewReferences, PushEntry, PutField, PutStatic, Refuse}
use Rattle.vx_kept_facts.proofs.Forms.{formed, is_of_shape}
use Rattle.vx_kept_facts.proofs.Places.{passes_there}
use Rattle.vx_kept_facts.proofs.Rules.{are_all, each_of, passes_or_is}
use Rattle.vx_opcode.specs.Decode.{instruction_at}
use Rattle.vx_opcode.specs.Table.{shape_of}
use Rattle.vx_opcode.specs.declared.instruction.Instruction.{Instruction}
use Rattle.vx_opcode.specs.declared.instruction.Operand.{Operand}
use Rattle.vx_opcode.specs.declared.instruction.Operand.TheVariants as operand
use Rattle.vx_pool.specs.declared.pool.Pool.{Pool}
use Rattle.vx_named_classes.specs.Named.{is_named_operation}
use Rattle.vx_named_classes.proofs.Pools.{AreChecked, class_at_index, loaded_at_index, member_at_index}

-- ---- the opcodes that name an entry, and all others

abbrev pool_opcodes : List ℕ
pool_opcodes = 0x12 ∷ 0x13 ∷ 0x14 ∷ 0xb2 ∷ 0xb3 ∷ 0xb4 ∷ 0xb5 ∷ 0xb6 ∷ 0xb7 ∷ 0xb8 ∷ 0xb9 ∷ 0xbb ∷ 0xbd ∷ 0xc0 ∷ 0xc1 ∷ 0xc5 ∷ []

-- an operation names no entry
abbrev is_plain : Operation → Bool
is_plain (PushEntry i) = false
is_plain (GetStatic i) = false
is_plain (PutStatic i) = false
is_plain (GetField i) = false
is_plain (PutField i) = false
is_plain (Invoke mode i) = false
is_plain (New i) = false
is_plain (NewReferences i) = false
is_plain (NewGrid i dimensions) = false
is_plain (CheckCast i) = false
is_plain (InstanceOf i) = false
is_plain (Refuse word) = nat_le 1 word && nat_le word 4
is_plain _ = true

plain_is_named : (pool : Pool) (o : Operation) → is_plain o ≡ true → is_named_operation pool o ≡ true
plain_is_named pool (PushEntry i) e = cc
plain_is_named pool (GetStatic i) e = cc
plain_is_named pool (PutStatic i) e = cc
plain_is_named pool (GetField i) e = cc
plain_is_named pool (PutField i) e = cc
plain_is_named pool (Invoke mode i) e = cc
plain_is_named pool (New i) e = cc
plain_is_named pool (NewReferences i) e = cc
plain_is_named pool (NewGrid i dimensions) e = cc
plain_is_named pool (CheckCast i) e = cc
plain_is_named pool (InstanceOf i) e = cc
plain_is_named pool (Refuse word) e = e
plain_is_named pool _ e = refl

plain_rules : (o : Operand) → are_all is_plain pool_opcodes o 0 rules ≡ true
plain_rules operand.Nothing = refl
plain_rules (operand.Number n) = refl
plain_rules (operand.Local n) = refl
plain_rules (operand.Increment n by) = refl
plain_rules (operand.Jump n) = refl
plain_rules (operand.Pool i) = refl
plain_rules (operand.Interface i slots) = refl
plain_rules (operand.Dimensions i d) = refl
plain_rules (operand.Table fallback low high first) = refl
plain_rules (operand.Lookup fallback pairs first) = refl

-- an operand names an entry
abbrev names_entry : Operand → Bool
names_entry (operand.Pool i) = true
names_entry (operand.Interface i slots) = true
names_entry (operand.Dimensions i d) = true
names_entry _ = false

-- no other operand is of the shape of one of those opcodes
abbrev is_of_other_shape : Operand → ℕ → Bool
is_of_other_shape o n = names_entry o || not (is_of_shape (shape_of n) o)

other_shapes : (o : Operand) → list_all (is_of_other_shape o) pool_opcodes ≡ true
other_shapes operand.Nothing = refl
other_shapes (operand.Number n) = refl
other_shapes (operand.Local n) = refl
other_shapes (operand.Increment n by) = refl
other_shapes (operand.Jump n) = refl
other_shapes (operand.Pool i) = refl
other_shapes (operand.Interface i slots) = refl
other_shapes (operand.Dimensions i d) = refl
other_shapes (operand.Table fallback low high first) = refl
other_shapes (operand.Lookup fallback pairs first) = refl

entry_is_named : (names fits : Bool) → (names || not fits) ≡ true → fits ≡ true → names ≡ true
entry_is_named true fits e f = refl
entry_is_named false true e f = e
entry_is_named false false e f = f

-- ---- the kinds of entries

second_of : (first second rest : Bool) → (first && (second && rest)) ≡ true → second ≡ true
second_of first second rest e = (and_true second rest (and_true first (second && rest) e).1).0

kind_checked : (pool : Pool) (major max_locals op : ℕ) (o : Operand) → names_entry o ≡ true → all_hold (operand_checks pool major max_locals op o) ≡ true → is_kind_for major op (entry_of pool (entry_named o)) ≡ true
kind_checked pool major max_locals op (operand.Pool i) names e = second_of (usable pool i) (is_kind_for major op (entry_of pool i)) _ e
kind_checked pool major max_locals op (operand.Interface i slots) names e = second_of (usable pool i) (is_kind_for major op (entry_of pool i)) _ e
kind_checked pool major max_locals op (operand.Dimensions i d) names e = second_of (usable pool i) (is_kind_for major op (entry_of pool i)) _ e
kind_checked pool major max_locals op _ names e = absurd cc

field_is : (field method interface : Bool) → field ≡ true → (field || (method || interface)) ≡ true
field_is field method interface e = rw e refl

method_is : (field method other interface : Bool) → (method || (other && interface)) ≡ true → (field || (method || interface)) ≡ true
method_is true method other interface e = refl
method_is false true other interface e = refl
method_is false false true interface e = e
method_is false false false interface e = absurd cc

plain_method_is : (field method interface : Bool) → method ≡ true → (field || (method || interface)) ≡ true
plain_method_is true method interface e = refl
plain_method_is false method interface e = rw e refl

interface_is : (field method interface : Bool) → interface ≡ true → (field || (method || interface)) ≡ true
interface_is true method interface e = refl
interface_is false true interface e = refl
interface_is false false interface e = e

-- an instruction with another opcode is named where its entry is of the kind for it
abbrev IsNamedWith : Pool → ℕ → Instruction → ℕ → Type 0
IsNamedWith pool major i n = is_kind_for major n (entry_of pool (entry_named i.operand)) ≡ true → is_named_operation pool (operation_of (record i { opcode = n })) ≡ true

pool_named : (pool : Pool) (major : ℕ) (i : Instruction) → AreChecked pool → AllByRecursion (IsNamedWith pool major i) pool_opcodes
pool_named pool major i checked =
    let k = entry_named i.operand in
    let e = entry_of pool k in
    let field = λ (h : is_field e ≡ true). member_at_index pool k checked (field_is (is_field e) (is_method e) (is_interface_method e) h) in
    let method = λ (h : (is_method e || ((major == 52) && is_interface_method e)) ≡ true). member_at_index pool k checked (method_is (is_field e) (is_method e) (major == 52) (is_interface_method e) h) in
    let plain_method = λ (h : is_method e ≡ true). member_at_index pool k checked (plain_method_is (is_field e) (is_method e) (is_interface_method e) h) in
    let interface = λ (h : is_interface_method e ≡ true). member_at_index pool k checked (interface_is (is_field e) (is_method e) (is_interface_method e) h) in
    let of_class = λ (h : is_some (class e) ≡ true). class_at_index pool k checked h in
    let loaded = loaded_at_index pool k checked in
    (λ h. loaded, (λ h. loaded, (λ h. loaded, (field, (field, (field, (field, (plain_method, (method, (method, (interface, (of_class, (of_class, (of_class, (of_class, (of_class, tt))))))))))))))))

-- ---- the whole

pub operation_named : (pool : Pool) (major max_locals : ℕ) (code : List ℕ) (at : ℕ) (i : Instruction) → AreChecked pool → instruction_at code at ≡ Some i
    → all_hold (operand_checks pool major max_locals i.opcode i.operand) ≡ true → is_named_operation pool (operation_of i) ≡ true
operation_named pool major max_locals code at i checked found holds = by_plain (is_plain (operation_of i)) refl (passes_or_is is_plain pool_opcodes i refl (plain_rules i.operand))
  where
    by_plain : (b : Bool) → is_plain (operation_of i) ≡ b → (b || is_start pool_opcodes i.opcode) ≡ true → is_named_operation pool (operation_of i) ≡ true
    by_plain true is any = plain_is_named pool (operation_of i) is
    by_plain false is any =
        let names : names_entry i.operand ≡ true = entry_is_named (names_entry i.operand) (is_of_shape (shape_of i.opcode) i.operand) (passes_there (is_of_other_shape i.operand) pool_opcodes i.opcode (other_shapes i.operand) any) (formed code at i found) in
        each_of (IsNamedWith pool major i) pool_opcodes i.opcode (pool_named pool major i checked) any (kind_checked pool major max_locals i.opcode i.operand names holds)
