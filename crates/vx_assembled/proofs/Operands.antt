-- The operands of instructions meet their checks, over any pool whose entries say what they name.
use Rattle.std.proofs.Common.{◌≡◌, ℕ, ℤ, ◌+◌, List, [], ◌∷◌, Bool, true, false, not, nat_lt, nat_le, ◌==◌, ◌&&◌, ◌||◌, Option, Some, None, is_some, if◌then◌else◌, refl, sym, subst}
use Rattle.std.proofs.lemmas.Bool.{and_parts, and_from, eq-eqb, eqb-true}
use Rattle.std.specs.List.{list_any, AllByRecursion}
use Rattle.vx_pool.specs.declared.pool.Entry.TheVariants as entry
use Rattle.vx_pool.specs.declared.pool.Pool.{Pool}
use Rattle.vx_desc.specs.Descriptors.{method_slots, is_method_descriptor}
use Rattle.vx_opcode.specs.declared.instruction.Operand.TheVariants as plain
use Rattle.vx_pool.specs.Checks.{all_hold}
use Rattle.vx_pool.specs.Instructions.{local_of, local_fits, is_callable, dimensions, has_slots, operand_checks}
use Rattle.vx_pool.specs.Lookups.{entry_of, is_array}
use Rattle.vx_class_parts.specs.Rules.{is_short, is_plain_class, is_lawful_class, interface_slots, has_dimensions}
use Rattle.vx_code_parts.specs.Instructions.{class_rule, local_below}

-- ---- one of some opcodes

abbrev pub is_among : List ℕ → ℕ → Bool
is_among ops op = list_any (λ n. op == n) ops

-- what holds at each of them
pub among : (P : ℕ → Type 0) (ops : List ℕ) (op : ℕ) → is_among ops op ≡ true → AllByRecursion P ops → P op
among P [] op h all = absurd cc
among P (n ∷ ns) op h all = by_test (λ k. among P ns op k all.1) (op == n) refl h
  where
    by_test : (is_among ns op ≡ true → P op) → (b : Bool) → (op == n) ≡ b → (b || is_among ns op) ≡ true → P op
    by_test others true e k = subst P (sym (eqb-true op n e)) all.0
    by_test others false e k = others k

abbrev pub LOADS : List ℕ
LOADS = 0x12 ∷ 0x13 ∷ []

abbrev pub CLASSES : List ℕ
CLASSES = 0xbb ∷ 0xbd ∷ 0xc0 ∷ 0xc1 ∷ []

abbrev pub FIELDS : List ℕ
FIELDS = 0xb2 ∷ 0xb3 ∷ 0xb4 ∷ 0xb5 ∷ []

abbrev pub CALLS : List ℕ
CALLS = 0xb6 ∷ 0xb7 ∷ 0xb8 ∷ []

-- those whose method may be one of an interface
abbrev pub OWN_CALLS : List ℕ
OWN_CALLS = 0xb7 ∷ 0xb8 ∷ []

-- ---- constants

abbrev MeetsPool : Pool → ℕ → ℕ → ℕ → ℕ → Type 0
MeetsPool pool major max_locals i op = all_hold (operand_checks pool major max_locals op (plain.Pool i)) ≡ true

pub loads_integer : (pool : Pool) (major max_locals i : ℕ) (z : ℤ) (op : ℕ) → is_among LOADS op ≡ true → entry_of pool i ≡ Some (entry.Integer z) → MeetsPool pool major max_locals i op
loads_integer pool major max_locals i z op h e = among (MeetsPool pool major max_locals i) LOADS op h (rw e refl, (rw e refl, tt))

pub loads_literal : (pool : Pool) (major max_locals i j op : ℕ) → is_among LOADS op ≡ true → entry_of pool i ≡ Some (entry.Text j) → MeetsPool pool major max_locals i op
loads_literal pool major max_locals i j op h e = among (MeetsPool pool major max_locals i) LOADS op h (rw e refl, (rw e refl, tt))

pub loads_class : (pool : Pool) (major max_locals i j op : ℕ) → is_among LOADS op ≡ true → entry_of pool i ≡ Some (entry.Class j) → MeetsPool pool major max_locals i op
loads_class pool major max_locals i j op h e = among (MeetsPool pool major max_locals i) LOADS op h (rw e refl, (rw e refl, tt))

pub loads_long : (pool : Pool) (major max_locals i : ℕ) (z : ℤ) → entry_of pool i ≡ Some (entry.Long z) → MeetsPool pool major max_locals i 0x14
loads_long pool major max_locals i z e = rw e refl

-- ---- classes

plain_class : (name : List ℕ) → is_plain_class name ≡ true → (not (is_array name) ≡ true) × (is_lawful_class name ≡ true)
unfolding is_plain_class
plain_class name h = and_parts (not (is_array name)) (is_lawful_class name) h

pub rule_lawful : (op : ℕ) (name : List ℕ) → class_rule op name ≡ true → is_lawful_class name ≡ true
rule_lawful op name h = by_test (op == 0xbb) h
  where
    by_test : (b : Bool) → (if b then is_plain_class name else is_lawful_class name && (not (op == 0xbd) || nat_lt (dimensions name) 255)) ≡ true → is_lawful_class name ≡ true
    by_test true h = (plain_class name h).1
    by_test false h = (and_parts (is_lawful_class name) (not (op == 0xbd) || nat_lt (dimensions name) 255) h).0

pub plain_is : (name : List ℕ) → is_plain_class name ≡ true → not (is_array name) ≡ true
plain_is name h = (plain_class name h).0

pub plain_lawful : (name : List ℕ) → is_plain_class name ≡ true → is_lawful_class name ≡ true
plain_lawful name h = (plain_class name h).1

abbrev MeetsClass : Pool → ℕ → ℕ → ℕ → List ℕ → ℕ → Type 0
MeetsClass pool major max_locals i name op = class_rule op name ≡ true → MeetsPool pool major max_locals i op

pub names_class : (pool : Pool) (major max_locals i j : ℕ) (name : List ℕ) (op : ℕ) → is_among CLASSES op ≡ true → entry_of pool i ≡ Some (entry.Class j) → entry_of pool j ≡ Some (entry.Utf8 name)
    → class_rule op name ≡ true → MeetsPool pool major max_locals i op
names_class pool major max_locals i j name op h e f rule = among (MeetsClass pool major max_locals i name) CLASSES op h (made, (many, (any, (any', tt)))) rule
  where
    made : is_plain_class name ≡ true → MeetsPool pool major max_locals i 0xbb
    made k = let g = plain_is name k in rw (e, f, g) refl

    many : (is_lawful_class name && nat_lt (dimensions name) 255) ≡ true → MeetsPool pool major max_locals i 0xbd
    many k = let g = (and_parts (is_lawful_class name) (nat_lt (dimensions name) 255) k).1 in rw (e, f, g) refl

    any : (is_lawful_class name && true) ≡ true → MeetsPool pool major max_locals i 0xc0
    any k = rw e refl

    any' : (is_lawful_class name && true) ≡ true → MeetsPool pool major max_locals i 0xc1
    any' k = rw e refl

pub names_dimensions : (pool : Pool) (major max_locals i j n : ℕ) (name : List ℕ) → entry_of pool i ≡ Some (entry.Class j) → entry_of pool j ≡ Some (entry.Utf8 name)
    → has_dimensions n name ≡ true → all_hold (operand_checks pool major max_locals 0xc5 (plain.Dimensions i n)) ≡ true
names_dimensions pool major max_locals i j n name e f h =
    let p = and_parts (nat_le 1 n) (nat_le n (dimensions name)) h in
    let low = p.0 in
    let high = p.1 in
    rw (e, f, low, high) refl

-- ---- members

pub names_field : (pool : Pool) (major max_locals i c n op : ℕ) → is_among FIELDS op ≡ true → entry_of pool i ≡ Some (entry.Field c n) → MeetsPool pool major max_locals i op
names_field pool major max_locals i c n op h e = among (MeetsPool pool major max_locals i) FIELDS op h (rw e refl, (rw e refl, (rw e refl, (rw e refl, tt))))

-- what a call names
pub record IsCalled (pool : Pool) (n : ℕ) (name descriptor : List ℕ) : Type 0 where
  pub i : ℕ
  pub j : ℕ
  pub pair : entry_of pool n ≡ Some (entry.NameAndType i j)
  pub is_name : entry_of pool i ≡ Some (entry.Utf8 name)
  pub is_descriptor : entry_of pool j ≡ Some (entry.Utf8 descriptor)

abbrev MeetsCall : Pool → ℕ → ℕ → ℕ → List ℕ → ℕ → Type 0
MeetsCall pool major max_locals i name op = is_callable op name ≡ true → MeetsPool pool major max_locals i op

pub names_method : (pool : Pool) (major max_locals i c n : ℕ) (name descriptor : List ℕ) (op : ℕ) → is_among CALLS op ≡ true → entry_of pool i ≡ Some (entry.Method c n)
    → IsCalled pool n name descriptor → is_callable op name ≡ true → MeetsPool pool major max_locals i op
names_method pool major max_locals i c n name descriptor op h e called rule =
    let f = called.pair in
    let g = called.is_name in
    among (MeetsCall pool major max_locals i name) CALLS op h (λ k. rw (e, f, g, k) refl, (λ k. rw (e, f, g, k) refl, (λ k. rw (e, f, g, k) refl, tt))) rule

pub names_interface_method : (pool : Pool) (major max_locals i c n : ℕ) (name descriptor : List ℕ) (op : ℕ) → is_among OWN_CALLS op ≡ true → entry_of pool i ≡ Some (entry.InterfaceMethod c n)
    → IsCalled pool n name descriptor → (major == 52) ≡ true → is_callable op name ≡ true → MeetsPool pool major max_locals i op
names_interface_method pool major max_locals i c n name descriptor op h e called version rule =
    let f = called.pair in
    let g = called.is_name in
    among (MeetsCall pool major max_locals i name) OWN_CALLS op h (λ k. rw (e, version, f, g, k) refl, (λ k. rw (e, version, f, g, k) refl, tt)) rule

slots_fit : (d : List ℕ) → is_short d ≡ true → is_method_descriptor d ≡ true → has_slots (interface_slots d) d ≡ true
slots_fit d short is = by_slots (method_slots d) refl is
  where
    by_slots : (o : Option ℕ) → method_slots d ≡ o → is_some o ≡ true → has_slots (interface_slots d) d ≡ true
    by_slots None e h = absurd cc
    by_slots (Some slots) e h = rw (short, e) (eq-eqb (slots + 1) (slots + 1) refl)

pub names_interface : (pool : Pool) (major max_locals i c n : ℕ) (name descriptor : List ℕ) → entry_of pool i ≡ Some (entry.InterfaceMethod c n) → IsCalled pool n name descriptor
    → is_callable 0xb9 name ≡ true → is_short descriptor ≡ true → is_method_descriptor descriptor ≡ true
    → all_hold (operand_checks pool major max_locals 0xb9 (plain.Interface i (interface_slots descriptor))) ≡ true
names_interface pool major max_locals i c n name descriptor e called callable short is =
    let f = called.pair in
    let g = called.is_name in
    let h = called.is_descriptor in
    let slots = slots_fit descriptor short is in
    rw (e, f, g, h, callable, slots) refl

-- ---- locals

pub local_met : (pool : Pool) (major max_locals op n : ℕ) → local_below max_locals op (Some n) ≡ true → all_hold (operand_checks pool major max_locals op (plain.Local n)) ≡ true
local_met pool major max_locals op n h = and_from (local_fits max_locals op (plain.Local n)) true h refl

pub increment_met : (pool : Pool) (major max_locals op n : ℕ) (k : ℤ) → local_below max_locals op (Some n) ≡ true → all_hold (operand_checks pool major max_locals op (plain.Increment n k)) ≡ true
increment_met pool major max_locals op n k h = and_from (local_fits max_locals op (plain.Increment n k)) true h refl

fits_as : (max_locals op : ℕ) (o : Option ℕ) → local_of op plain.Nothing ≡ o → local_below max_locals op o ≡ true → local_fits max_locals op plain.Nothing ≡ true
fits_as max_locals op None e h = rw e refl
fits_as max_locals op (Some n) e h = rw e h

pub nothing_met : (pool : Pool) (major max_locals op : ℕ) → local_below max_locals op (local_of op plain.Nothing) ≡ true → all_hold (operand_checks pool major max_locals op plain.Nothing) ≡ true
nothing_met pool major max_locals op h = and_from (local_fits max_locals op plain.Nothing) true (fits_as max_locals op (local_of op plain.Nothing) refl h) refl
