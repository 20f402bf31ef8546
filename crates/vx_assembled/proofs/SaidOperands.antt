-- The operands of a line are in their ranges, and fit the opcode of its mnemonic.
use Rattle.std.proofs.Common.{◌≡◌, ℕ, ℤ, pos, ◌+◌, ◌-◌, ◌+ℤ◌, ◌-ℤ◌, ◌<◌, ◌≤◌, List, [], ◌∷◌, length, drop, map, Bool, true, false, not, nat_le, int_le, ◌==◌, ◌&&◌, ◌||◌, Option, Some, None, option_and_then, Ok, Err, if◌then◌else◌, ◌⊎◌, inl, inr, FitsSigned, refl, sym, ap, subst, ◌∙◌, arith, codes, length-drop}
use Rattle.std.proofs.lemmas.Bool.{and_parts, or_cases, leb-true, eqb-true, both_ways, agree_below, agree_below_at}
use Rattle.std.proofs.lemmas.Int.{ints}
use Rattle.std.proofs.lemmas.Slice.Eq.{bytes_eq-Decides}
use Rattle.std.specs.Int.{w8, w16, w32, w64}
use Rattle.std.specs.List.{list_all, position_from, AllByRecursion}
use Rattle.std.specs.Str.{bytes_eq}
use Rattle.vx_words.specs.Lines.{words}
use Rattle.vx_opcode.specs.declared.shape.Shape.{Shape}
use Rattle.vx_opcode.specs.declared.shape.Shape.TheVariants as shape
use Rattle.vx_opcode.specs.Table.{runs, shape_in, shape_of}
use Rattle.vx_source_words.specs.Mnemonics.{names, is_assembled, assembled, opcode_of}
use Rattle.vx_source_words.specs.Numbers.{spelled, number_of, is_within, value}
use Rattle.vx_source_words.specs.Reading.{Read, ◌>>=◌, check}
use Rattle.vx_source_words.specs.Texts.{text_of}
use Rattle.vx_source_words.specs.Tokens.{word_at}
use Rattle.vx_source_words.specs.declared.numbers.Number.{Number}
use Rattle.vx_source.specs.Operands.{is_word, ranged, version_of, int_of, long_of, number_operand, local_operand, increment_operand, literal, constant_operand, long_operand, class_operand, jump_operand, member, member_operand, call_operand, kind_of, array_operand, dimensions_operand, table_operand, key_word, is_case, key_of, has_key, case_of, lookup_operand, pool_operand, shaped_operand, operand_of, wide_operand_of}
use Rattle.vx_source.specs.Statements.{loads_text}
use Rattle.vx_source.specs.declared.statement.Case.{Case}
use Rattle.vx_source.specs.declared.statement.Operand.{Operand}
use Rattle.vx_source.specs.declared.statement.Operand.TheVariants as operand
use Rattle.vx_assembled.proofs.Operands.{among, is_among, LOADS, CLASSES, FIELDS}
use Rattle.vx_assembled.proofs.Reading.{bind_ok, check_ok}
use Rattle.vx_assembled.proofs.Sayings.{IsWord, IsSaidText, IsMemberFor, IsSaidJump, IsSaidOperand}
use Rattle.vx_assembled.proofs.Texts.{text_read}
use Rattle.vx_assembled.proofs.Words.{AreWords, word_text}

-- ---- numbers

fits_8 : (n : Number) → is_within 128 127 n ≡ true → FitsSigned w8 (value n)
fits_8 n h = by_sign n.negative (leb-true n.magnitude (if n.negative then 128 else 127) h)
  where
    by_sign : (b : Bool) → n.magnitude ≤ (if b then 128 else 127) → FitsSigned w8 (if b then pos 0 -ℤ pos n.magnitude else pos n.magnitude)
    by_sign true few = omega (arith, ints)
    by_sign false few = omega (arith, ints)

fits_16 : (n : Number) → is_within 32768 32767 n ≡ true → FitsSigned w16 (value n)
fits_16 n h = by_sign n.negative (leb-true n.magnitude (if n.negative then 32768 else 32767) h)
  where
    by_sign : (b : Bool) → n.magnitude ≤ (if b then 32768 else 32767) → FitsSigned w16 (if b then pos 0 -ℤ pos n.magnitude else pos n.magnitude)
    by_sign true few = omega (arith, ints)
    by_sign false few = omega (arith, ints)

fits_32 : (n : Number) → is_within 0x8000_0000 0x7fff_ffff n ≡ true → FitsSigned w32 (value n)
fits_32 n h = by_sign n.negative (leb-true n.magnitude (if n.negative then 0x8000_0000 else 0x7fff_ffff) h)
  where
    by_sign : (b : Bool) → n.magnitude ≤ (if b then 0x8000_0000 else 0x7fff_ffff) → FitsSigned w32 (if b then pos 0 -ℤ pos n.magnitude else pos n.magnitude)
    by_sign true few = omega (arith, ints)
    by_sign false few = omega (arith, ints)

fits_64 : (n : Number) → is_within 0x8000_0000_0000_0000 0x7fff_ffff_ffff_ffff n ≡ true → FitsSigned w64 (value n)
fits_64 n h = by_sign n.negative (leb-true n.magnitude (if n.negative then 0x8000_0000_0000_0000 else 0x7fff_ffff_ffff_ffff) h)
  where
    by_sign : (b : Bool) → n.magnitude ≤ (if b then 0x8000_0000_0000_0000 else 0x7fff_ffff_ffff_ffff) → FitsSigned w64 (if b then pos 0 -ℤ pos n.magnitude else pos n.magnitude)
    by_sign true few = omega (arith, ints)
    by_sign false few = omega (arith, ints)

-- a number without a sign
pub most : (high : ℕ) (n : Number) → is_within 0 high n ≡ true → n.magnitude ≤ high
most high n h = by_sign n.negative (leb-true n.magnitude (if n.negative then 0 else high) h)
  where
    by_sign : (b : Bool) → n.magnitude ≤ (if b then 0 else high) → n.magnitude ≤ high
    by_sign true few = omega (arith, few)
    by_sign false few = few

ranged_is : (low high : ℕ) (word : List ℕ) (n : Number) → ranged low high word ≡ Ok n → is_within low high n ≡ true
ranged_is low high word n e =
    let s = bind_ok (spelled word) (λ m. check (is_within low high m) 3 (Ok m)) n e in
    let c = check_ok (is_within low high s.0) 3 (Ok s.0) n s.2 in
    let same : s.0 ≡ n = let last = c.1 in cc in
    subst (λ (m : Number). is_within low high m ≡ true) same c.0

pub int_fits : (word : List ℕ) (z : ℤ) → int_of word ≡ Ok z → FitsSigned w32 z
unfolding int_of
int_fits word z e =
    let n = bind_ok (ranged 0x8000_0000 0x7fff_ffff word) (λ n. Ok (value n)) z e in
    let same : value n.0 ≡ z = let last = n.2 in cc in
    subst (FitsSigned w32) same (fits_32 n.0 (ranged_is 0x8000_0000 0x7fff_ffff word n.0 n.1))

pub long_fits : (word : List ℕ) (z : ℤ) → long_of word ≡ Ok z → FitsSigned w64 z
unfolding long_of
long_fits word z e =
    let n = bind_ok (ranged 0x8000_0000_0000_0000 0x7fff_ffff_ffff_ffff word) (λ n. Ok (value n)) z e in
    let same : value n.0 ≡ z = let last = n.2 in cc in
    subst (FitsSigned w64) same (fits_64 n.0 (ranged_is 0x8000_0000_0000_0000 0x7fff_ffff_ffff_ffff word n.0 n.1))

pub version_fits : (word : List ℕ) (major : ℕ) → version_of word ≡ Ok major → (45 ≤ major) × (major ≤ 52)
unfolding version_of
version_fits word major e =
    let n = bind_ok (ranged 0 52 word) (λ n. check (nat_le 45 n.magnitude) 3 (Ok n.magnitude)) major e in
    let c = check_ok (nat_le 45 n.0.magnitude) 3 (Ok n.0.magnitude) major n.2 in
    let same : n.0.magnitude ≡ major = let last = c.1 in cc in
    let low = leb-true 45 n.0.magnitude c.0 in
    let high = most 52 n.0 (ranged_is 0 52 word n.0 n.1) in
    (omega (arith, low, same), omega (arith, high, same))

pub literal_is : (word : List ℕ) → IsSaidText (literal word)
literal_is word = by_text (text_of word) refl
  where
    by_text : (r : Read (List ℕ)) → text_of word ≡ r → IsSaidText (literal word)
    by_text (Ok text) e = rw e (text_read word text e)
    by_text (Err reason) e = rw e tt

-- ---- opcodes

-- no opcode above 201 has a shape
few_in : (rows : List (ℕ × Shape)) (op : ℕ) (s : Shape) → list_all (λ row. nat_le row.0 255) rows ≡ true → shape_in rows op ≡ Some s → op < 256
few_in [] op s all e = absurd cc
few_in (row ∷ rows) op s all e =
    let p = and_parts (nat_le row.0 255) (list_all (λ r. nat_le r.0 255) rows) all in
    by_test p.0 (few_in rows op s p.1) (nat_le op row.0) refl e
  where
    by_test : nat_le row.0 255 ≡ true → (shape_in rows op ≡ Some s → op < 256) → (b : Bool) → nat_le op row.0 ≡ b → (if b then Some row.1 else shape_in rows op) ≡ Some s → op < 256
    by_test low others true t k = let a = leb-true op row.0 t in let c = leb-true row.0 255 low in omega (arith, a, c)
    by_test low others false t k = others k

pub few : (op : ℕ) (s : Shape) → shape_of op ≡ Some s → op < 256
few op s e = few_in runs op s refl e

abbrev is_shape : Shape → Shape → Bool
is_shape shape.Byte shape.Byte = true
is_shape shape.Short shape.Short = true
is_shape shape.PoolByte shape.PoolByte = true
is_shape shape.Pool shape.Pool = true
is_shape shape.JumpWide shape.JumpWide = true
is_shape shape.Interface shape.Interface = true
is_shape shape.Array shape.Array = true
is_shape shape.Dimensions shape.Dimensions = true
is_shape shape.Table shape.Table = true
is_shape shape.Lookup shape.Lookup = true
is_shape _ _ = false

abbrev has_shape : Shape → Option Shape → Bool
has_shape s None = false
has_shape s (Some t) = is_shape s t

-- whether the assembled opcodes of a shape are all among some
abbrev are_all : Shape → List ℕ → ℕ → Bool
are_all s ops op = not (has_shape s (shape_of op) && is_assembled op) || is_among ops op

abbrev always : ℕ → Bool
always op = true

by_shape : (s : Shape) (ops : List ℕ) (op : ℕ) → agree_below (are_all s ops) always 256 ≡ true → is_shape s s ≡ true → shape_of op ≡ Some s → is_assembled op ≡ true → is_among ops op ≡ true
by_shape s ops op table own e a = last (not_both (agree_below_at (are_all s ops) always 256 op table (few op s e)))
  where
    not_both : (not (has_shape s (shape_of op) && is_assembled op) || is_among ops op) ≡ true → (not (is_shape s s && true) || is_among ops op) ≡ true
    not_both h = subst (λ (o : Option Shape). (not (has_shape s o && true) || is_among ops op) ≡ true) e (subst (λ (b : Bool). (not (has_shape s (shape_of op) && b) || is_among ops op) ≡ true) a h)

    last : (not (is_shape s s && true) || is_among ops op) ≡ true → is_among ops op ≡ true
    last h = subst (λ (b : Bool). (not (b && true) || is_among ops op) ≡ true) own h

alone : (op n : ℕ) → is_among (n ∷ []) op ≡ true → op ≡ n
alone op n h = by_cases (or_cases (op == n) false h)
  where
    by_cases : ((op == n) ≡ true) ⊎ (false ≡ true) → op ≡ n
    by_cases (inl e) = eqb-true op n e
    by_cases (inr e) = absurd cc

byte_is : (op : ℕ) → shape_of op ≡ Some shape.Byte → is_assembled op ≡ true → op ≡ 0x10
unfolding is_assembled
byte_is op e a = alone op 0x10 (by_shape shape.Byte (0x10 ∷ []) op refl refl e a)

short_is : (op : ℕ) → shape_of op ≡ Some shape.Short → is_assembled op ≡ true → op ≡ 0x11
unfolding is_assembled
short_is op e a = alone op 0x11 (by_shape shape.Short (0x11 ∷ []) op refl refl e a)

near_is : (op : ℕ) → shape_of op ≡ Some shape.PoolByte → is_assembled op ≡ true → op ≡ 0x12
unfolding is_assembled
near_is op e a = alone op 0x12 (by_shape shape.PoolByte (0x12 ∷ []) op refl refl e a)

jump_wide_is : (op : ℕ) → shape_of op ≡ Some shape.JumpWide → is_assembled op ≡ true → op ≡ 0xc8
unfolding is_assembled
jump_wide_is op e a = alone op 0xc8 (by_shape shape.JumpWide (0xc8 ∷ []) op refl refl e a)

interface_is : (op : ℕ) → shape_of op ≡ Some shape.Interface → is_assembled op ≡ true → op ≡ 0xb9
unfolding is_assembled
interface_is op e a = alone op 0xb9 (by_shape shape.Interface (0xb9 ∷ []) op refl refl e a)

array_is : (op : ℕ) → shape_of op ≡ Some shape.Array → is_assembled op ≡ true → op ≡ 0xbc
unfolding is_assembled
array_is op e a = alone op 0xbc (by_shape shape.Array (0xbc ∷ []) op refl refl e a)

dimensions_is : (op : ℕ) → shape_of op ≡ Some shape.Dimensions → is_assembled op ≡ true → op ≡ 0xc5
unfolding is_assembled
dimensions_is op e a = alone op 0xc5 (by_shape shape.Dimensions (0xc5 ∷ []) op refl refl e a)

table_is : (op : ℕ) → shape_of op ≡ Some shape.Table → is_assembled op ≡ true → op ≡ 0xaa
unfolding is_assembled
table_is op e a = alone op 0xaa (by_shape shape.Table (0xaa ∷ []) op refl refl e a)

lookup_is : (op : ℕ) → shape_of op ≡ Some shape.Lookup → is_assembled op ≡ true → op ≡ 0xab
unfolding is_assembled
lookup_is op e a = alone op 0xab (by_shape shape.Lookup (0xab ∷ []) op refl refl e a)

abbrev POOL : List ℕ
POOL = 0x13 ∷ 0x14 ∷ 0xb2 ∷ 0xb3 ∷ 0xb4 ∷ 0xb5 ∷ 0xb6 ∷ 0xb7 ∷ 0xb8 ∷ 0xbb ∷ 0xbd ∷ 0xc0 ∷ 0xc1 ∷ []

pool_among : (op : ℕ) → shape_of op ≡ Some shape.Pool → is_assembled op ≡ true → is_among POOL op ≡ true
unfolding is_assembled
pool_among op e a = by_shape shape.Pool POOL op refl refl e a

-- ---- the mnemonics that may have a text

ldc_is : opcode_of (codes "ldc") ≡ Some 0x12
unfolding opcode_of names is_assembled
ldc_is = refl

ldc_w_is : opcode_of (codes "ldc_w") ≡ Some 0x13
unfolding opcode_of names is_assembled
ldc_w_is = refl

-- a line that may load a text has one of two opcodes
pub loads_op : (words : List (List ℕ)) (op : ℕ) → opcode_of (word_at words 0) ≡ Some op → loads_text words ≡ true → is_among LOADS op ≡ true
loads_op words op e h = by_word (or_cases (is_word words 0 (codes "ldc")) (is_word words 0 (codes "ldc_w")) (and_parts (is_word words 0 (codes "ldc") || is_word words 0 (codes "ldc_w")) (is_word words 1 (codes "string")) h).0)
  where
    same : (n : ℕ) → Some n ≡ Some op → is_among LOADS n ≡ true → is_among LOADS op ≡ true
    same n k g = let is : n ≡ op = cc in subst (λ (m : ℕ). is_among LOADS m ≡ true) is g

    by_word : (is_word words 0 (codes "ldc") ≡ true) ⊎ (is_word words 0 (codes "ldc_w") ≡ true) → is_among LOADS op ≡ true
    by_word (inl is) = same 0x12 (sym ldc_is ∙ sym (ap opcode_of ((bytes_eq-Decides (word_at words 0) (codes "ldc")).0 is)) ∙ e) refl
    by_word (inr is) = same 0x13 (sym ldc_w_is ∙ sym (ap opcode_of ((bytes_eq-Decides (word_at words 0) (codes "ldc_w")).0 is)) ∙ e) refl

pub assembled_is : (word : List ℕ) (op : ℕ) → opcode_of word ≡ Some op → is_assembled op ≡ true
unfolding opcode_of
assembled_is word op e = by_place (position_from (λ name. bytes_eq name word) 0 (words names)) e
  where
    by_test : (n : ℕ) (b : Bool) → is_assembled n ≡ b → (if b then Some n else None) ≡ Some op → is_assembled op ≡ true
    by_test n true t k = let same : n ≡ op = cc in subst (λ (m : ℕ). is_assembled m ≡ true) same t
    by_test n false t k = absurd cc

    by_place : (o : Option ℕ) → option_and_then assembled o ≡ Some op → is_assembled op ≡ true
    by_place None k = absurd cc
    by_place (Some n) k = by_test n (is_assembled n) refl k

-- what is known of the words of an instruction
record IsMnemonic (words : List (List ℕ)) (op : ℕ) : Type 0 where
  are : AreWords words
  assembled : is_assembled op ≡ true
  loads : loads_text words ≡ true → is_among LOADS op ≡ true

-- a word that is the name of something
word_here : (words : List (List ℕ)) (i op : ℕ) → IsMnemonic words op → is_among LOADS op ≡ false → (i ≡ 5 → ⊥) → IsWord (word_at words i)
word_here words i op m not_load not_last =
    word_text words i m.are (λ e. by_loads (loads_text words) refl) (λ e. absurd (not_last e))
  where
    by_loads : (b : Bool) → loads_text words ≡ b → loads_text words ≡ false
    by_loads true h = absurd (both_ways (is_among LOADS op) not_load (m.loads h))
    by_loads false h = h

-- ---- each kind of operand

ok_is : (o p : Operand) → (let f : Operand → Read Operand = λ z. Ok z in f o ≡ f p) → o ≡ p
ok_is o p e = cc

constant_said : (words : List (List ℕ)) (op : ℕ) (o : Operand) → AreWords words → is_among LOADS op ≡ true → constant_operand words ≡ Ok o → IsSaidOperand false op o
unfolding constant_operand
constant_said words op o are load e =
    by_int (is_word words 1 (codes "int")) (check_ok (length words == 3) 2 next o e).1
  where
    at_class : Bool → Read Operand
    at_class b = if b then Ok (operand.Class (word_at words 2)) else Err 2

    named : Read Operand
    named = at_class (is_word words 1 (codes "class"))

    texts : Read Operand
    texts = if is_word words 1 (codes "string") then Ok (operand.Text (literal (word_at words 2))) else named

    next : Read Operand
    next = if is_word words 1 (codes "int") then (int_of (word_at words 2) >>= λ n. Ok (operand.Int n)) else texts

    not_string : is_word words 1 (codes "class") ≡ true → loads_text words ≡ false
    not_string h =
        let is = (bytes_eq-Decides (word_at words 1) (codes "class")).0 h in
        ap (λ (w : List ℕ). (is_word words 0 (codes "ldc") || is_word words 0 (codes "ldc_w")) && bytes_eq w (codes "string")) is ∙ right (is_word words 0 (codes "ldc") || is_word words 0 (codes "ldc_w"))
      where
        right : (b : Bool) → (b && false) ≡ false
        right true = refl
        right false = refl

    by_class : (b : Bool) → is_word words 1 (codes "class") ≡ b → at_class b ≡ Ok o → IsSaidOperand false op o
    by_class true t k =
        subst (IsSaidOperand false op) (ok_is (operand.Class (word_at words 2)) o k)
        (inl load, word_text words 2 are (λ two. not_string t) (λ five. absurd (omega (arith, five))))
    by_class false t k = absurd cc

    by_string : (b : Bool) → (if b then Ok (operand.Text (literal (word_at words 2))) else named) ≡ Ok o → IsSaidOperand false op o
    by_string true k = subst (IsSaidOperand false op) (ok_is (operand.Text (literal (word_at words 2))) o k) (load, literal_is (word_at words 2))
    by_string false k = by_class (is_word words 1 (codes "class")) refl k

    by_int : (b : Bool) → (if b then (int_of (word_at words 2) >>= λ n. Ok (operand.Int n)) else texts) ≡ Ok o → IsSaidOperand false op o
    by_int true k =
        let n = bind_ok (int_of (word_at words 2)) (λ n. Ok (operand.Int n)) o k in
        subst (IsSaidOperand false op) (ok_is (operand.Int n.0) o n.2) (load, int_fits (word_at words 2) n.0 n.1)
    by_int false k = by_string (is_word words 1 (codes "string")) k

long_said : (words : List (List ℕ)) (o : Operand) → long_operand words ≡ Ok o → IsSaidOperand false 0x14 o
unfolding long_operand
long_said words o e =
    let c = check_ok (length words == 3 && is_word words 1 (codes "long")) 2 (long_of (word_at words 2) >>= λ n. Ok (operand.Long n)) o e in
    let n = bind_ok (long_of (word_at words 2)) (λ n. Ok (operand.Long n)) o c.1 in
    subst (IsSaidOperand false 0x14) (ok_is (operand.Long n.0) o n.2) (refl, long_fits (word_at words 2) n.0 n.1)

class_said : (words : List (List ℕ)) (op : ℕ) (o : Operand) → IsMnemonic words op → is_among LOADS op ≡ false → is_among CLASSES op ≡ true → class_operand words ≡ Ok o → IsSaidOperand false op o
unfolding class_operand
class_said words op o m not_load class e =
    let c = check_ok (length words == 2) 2 (Ok (operand.Class (word_at words 1))) o e in
    subst (IsSaidOperand false op) (ok_is (operand.Class (word_at words 1)) o c.1) (inr class, word_here words 1 op m not_load (λ five. omega (arith, five)))

members_are : (words : List (List ℕ)) (op at : ℕ) (interface : Bool) → IsMnemonic words op → is_among LOADS op ≡ false → IsMemberFor op interface → at ≤ 2 → IsSaidOperand false op (member words interface at)
members_are words op at interface m not_load kind few = record {
  for_op = kind;
  class = word_here words at op m not_load (λ five. omega (arith, five, few));
  name = word_here words (at + 1) op m not_load (λ five. omega (arith, five, few));
  descriptor = word_here words (at + 2) op m not_load (λ five. omega (arith, five, few));
}

member_said : (words : List (List ℕ)) (op : ℕ) (o : Operand) → IsMnemonic words op → is_among LOADS op ≡ false → IsMemberFor op false → member_operand words ≡ Ok o → IsSaidOperand false op o
unfolding member_operand
member_said words op o m not_load kind e =
    let c = check_ok (length words == 4) 2 (Ok (member words false 1)) o e in
    subst (IsSaidOperand false op) (ok_is (member words false 1) o c.1) (members_are words op 1 false m not_load kind (omega arith))

call_said : (words : List (List ℕ)) (op : ℕ) (o : Operand) → IsMnemonic words op → is_among LOADS op ≡ false → IsMemberFor op false → IsMemberFor op true → call_operand words ≡ Ok o → IsSaidOperand false op o
unfolding call_operand
call_said words op o m not_load own of_interface e = by_test (length words == 5 && is_word words 1 (codes "interface")) e
  where
    by_test : (b : Bool) → (if b then Ok (member words true 2) else member_operand words) ≡ Ok o → IsSaidOperand false op o
    by_test true k = subst (IsSaidOperand false op) (ok_is (member words true 2) o k) (members_are words op 2 true m not_load of_interface (omega arith))
    by_test false k = member_said words op o m not_load own k

-- an instruction that names an entry of the pool
abbrev SaysPool : List (List ℕ) → Operand → ℕ → Type 0
SaysPool words o op = IsMnemonic words op → pool_operand op words ≡ Ok o → IsSaidOperand false op o

pool_said : (words : List (List ℕ)) (op : ℕ) (o : Operand) → IsMnemonic words op → shape_of op ≡ Some shape.Pool → pool_operand op words ≡ Ok o → IsSaidOperand false op o
unfolding pool_operand
pool_said words op o m is e =
    all_of (SaysPool words o) op (pool_among op is m.assembled)
    (λ m e. constant_said words 0x13 o m.are refl e) (λ m e. long_said words o e)
    (field 0xb2 refl refl (λ e. e)) (field 0xb3 refl refl (λ e. e)) (field 0xb4 refl refl (λ e. e)) (field 0xb5 refl refl (λ e. e))
    (λ m e. member_said words 0xb6 o m refl (inr (inl (refl, refl))) e)
    (λ m e. call_said words 0xb7 o m refl (inr (inl (refl, refl))) (inr (inr (inl (refl, refl)))) e)
    (λ m e. call_said words 0xb8 o m refl (inr (inl (refl, refl))) (inr (inr (inl (refl, refl)))) e)
    (λ m e. class_said words 0xbb o m refl refl e) (λ m e. class_said words 0xbd o m refl refl e) (λ m e. class_said words 0xc0 o m refl refl e) (λ m e. class_said words 0xc1 o m refl refl e)
    m e
  where
    field : (n : ℕ) → is_among LOADS n ≡ false → is_among FIELDS n ≡ true → (pool_operand n words ≡ Ok o → member_operand words ≡ Ok o) → SaysPool words o n
    field n not_load is to m e = member_said words n o m not_load (inl is) (to e)

    all_of : (P : ℕ → Type 0) (op : ℕ) → is_among POOL op ≡ true → P 0x13 → P 0x14 → P 0xb2 → P 0xb3 → P 0xb4 → P 0xb5 → P 0xb6 → P 0xb7 → P 0xb8 → P 0xbb → P 0xbd → P 0xc0 → P 0xc1 → P op
    all_of P op h a b c d e f g i j k l m n = among P POOL op h (a, (b, (c, (d, (e, (f, (g, (i, (j, (k, (l, (m, (n, tt)))))))))))))

number_said : (words : List (List ℕ)) (low high : ℕ) (P : ℤ → Type 0) (o : Operand) → ((n : Number) → is_within low high n ≡ true → P (value n)) → number_operand words low high ≡ Ok o
    → (z : ℤ) × (operand.Number z ≡ o) × P z
unfolding number_operand
number_said words low high P o law e =
    let c = check_ok (length words == 2) 2 (ranged low high (word_at words 1) >>= λ n. Ok (operand.Number (value n))) o e in
    let n = bind_ok (ranged low high (word_at words 1)) (λ n. Ok (operand.Number (value n))) o c.1 in
    (value n.0, ok_is (operand.Number (value n.0)) o n.2, law n.0 (ranged_is low high (word_at words 1) n.0 n.1))

local_said : (words : List (List ℕ)) (from high : ℕ) (o : Operand) → local_operand words from high ≡ Ok o → (n : ℕ) × (operand.Local n ≡ o) × (n ≤ high)
unfolding local_operand
local_said words from high o e =
    let c = check_ok (length words == from + 2) 2 (ranged 0 high (word_at words (from + 1)) >>= λ n. Ok (operand.Local n.magnitude)) o e in
    let n = bind_ok (ranged 0 high (word_at words (from + 1))) (λ n. Ok (operand.Local n.magnitude)) o c.1 in
    (n.0.magnitude, ok_is (operand.Local n.0.magnitude) o n.2, most high n.0 (ranged_is 0 high (word_at words (from + 1)) n.0 n.1))

increment_said : (words : List (List ℕ)) (from high by : ℕ) (P : ℤ → Type 0) (o : Operand) → ((n : Number) → is_within by (by - 1) n ≡ true → P (value n)) → increment_operand words from high by ≡ Ok o
    → (n : ℕ) × (z : ℤ) × (operand.Increment n z ≡ o) × (n ≤ high) × P z
unfolding increment_operand
increment_said words from high by P o law e =
    let last = λ (n k : Number). check (is_within 0 high n && is_within by (by - 1) k) 3 (Ok (operand.Increment n.magnitude (value k))) in
    let c = check_ok (length words == from + 3) 2 (spelled (word_at words (from + 1)) >>= λ n. spelled (word_at words (from + 2)) >>= λ k. last n k) o e in
    let n = bind_ok (spelled (word_at words (from + 1))) (λ n. spelled (word_at words (from + 2)) >>= λ k. last n k) o c.1 in
    let k = bind_ok (spelled (word_at words (from + 2))) (λ k. last n.0 k) o n.2 in
    let t = check_ok (is_within 0 high n.0 && is_within by (by - 1) k.0) 3 (Ok (operand.Increment n.0.magnitude (value k.0))) o k.2 in
    let p = and_parts (is_within 0 high n.0) (is_within by (by - 1) k.0) t.0 in
    (n.0.magnitude, value k.0, ok_is (operand.Increment n.0.magnitude (value k.0)) o t.1, most high n.0 p.0, law k.0 p.1)

jump_said : (words : List (List ℕ)) (op : ℕ) (o : Operand) → IsSaidJump op → jump_operand words ≡ Ok o → IsSaidOperand false op o
unfolding jump_operand
jump_said words op o jumps e =
    let c = check_ok (length words == 2) 2 (Ok (operand.Jump (word_at words 1))) o e in
    subst (IsSaidOperand false op) (ok_is (operand.Jump (word_at words 1)) o c.1) jumps

-- the kinds of arrays
abbrev IsKind : Option ℕ → Type 0
IsKind None = Unit {0}
IsKind (Some k) = (4 ≤ k) × (k ≤ 11)

kind_fits : (word : List ℕ) → IsKind (kind_of word)
kind_fits word = by_kind (bytes_eq word (codes "boolean")) (bytes_eq word (codes "char")) (bytes_eq word (codes "byte")) (bytes_eq word (codes "short")) (bytes_eq word (codes "int")) (bytes_eq word (codes "long"))
  where
    by_kind : (a b c d e f : Bool) → IsKind (if a then Some 4 else if b then Some 5 else if c then Some 8 else if d then Some 9 else if e then Some 10 else if f then Some 11 else None)
    by_kind true b c d e f = (omega arith, omega arith)
    by_kind false true c d e f = (omega arith, omega arith)
    by_kind false false true d e f = (omega arith, omega arith)
    by_kind false false false true e f = (omega arith, omega arith)
    by_kind false false false false true f = (omega arith, omega arith)
    by_kind false false false false false true = (omega arith, omega arith)
    by_kind false false false false false false = tt

array_said : (words : List (List ℕ)) (o : Operand) → array_operand words ≡ Ok o → IsSaidOperand false 0xbc o
unfolding array_operand
array_said words o e = by_kind (kind_of (word_at words 1)) refl (kind_fits (word_at words 1))
  where
    by_kind : (k : Option ℕ) → kind_of (word_at words 1) ≡ k → IsKind (kind_of (word_at words 1)) → IsSaidOperand false 0xbc o
    by_kind None is fits =
        absurd (no_ok 2 o (check_ok (length words == 2) 2 (Err 2) o (rw is at e)).1)
      where
        no_ok : (d : ℕ) (p : Operand) → (let r : Read Operand = Err d in let s : Read Operand = Ok p in r ≡ s) → ⊥
        no_ok d p e = cc
    by_kind (Some k) is fits =
        let made = (check_ok (length words == 2) 2 (Ok (operand.Number (pos k))) o (rw is at e)).1 in
        let range : (4 ≤ k) × (k ≤ 11) = rw is at fits in
        subst (IsSaidOperand false 0xbc) (ok_is (operand.Number (pos k)) o made) (inr (inr (refl, k, refl, range.0, range.1)))

dimensions_said : (words : List (List ℕ)) (o : Operand) → IsMnemonic words 0xc5 → dimensions_operand words ≡ Ok o → IsSaidOperand false 0xc5 o
unfolding dimensions_operand
dimensions_said words o m e =
    let c = check_ok (length words == 3) 2 (ranged 0 255 (word_at words 2) >>= λ n. Ok (operand.Dimensions (word_at words 1) n.magnitude)) o e in
    let n = bind_ok (ranged 0 255 (word_at words 2)) (λ n. Ok (operand.Dimensions (word_at words 1) n.magnitude)) o c.1 in
    let low = most 255 n.0 (ranged_is 0 255 (word_at words 2) n.0 n.1) in
    subst (IsSaidOperand false 0xc5) (ok_is (operand.Dimensions (word_at words 1) n.0.magnitude) o n.2) (refl, word_here words 1 0xc5 m refl (λ five. omega (arith, five)), omega (arith, low))

table_said : (words : List (List ℕ)) (o : Operand) → table_operand words ≡ Ok o → IsSaidOperand false 0xaa o
unfolding table_operand
table_said words o e =
    let made = λ (low : ℤ). operand.Table (record { low = low; fallback = word_at words 2; labels = drop 3 words }) in
    let last = λ (low : ℤ). check (int_le (low +ℤ pos (length words - 3)) (pos 0x8000_0000)) 3 (Ok (made low)) in
    let c = check_ok (nat_le 4 (length words)) 2 (int_of (word_at words 1) >>= λ low. last low) o e in
    let low = bind_ok (int_of (word_at words 1)) (λ low. last low) o c.1 in
    let t = check_ok (int_le (low.0 +ℤ pos (length words - 3)) (pos 0x8000_0000)) 3 (Ok (made low.0)) o low.2 in
    let count : length (drop 3 words) ≡ length words - 3 = length-drop 3 words in
    let some : 1 ≤ length (drop 3 words) = let l = leb-true 4 (length words) c.0 in omega (arith, l, count) in
    subst (IsSaidOperand false 0xaa) (ok_is (made low.0) o t.1) (refl, int_fits (word_at words 1) low.0 low.1, some, rw count t.0)

keys_fit : (words : List (List ℕ)) → list_all has_key words ≡ true → AllByRecursion (λ (c : Case). FitsSigned w32 c.key) (map case_of words)
keys_fit [] h = tt
keys_fit (w ∷ ws) h =
    let p = and_parts (has_key w) (list_all has_key ws) h in
    (by_number (number_of (key_word w)) refl p.0, keys_fit ws p.1)
  where
    by_test : (n : Number) (b : Bool) → is_within 0x8000_0000 0x7fff_ffff n ≡ b → b ≡ true → FitsSigned w32 (if b then value n else pos 0)
    by_test n true t k = fits_32 n t
    by_test n false t k = absurd cc

    by_number : (o : Option Number) → number_of (key_word w) ≡ o → has_key w ≡ true → FitsSigned w32 (key_of w)
    by_number None e k = absurd (none_has (rw e at k))
      where
        none_has : false ≡ true → ⊥
        none_has x = cc
    by_number (Some n) e k = rw e (by_test n (is_within 0x8000_0000 0x7fff_ffff n) refl (rw e at k))

lookup_said : (words : List (List ℕ)) (o : Operand) → lookup_operand words ≡ Ok o → IsSaidOperand false 0xab o
unfolding lookup_operand
lookup_said words o e =
    let made : Operand = operand.Lookup (record { fallback = word_at words 1; cases = map case_of (drop 2 words) }) in
    let c = check_ok (nat_le 2 (length words) && list_all is_case (drop 2 words)) 2 (check (list_all has_key (drop 2 words)) 3 (Ok made)) o e in
    let t = check_ok (list_all has_key (drop 2 words)) 3 (Ok made) o c.1 in
    subst (IsSaidOperand false 0xab) (ok_is made o t.1) (refl, keys_fit (drop 2 words) t.0)

-- ---- by the shape of the opcode

plain_said : (words : List (List ℕ)) (op : ℕ) (o : Operand) → shape_of op ≡ Some shape.Plain → check (length words == 1) 2 (Ok operand.Nothing) ≡ Ok o → IsSaidOperand false op o
plain_said words op o is e = subst (IsSaidOperand false op) (ok_is operand.Nothing o (check_ok (length words == 1) 2 (Ok operand.Nothing) o e).1) is

jump_not_wide : (op : ℕ) → shape_of op ≡ Some shape.Jump → (op == 0xc8) ≡ false
jump_not_wide op is = by_test (op == 0xc8) refl
  where
    by_test : (b : Bool) → (op == 0xc8) ≡ b → (op == 0xc8) ≡ false
    by_test true e = absurd (other (sym (ap shape_of (eqb-true op 0xc8 e)) ∙ is))
      where
        other : Some shape.JumpWide ≡ Some shape.Jump → ⊥
        other k = cc
    by_test false e = e

-- an operand at the opcode that its shape fixes
at_op : (op n : ℕ) (o : Operand) → op ≡ n → IsSaidOperand false n o → IsSaidOperand false op o
at_op op n o e h = subst (λ (m : ℕ). IsSaidOperand false m o) (sym e) h

shaped_said : (s : Shape) (words : List (List ℕ)) (op : ℕ) (o : Operand) → IsMnemonic words op → shape_of op ≡ Some s → shaped_operand s op words ≡ Ok o → IsSaidOperand false op o
unfolding shaped_operand
shaped_said shape.Plain words op o m is e = plain_said words op o is e
shaped_said shape.Byte words op o m is e =
    let n = number_said words 128 127 (FitsSigned w8) o fits_8 e in
    subst (IsSaidOperand false op) n.1 (inl (byte_is op is m.assembled, n.2))
shaped_said shape.Short words op o m is e =
    let n = number_said words 32768 32767 (FitsSigned w16) o fits_16 e in
    subst (IsSaidOperand false op) n.1 (inr (inl (short_is op is m.assembled, n.2)))
shaped_said shape.PoolByte words op o m is e = at_op op 0x12 o (near_is op is m.assembled) (constant_said words 0x12 o m.are refl e)
shaped_said shape.Pool words op o m is e = pool_said words op o m is e
shaped_said shape.Local words op o m is e =
    let n = local_said words 0 255 o e in
    let few = n.2 in
    subst (IsSaidOperand false op) n.1 (is, omega (arith, few))
shaped_said shape.Increment words op o m is e =
    let n = increment_said words 0 255 128 (FitsSigned w8) o fits_8 e in
    let few = n.3 in
    subst (IsSaidOperand false op) n.2 (is, omega (arith, few), n.4)
shaped_said shape.Jump words op o m is e = jump_said words op o (inl (is, jump_not_wide op is)) e
shaped_said shape.JumpWide words op o m is e = jump_said words op o (inr (jump_wide_is op is m.assembled)) e
shaped_said shape.Interface words op o m is e =
    let here = interface_is op is m.assembled in
    at_op op 0xb9 o here (member_said words 0xb9 o (subst (IsMnemonic words) here m) refl (inr (inr (inr refl))) e)
shaped_said shape.Array words op o m is e = at_op op 0xbc o (array_is op is m.assembled) (array_said words o e)
shaped_said shape.Dimensions words op o m is e =
    let here = dimensions_is op is m.assembled in
    at_op op 0xc5 o here (dimensions_said words o (subst (IsMnemonic words) here m) e)
shaped_said shape.Table words op o m is e = at_op op 0xaa o (table_is op is m.assembled) (table_said words o e)
shaped_said shape.Lookup words op o m is e = at_op op 0xab o (lookup_is op is m.assembled) (lookup_said words o e)
shaped_said shape.Dynamic words op o m is e = absurd cc
shaped_said shape.Wide words op o m is e = absurd cc

-- an instruction without wide
pub operand_said : (words : List (List ℕ)) (op : ℕ) (o : Operand) → AreWords words → opcode_of (word_at words 0) ≡ Some op → operand_of op words ≡ Ok o → (op < 256) × IsSaidOperand false op o
operand_said words op o are is e = by_shape' (shape_of op) refl e
  where
    m : IsMnemonic words op
    m = record { are = are; assembled = assembled_is (word_at words 0) op is; loads = loads_op words op is }

    by_shape' : (s : Option Shape) → shape_of op ≡ s → operand_of op words ≡ Ok o → (op < 256) × IsSaidOperand false op o
    by_shape' None f k = absurd (none (rw f at k))
      where
        none : (let r : Read Operand = Err 1 in let t : Read Operand = Ok o in r ≡ t) → ⊥
        none x = cc
    by_shape' (Some s) f k = (few op s f, shaped_said s words op o m f (rw f at k))

-- and with it
pub wide_said : (words : List (List ℕ)) (op : ℕ) (o : Operand) → wide_operand_of op words ≡ Ok o → (op < 256) × IsSaidOperand true op o
wide_said words op o e = by_shape' (shape_of op) refl e
  where
    local : shape_of op ≡ Some shape.Local → local_operand words 1 0xffff ≡ Ok o → (op < 256) × IsSaidOperand true op o
    local f k =
        let n = local_said words 1 0xffff o k in
        let small = n.2 in
        (few op shape.Local f, subst (IsSaidOperand true op) n.1 (f, omega (arith, small)))

    increment : shape_of op ≡ Some shape.Increment → increment_operand words 1 0xffff 32768 ≡ Ok o → (op < 256) × IsSaidOperand true op o
    increment f k =
        let n = increment_said words 1 0xffff 32768 (FitsSigned w16) o fits_16 k in
        let small = n.3 in
        (few op shape.Increment f, subst (IsSaidOperand true op) n.2 (f, omega (arith, small), n.4))

    none : (let r : Read Operand = Err 2 in let t : Read Operand = Ok o in r ≡ t) → (op < 256) × IsSaidOperand true op o
    none x = absurd cc

    by_shape' : (s : Option Shape) → shape_of op ≡ s → wide_operand_of op words ≡ Ok o → (op < 256) × IsSaidOperand true op o
    by_shape' (Some shape.Local) f k = local f (rw f at k)
    by_shape' (Some shape.Increment) f k = increment f (rw f at k)
    by_shape' None f k = none (rw f at k)
    by_shape' (Some s) f k = none (rw f at k)
