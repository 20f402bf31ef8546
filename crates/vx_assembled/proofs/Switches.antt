-- Jumps and switches, as they stand in code.
use Rattle.std.proofs.Common.{◌≡◌, ℕ, ℤ, pos, negsuc, zero, suc, ◌+◌, ◌-◌, ◌*◌, ◌%◌, ◌^◌, ◌+ℤ◌, ◌-ℤ◌, ◌<◌, ◌≤◌, List, [], ◌∷◌, ◌++◌, length, slice_index, replicate, Bool, true, nat_le, int_le, int_lt, unsigned_abs, ◌&&◌, Option, Some, ◌⊎◌, inl, inr, FitsSigned, refl, sym, ap, subst, ◌∙◌, arith, length-append, mod-eq_of_lt}
use Rattle.std.proofs.lemmas.Bool.{and_from, le-leb, cases_lt}
use Rattle.std.proofs.lemmas.Int.{ints, to_z-of_z}
use Rattle.std.proofs.lemmas.List.Concat.{flat_map-cons}
use Rattle.std.specs.Int.{w16, w32, cast_signed, cast_unsigned}
use Rattle.std.specs.List.{flat_map, AllByRecursion}
use Rattle.byteorder.specs.Endian.{big_bytes}
use Rattle.vx_opcode.specs.declared.instruction.Instruction.{Instruction}
use Rattle.vx_opcode.specs.declared.instruction.Operand.{Operand}
use Rattle.vx_opcode.specs.declared.instruction.Operand.TheVariants as operand
use Rattle.vx_opcode.specs.declared.shape.Shape.TheVariants as shape
use Rattle.vx_opcode.specs.Numbers.{u4, s2, s4}
use Rattle.vx_opcode.specs.Decode.{whole, lawful, aligned, count, table_at, lookup_at, shaped_at, instruction_at}
use Rattle.vx_pool.specs.Instructions.{is_start, is_target, all_below}
use Rattle.vx_code_parts.specs.Drafts.{padding, way, row_bytes, switch_bytes, table_bytes, lookup_bytes}
use Rattle.vx_code_parts.specs.declared.drafts.Row.{Row}
use Rattle.vx_assembled.proofs.Bytes.{Stands, front, behind, within, low_2, low_4}
use Rattle.vx_assembled.proofs.Decoded.{made, by_opcode, after_opcode, is_whole, signed_four}

-- ---- the way of a jump

-- the way back, as it stands in two bytes and in four
back_16 : (at p k : ℕ) → at ≡ p + suc k → k < 32768 → cast_signed w16 ((p + 0x1_0000_0000 - at) % 65536) ≡ negsuc k
back_16 at p k e few =
    let low : (p + 0x1_0000_0000 - at) % 65536 ≡ cast_unsigned w16 (negsuc k) = omega (arith, e, few) in
    ap (cast_signed w16) low ∙ to_z-of_z w16 (negsuc k) (record { sfits = omega (arith, few) })

back_32 : (at p k : ℕ) → at ≡ p + suc k → k < 65536 → cast_signed w32 ((p + 0x1_0000_0000 - at) % 2 ^ 32) ≡ negsuc k
back_32 at p k e few =
    let low : (p + 0x1_0000_0000 - at) % 2 ^ 32 ≡ cast_unsigned w32 (negsuc k) = omega (arith, e, few) in
    ap (cast_signed w32) low ∙ to_z-of_z w32 (negsuc k) (record { sfits = omega (arith, few) })

on_16 : (at p k : ℕ) → p ≡ at + k → k < 32768 → cast_signed w16 ((p + 0x1_0000_0000 - at) % 65536) ≡ pos k
on_16 at p k e few =
    let low : (p + 0x1_0000_0000 - at) % 65536 ≡ cast_unsigned w16 (pos k) = omega (arith, e, few) in
    ap (cast_signed w16) low ∙ to_z-of_z w16 (pos k) (record { sfits = omega (arith, few) })

on_32 : (at p k : ℕ) → p ≡ at + k → k < 65536 → cast_signed w32 ((p + 0x1_0000_0000 - at) % 2 ^ 32) ≡ pos k
on_32 at p k e few =
    let low : (p + 0x1_0000_0000 - at) % 2 ^ 32 ≡ cast_unsigned w32 (pos k) = omega (arith, e, few) in
    ap (cast_signed w32) low ∙ to_z-of_z w32 (pos k) (record { sfits = omega (arith, few) })

leads_back : (at p k : ℕ) → at ≡ p + suc k → pos at +ℤ negsuc k ≡ pos p
leads_back at p k e = omega (arith, ints, e)

jump_16 : (at p : ℕ) → p ≤ at + 32767 → at ≤ p + 32768 → pos at +ℤ cast_signed w16 ((p + 0x1_0000_0000 - at) % 65536) ≡ pos p
jump_16 at p up down = by_order (cases_lt p at)
  where
    by_order : (p < at) ⊎ (at ≤ p) → pos at +ℤ cast_signed w16 ((p + 0x1_0000_0000 - at) % 65536) ≡ pos p
    by_order (inl lt) =
        let k : ℕ = at - p - 1 in
        let e : at ≡ p + suc k = omega (arith, lt) in
        ap (λ (z : ℤ). pos at +ℤ z) (back_16 at p k e (omega (arith, lt, down))) ∙ leads_back at p k e
    by_order (inr le) =
        let k : ℕ = p - at in
        let e : p ≡ at + k = omega (arith, le) in
        ap (λ (z : ℤ). pos at +ℤ z) (on_16 at p k e (omega (arith, le, up))) ∙ ap pos (sym e)

jump_32 : (at p : ℕ) → at < 65536 → p < 65536 → pos at +ℤ cast_signed w32 ((p + 0x1_0000_0000 - at) % 2 ^ 32) ≡ pos p
jump_32 at p a b = by_order (cases_lt p at)
  where
    by_order : (p < at) ⊎ (at ≤ p) → pos at +ℤ cast_signed w32 ((p + 0x1_0000_0000 - at) % 2 ^ 32) ≡ pos p
    by_order (inl lt) =
        let k : ℕ = at - p - 1 in
        let e : at ≡ p + suc k = omega (arith, lt) in
        ap (λ (z : ℤ). pos at +ℤ z) (back_32 at p k e (omega (arith, lt, a))) ∙ leads_back at p k e
    by_order (inr le) =
        let k : ℕ = p - at in
        let e : p ≡ at + k = omega (arith, le) in
        ap (λ (z : ℤ). pos at +ℤ z) (on_32 at p k e (omega (arith, le, b))) ∙ ap pos (sym e)

-- a jump whose way leads to the start of an instruction
target_is : (starts : List ℕ) (at p : ℕ) (jump : ℤ) → pos at +ℤ jump ≡ pos p → is_start starts p ≡ true → is_target starts at jump ≡ true
target_is starts at p jump e h = rw e h

-- where the jumps of an instruction may lead
pub record Leads (starts places : List ℕ) (target : ℕ) : Type 0 where
  pub few : slice_index places target < 65536
  pub is : is_start starts (slice_index places target) ≡ true

pub near_target : (code starts places : List ℕ) (at from target : ℕ) → at < 65536 → Leads starts places target → slice_index places target ≤ at + 32767 → at ≤ slice_index places target + 32768
    → Stands code from (big_bytes 2 (way places at target)) → is_target starts at (s2 code from) ≡ true
unfolding s2
near_target code starts places at from target few leads up down h =
    target_is starts at (slice_index places target) (s2 code from)
    (ap (λ (n : ℕ). pos at +ℤ cast_signed w16 n) (low_2 code from (way places at target) h) ∙ jump_16 at (slice_index places target) up down) leads.is

pub far_target : (code starts places : List ℕ) (at from target : ℕ) → at < 65536 → Leads starts places target
    → Stands code from (big_bytes 4 (way places at target)) → is_target starts at (s4 code from) ≡ true
unfolding s4
far_target code starts places at from target few leads h =
    target_is starts at (slice_index places target) (s4 code from)
    (ap (λ (n : ℕ). pos at +ℤ cast_signed w32 n) (low_4 code from (way places at target) h) ∙ jump_32 at (slice_index places target) few leads.few) leads.is

moved : (code : List ℕ) (n m : ℕ) (text : List ℕ) → n ≡ m → Stands code n text → Stands code m text
moved code n m text e h = subst (λ (k : ℕ). Stands code k text) e h

-- ---- tests of all numbers below one

pub below_from : (n : ℕ) (test : ℕ → Bool) → ((k : ℕ) → k < n → test k ≡ true) → all_below n test ≡ true
below_from zero test h = refl
below_from (suc n) test h = and_from (all_below n test) (test n) (below_from n test (λ k lt. h k (omega (arith, lt)))) (h n (omega arith))

-- ---- the head of a switch

length_zeros : (n : ℕ) → length {A = ℕ} (replicate n 0) ≡ n
length_zeros zero = refl
length_zeros (suc n) = ap suc (length_zeros n)

pub switch_length : (places : List ℕ) (at op fallback : ℕ) → length (switch_bytes places at op fallback) ≡ 5 + padding at
unfolding switch_bytes
switch_length places at op fallback =
    let zeros = length_zeros (padding at) in
    let all = length-append (replicate (padding at) 0) (big_bytes 4 (way places at fallback)) in
    omega (arith, zeros, all)

record HasHead (code places : List ℕ) (at fallback : ℕ) (more : List ℕ) : Type 0 where
  jump : Stands code (aligned at) (big_bytes 4 (way places at fallback))
  rest : Stands code (aligned at + 4) more

head_there : (code places : List ℕ) (at op fallback : ℕ) (more : List ℕ) → Stands code at (switch_bytes places at op fallback ++ more) → HasHead code places at fallback more
unfolding switch_bytes
head_there code places at op fallback more h = record {
  jump = jumps (front code at (switch_bytes places at op fallback) more h);
  rest = moved code (at + (5 + padding at)) (aligned at + 4) more (omega arith) (behind code at (5 + padding at) (switch_bytes places at op fallback) more (switch_length places at op fallback) h);
}
  where
    jumps : Stands code at (switch_bytes places at op fallback) → Stands code (aligned at) (big_bytes 4 (way places at fallback))
    jumps k =
        let next = after_opcode code at op (replicate (padding at) 0 ++ big_bytes 4 (way places at fallback)) k in
        moved code (at + 1 + padding at) (aligned at) (big_bytes 4 (way places at fallback)) (omega arith)
        (behind code (at + 1) (padding at) (replicate (padding at) 0) (big_bytes 4 (way places at fallback)) (length_zeros (padding at)) next)

-- ---- the table

abbrev table_high : ℤ → ℕ → ℕ
table_high low n = cast_unsigned w32 low + n + 0xffff_ffff

high_is : (low : ℤ) (n : ℕ) → FitsSigned w32 low → 1 ≤ n → int_le (low +ℤ pos n) (pos 0x8000_0000) ≡ true → cast_signed w32 (table_high low n % 2 ^ 32) ≡ low +ℤ pos (n - 1)
high_is low n fits some few = grind (arith, ints)

in_order : (low : ℤ) (m : ℕ) → int_le low (low +ℤ pos m) ≡ true
in_order low m = grind (arith, ints)

difference : (low : ℤ) (m : ℕ) → unsigned_abs ((low +ℤ pos m) -ℤ low) ≡ m
difference low m = ap unsigned_abs (same low m)
  where
    same : (z : ℤ) (k : ℕ) → (z +ℤ pos k) -ℤ z ≡ pos k
    same z k = omega (arith, ints)

count_is : (low : ℤ) (n : ℕ) → 1 ≤ n → count low (low +ℤ pos (n - 1)) ≡ n
count_is low n some = rw (in_order low (n - 1), difference low (n - 1)) (omega (arith, some))

ways_length : (places : List ℕ) (at : ℕ) (targets : List ℕ) → length (flat_map (λ t. big_bytes 4 (way places at t)) targets) ≡ 4 * length targets
ways_length places at [] = refl
ways_length places at (t ∷ ts) =
    let one = ap (length {A = ℕ}) (flat_map-cons (λ t. big_bytes 4 (way places at t)) t ts) in
    let others = ways_length places at ts in
    omega (arith, one, others)

-- the way of a key
way_there : (code places : List ℕ) (at from : ℕ) (targets : List ℕ) (k : ℕ) → k < length targets → Stands code from (flat_map (λ t. big_bytes 4 (way places at t)) targets)
    → Stands code (from + 4 * k) (big_bytes 4 (way places at (slice_index targets k)))
way_there code places at from [] k lt h = absurd (omega (arith, lt))
way_there code places at from (t ∷ ts) zero lt h =
    moved code from (from + 4 * 0) (big_bytes 4 (way places at t)) (omega arith)
    (front code from (big_bytes 4 (way places at t)) (flat_map (λ t. big_bytes 4 (way places at t)) ts) (subst (Stands code from) (flat_map-cons (λ t. big_bytes 4 (way places at t)) t ts) h))
way_there code places at from (t ∷ ts) (suc k) lt h =
    moved code (from + 4 + 4 * k) (from + 4 * suc k) (big_bytes 4 (way places at (slice_index ts k))) (omega arith)
    (way_there code places at (from + 4) ts k (omega (arith, lt))
    (behind code from 4 (big_bytes 4 (way places at t)) (flat_map (λ t. big_bytes 4 (way places at t)) ts) refl (subst (Stands code from) (flat_map-cons (λ t. big_bytes 4 (way places at t)) t ts) h)))

all_lead : (P : ℕ → Type 0) (targets : List ℕ) → AllByRecursion P targets → (k : ℕ) → k < length targets → P (slice_index targets k)
all_lead P [] all k lt = absurd (omega (arith, lt))
all_lead P (t ∷ ts) all zero lt = all.0
all_lead P (t ∷ ts) all (suc k) lt = all_lead P ts all.1 k (omega (arith, lt))

-- what a switch is, where it stands
pub record IsSwitch (code starts : List ℕ) (at size : ℕ) (o : Operand) (op : ℕ) : Type 0 where
  pub i : Instruction
  pub opcode : i.opcode ≡ op
  pub operand : i.operand ≡ o
  pub there : instruction_at code at ≡ Some i
  pub length : i.length ≡ size

pub record IsTableThere (code starts : List ℕ) (at size : ℕ) : Type 0 where
  pub fallback : ℤ
  pub low : ℤ
  pub high : ℤ
  pub first : ℕ
  pub switch : IsSwitch code starts at size (operand.Table fallback low high first) 0xaa
  pub targets : (is_target starts at fallback && all_below (count low high) (λ k. is_target starts at (s4 code (first + 4 * k)))) ≡ true
  pub order : int_le low high ≡ true

pub table_length : (places : List ℕ) (at : ℕ) (low : ℤ) (fallback : ℕ) (targets : List ℕ) → length (table_bytes places at low fallback targets) ≡ 13 + padding at + 4 * length targets
unfolding table_bytes
table_length places at low fallback targets =
    let head = switch_length places at 0xaa fallback in
    let ways = ways_length places at targets in
    let all = length-append (switch_bytes places at 0xaa fallback)
    (big_bytes 4 (cast_unsigned w32 low) ++ (big_bytes 4 (table_high low (length targets)) ++ flat_map (λ t. big_bytes 4 (way places at t)) targets)) in
    omega (arith, head, ways, all)

pub table_there : (code starts places : List ℕ) (at : ℕ) (low : ℤ) (fallback : ℕ) (targets : List ℕ) → at < 65536 → FitsSigned w32 low → 1 ≤ length targets
    → int_le (low +ℤ pos (length targets)) (pos 0x8000_0000) ≡ true → Leads starts places fallback → AllByRecursion (Leads starts places) targets
    → Stands code at (table_bytes places at low fallback targets) → IsTableThere code starts at (13 + padding at + 4 * length targets)
unfolding table_bytes switch_bytes shaped_at table_at s4
table_there code starts places at low fallback targets few fits some within_int leads all h = record {
  fallback = s4 code (aligned at);
  low = low;
  high = high;
  first = aligned at + 12;
  switch = record { i = made 0xaa (aligned at + 12 - at + 4 * count low high) (operand.Table (s4 code (aligned at)) low high (aligned at + 12)); opcode = refl; operand = refl; there = there; length = size };
  targets = and_from (is_target starts at (s4 code (aligned at))) (all_below (count low high) (λ k. is_target starts at (s4 code (aligned at + 12 + 4 * k))))
      (far_target code starts places at (aligned at) fallback few leads head.jump)
      (below_from (count low high) (λ k. is_target starts at (s4 code (aligned at + 12 + 4 * k)))
      (λ k lt. let few_keys : k < length targets = subst (λ (m : ℕ). k < m) keys lt in
      far_target code starts places at (aligned at + 12 + 4 * k) (slice_index targets k) few (all_lead (Leads starts places) targets all k few_keys) (way_there code places at (aligned at + 12) targets k few_keys ways)));
  order = in_order low (n - 1);
}
  where
    n : ℕ
    n = length targets

    high : ℤ
    high = low +ℤ pos (n - 1)

    ways_text : List ℕ
    ways_text = flat_map (λ t. big_bytes 4 (way places at t)) targets

    keys_text : List ℕ
    keys_text = big_bytes 4 (table_high low n) ++ ways_text

    more : List ℕ
    more = big_bytes 4 (cast_unsigned w32 low) ++ keys_text

    keys : count low high ≡ n
    keys = count_is low n some

    head : HasHead code places at fallback more
    head = head_there code places at 0xaa fallback more h

    low_there : s4 code (aligned at + 4) ≡ low
    low_there = signed_four code (aligned at + 4) low fits (front code (aligned at + 4) (big_bytes 4 (cast_unsigned w32 low)) keys_text head.rest)

    keys_there : Stands code (aligned at + 8) keys_text
    keys_there = moved code (aligned at + 4 + 4) (aligned at + 8) keys_text (omega arith) (behind code (aligned at + 4) 4 (big_bytes 4 (cast_unsigned w32 low)) keys_text refl head.rest)

    high_there : s4 code (aligned at + 8) ≡ high
    high_there = ap (cast_signed w32) (low_4 code (aligned at + 8) (table_high low n) (front code (aligned at + 8) (big_bytes 4 (table_high low n)) ways_text keys_there)) ∙ high_is low n fits some within_int

    ways : Stands code (aligned at + 12) ways_text
    ways = moved code (aligned at + 8 + 4) (aligned at + 12) ways_text (omega arith) (behind code (aligned at + 8) 4 (big_bytes 4 (table_high low n)) ways_text refl keys_there)

    known : aligned at + 12 - at + 4 * n ≡ 13 + padding at + 4 * n
    known = omega arith

    size : aligned at + 12 - at + 4 * count low high ≡ 13 + padding at + 4 * n
    size = ap (λ (m : ℕ). aligned at + 12 - at + 4 * m) keys ∙ known

    inside : at + (13 + padding at + 4 * n) ≤ length code
    inside = within code at (13 + padding at + 4 * n) (switch_bytes places at 0xaa fallback ++ more) (table_length places at low fallback targets) (omega arith) h

    shaped : ℤ → ℤ → Option Instruction
    shaped a b = lawful (nat_le (aligned at + 12) (length code)) (whole code at 0xaa (aligned at + 12 - at + 4 * count a b) (operand.Table (s4 code (aligned at)) a b (aligned at + 12)))

    there : instruction_at code at ≡ Some (made 0xaa (aligned at + 12 - at + 4 * count low high) (operand.Table (s4 code (aligned at)) low high (aligned at + 12)))
    there =
        by_opcode code at 0xaa shape.Table ((replicate (padding at) 0 ++ big_bytes 4 (way places at fallback)) ++ more) (omega arith) refl h
        ∙ ap (λ (a : ℤ). shaped a (s4 code (aligned at + 8))) low_there
        ∙ ap (λ (b : ℤ). shaped low b) high_there
        ∙ ap (λ (t : Bool). lawful t (whole code at 0xaa (aligned at + 12 - at + 4 * count low high) (operand.Table (s4 code (aligned at)) low high (aligned at + 12)))) (le-leb (aligned at + 12) (length code) (omega (arith, inside)))
        ∙ is_whole code at 0xaa (aligned at + 12 - at + 4 * count low high) (operand.Table (s4 code (aligned at)) low high (aligned at + 12))
        (le-leb (at + (aligned at + 12 - at + 4 * count low high)) (length code) (subst (λ (m : ℕ). at + m ≤ length code) (sym size) inside))

-- ---- pairs of a key and a jump

rows_length : (places : List ℕ) (at : ℕ) (rows : List Row) → length (flat_map (row_bytes places at) rows) ≡ 8 * length rows
rows_length places at [] = refl
rows_length places at (r ∷ rs) =
    let one = ap (length {A = ℕ}) (flat_map-cons (row_bytes places at) r rs) in
    let others = rows_length places at rs in
    omega (arith, one, others)

pub lookup_length : (places : List ℕ) (at fallback : ℕ) (rows : List Row) → length (lookup_bytes places at fallback rows) ≡ 9 + padding at + 8 * length rows
unfolding lookup_bytes
lookup_length places at fallback rows =
    let head = switch_length places at 0xab fallback in
    let pairs = rows_length places at rows in
    let all = length-append (switch_bytes places at 0xab fallback) (big_bytes 4 (length rows) ++ flat_map (row_bytes places at) rows) in
    omega (arith, head, pairs, all)

-- what holds of a row
pub record IsRowFor (starts places : List ℕ) (r : Row) : Type 0 where
  pub leads : Leads starts places r.target
  pub key : FitsSigned w32 r.key

-- keys one above the other
abbrev pub Ascend : List Row → Type 0
Ascend [] = Unit {0}
Ascend (r ∷ []) = Unit {0}
Ascend (r ∷ s ∷ rows) = (int_lt r.key s.key ≡ true) × Ascend (s ∷ rows)

-- the row of a place, as it stands there
record RowThere (code starts places : List ℕ) (at from : ℕ) (rows : List Row) (k : ℕ) : Type 0 where
  row : Row
  text : Stands code (from + 8 * k) (row_bytes places at row)
  is : IsRowFor starts places row
  next : suc k < length rows → (s : Row) × Stands code (from + 8 * k + 8) (row_bytes places at s) × IsRowFor starts places s × (int_lt row.key s.key ≡ true)

row_there : (code starts places : List ℕ) (at from : ℕ) (rows : List Row) (k : ℕ) → k < length rows → AllByRecursion (IsRowFor starts places) rows → Ascend rows
    → Stands code from (flat_map (row_bytes places at) rows) → RowThere code starts places at from rows k
row_there code starts places at from [] k lt all ascend h = absurd (omega (arith, lt))
row_there code starts places at from (r ∷ []) zero lt all ascend h = record {
  row = r;
  text = moved code from (from + 8 * 0) (row_bytes places at r) (omega arith) (front code from (row_bytes places at r) [] (subst (Stands code from) (flat_map-cons (row_bytes places at) r []) h));
  is = all.0;
  next = λ more. absurd (omega (arith, more));
}
row_there code starts places at from (r ∷ s ∷ rows) zero lt all ascend h =
    let here = subst (Stands code from) (flat_map-cons (row_bytes places at) r (s ∷ rows)) h in
    let others = behind code from 8 (row_bytes places at r) (flat_map (row_bytes places at) (s ∷ rows)) refl here in
    record {
      row = r;
      text = moved code from (from + 8 * 0) (row_bytes places at r) (omega arith) (front code from (row_bytes places at r) (flat_map (row_bytes places at) (s ∷ rows)) here);
      is = all.0;
      next = λ more. (
        s,
        moved code (from + 8) (from + 8 * 0 + 8) (row_bytes places at s) (omega arith)
            (front code (from + 8) (row_bytes places at s) (flat_map (row_bytes places at) rows) (subst (Stands code (from + 8)) (flat_map-cons (row_bytes places at) s rows) others)),
        all.1.0,
        ascend.0,
      );
    }
row_there code starts places at from (r ∷ []) (suc k) lt all ascend h = absurd (omega (arith, lt))
row_there code starts places at from (r ∷ s ∷ rows) (suc k) lt all ascend h =
    let others = behind code from 8 (row_bytes places at r) (flat_map (row_bytes places at) (s ∷ rows)) refl (subst (Stands code from) (flat_map-cons (row_bytes places at) r (s ∷ rows)) h) in
    let t = row_there code starts places at (from + 8) (s ∷ rows) k (omega (arith, lt)) all.1 ascend.1 others in
    record {
      row = t.row;
      text = moved code (from + 8 + 8 * k) (from + 8 * suc k) (row_bytes places at t.row) (omega arith) t.text;
      is = t.is;
      next = λ more.
          let n = t.next (omega (arith, more)) in
          (n.0, moved code (from + 8 + 8 * k + 8) (from + 8 * suc k + 8) (row_bytes places at n.0) (omega arith) n.1, n.2, n.3);
    }

key_there : (code places : List ℕ) (at from : ℕ) (r : Row) → FitsSigned w32 r.key → Stands code from (row_bytes places at r) → s4 code from ≡ r.key
key_there code places at from r fits h = signed_four code from r.key fits (front code from (big_bytes 4 (cast_unsigned w32 r.key)) (big_bytes 4 (way places at r.target)) h)

pub record IsLookupThere (code starts : List ℕ) (at size : ℕ) : Type 0 where
  pub fallback : ℤ
  pub pairs : ℕ
  pub first : ℕ
  pub switch : IsSwitch code starts at size (operand.Lookup fallback pairs first) 0xab
  pub targets : (is_target starts at fallback && all_below pairs (λ k. is_target starts at (s4 code (first + 4 + 8 * k)))) ≡ true
  pub order : all_below (pairs - 1) (λ k. int_lt (s4 code (first + 8 * k)) (s4 code (first + 8 * k + 8))) ≡ true

pub lookup_there : (code starts places : List ℕ) (at fallback : ℕ) (rows : List Row) → at < 65536 → length rows < 65536 → Leads starts places fallback → AllByRecursion (IsRowFor starts places) rows → Ascend rows
    → Stands code at (lookup_bytes places at fallback rows) → IsLookupThere code starts at (9 + padding at + 8 * length rows)
unfolding lookup_bytes switch_bytes shaped_at lookup_at
lookup_there code starts places at fallback rows few few_rows leads all ascend h = record {
  fallback = s4 code (aligned at);
  pairs = n;
  first = first;
  switch = record { i = made 0xab (first - at + 8 * n) (operand.Lookup (s4 code (aligned at)) n first); opcode = refl; operand = refl; there = there; length = size };
  targets = and_from (is_target starts at (s4 code (aligned at))) (all_below n (λ k. is_target starts at (s4 code (first + 4 + 8 * k))))
      (far_target code starts places at (aligned at) fallback few leads head.jump)
      (below_from n (λ k. is_target starts at (s4 code (first + 4 + 8 * k))) (λ k lt. jump_there k (row_there code starts places at first rows k lt all ascend rows_there)));
  order = below_from (n - 1) (λ k. int_lt (s4 code (first + 8 * k)) (s4 code (first + 8 * k + 8))) (λ k lt. order_there k lt (row_there code starts places at first rows k (omega (arith, lt)) all ascend rows_there));
}
  where
    n : ℕ
    n = length rows

    first : ℕ
    first = aligned at + 8

    rows_text : List ℕ
    rows_text = flat_map (row_bytes places at) rows

    more : List ℕ
    more = big_bytes 4 n ++ rows_text

    head : HasHead code places at fallback more
    head = head_there code places at 0xab fallback more h

    pairs_there : u4 code (aligned at + 4) ≡ n
    pairs_there = low_4 code (aligned at + 4) n (front code (aligned at + 4) (big_bytes 4 n) rows_text head.rest) ∙ mod-eq_of_lt (omega (arith, few_rows))

    rows_there : Stands code first rows_text
    rows_there = moved code (aligned at + 4 + 4) first rows_text (omega arith) (behind code (aligned at + 4) 4 (big_bytes 4 n) rows_text refl head.rest)

    inside : at + (9 + padding at + 8 * n) ≤ length code
    inside = within code at (9 + padding at + 8 * n) (switch_bytes places at 0xab fallback ++ more) (lookup_length places at fallback rows) (omega arith) h

    size : first - at + 8 * n ≡ 9 + padding at + 8 * n
    size = omega arith

    shaped : ℕ → Option Instruction
    shaped m = lawful (nat_le first (length code)) (whole code at 0xab (first - at + 8 * m) (operand.Lookup (s4 code (aligned at)) m first))

    there : instruction_at code at ≡ Some (made 0xab (first - at + 8 * n) (operand.Lookup (s4 code (aligned at)) n first))
    there =
        by_opcode code at 0xab shape.Lookup ((replicate (padding at) 0 ++ big_bytes 4 (way places at fallback)) ++ more) (omega arith) refl h
        ∙ ap shaped pairs_there
        ∙ ap (λ (t : Bool). lawful t (whole code at 0xab (first - at + 8 * n) (operand.Lookup (s4 code (aligned at)) n first))) (le-leb first (length code) (omega (arith, inside)))
        ∙ is_whole code at 0xab (first - at + 8 * n) (operand.Lookup (s4 code (aligned at)) n first)
        (le-leb (at + (first - at + 8 * n)) (length code) (subst (λ (m : ℕ). at + m ≤ length code) (sym size) inside))

    jump_there : (k : ℕ) → RowThere code starts places at first rows k → is_target starts at (s4 code (first + 4 + 8 * k)) ≡ true
    jump_there k t =
        far_target code starts places at (first + 4 + 8 * k) t.row.target few t.is.leads
        (moved code (first + 8 * k + 4) (first + 4 + 8 * k) (big_bytes 4 (way places at t.row.target)) (omega arith)
        (behind code (first + 8 * k) 4 (big_bytes 4 (cast_unsigned w32 t.row.key)) (big_bytes 4 (way places at t.row.target)) refl t.text))

    order_there : (k : ℕ) → k < n - 1 → RowThere code starts places at first rows k → int_lt (s4 code (first + 8 * k)) (s4 code (first + 8 * k + 8)) ≡ true
    order_there k lt t =
        let s = t.next (omega (arith, lt)) in
        let one = key_there code places at (first + 8 * k) t.row t.is.key t.text in
        let two = key_there code places at (first + 8 * k + 8) s.0 s.2.key s.1 in
        ap (λ (a : ℤ). int_lt a (s4 code (first + 8 * k + 8))) one ∙ ap (λ (b : ℤ). int_lt t.row.key b) two ∙ s.3
