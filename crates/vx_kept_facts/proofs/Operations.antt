-- What the row of each operation comes to.
use Rattle.std.proofs.Common.{if◌then◌else◌, Bool, List, arith, codes, false, int_le, nat_abs, refl, subst, suc, true, zero, ℕ, ℤ, ◌&&◌, ◌*◌, ◌+◌, ◌-ℤ◌, ◌<◌, ◌≤◌, ◌∷◌, ◌≡◌}
use Rattle.std.proofs.lemmas.Int.{ints}
use Rattle.vx_pool.specs.Lookups.{entry_of}
use Rattle.vx_java.specs.Jumps.{jump, offset_at, pair_of, switch_lookup, switch_table}
use Rattle.vx_java.specs.Machine.{Here, Int, Long, Null, Top, Value}
use Rattle.vx_java.specs.Row.{row_of}
use Rattle.vx_java.specs.declared.operation.Operation.{Operation}
use Rattle.vx_java.specs.declared.operation.Operation.TheVariants as operation
use Rattle.vx_kept_facts.proofs.CallRows.{invoke_comes, return_from_comes}
use Rattle.vx_kept_facts.proofs.ObjectRows.{array_length_comes, check_cast_comes, get_field_comes, get_static_comes, instance_of_comes, load_element_comes, monitor_comes, new_grid_comes, new_instance_comes, new_primitives_comes, new_references_comes, put_field_comes, put_static_comes, store_element_comes, throw_top_comes}
use Rattle.vx_kept_facts.proofs.PlainRows.{if_int_comes, if_ints_comes, if_null_comes, if_same_comes, increase_comes, int_arithmetic_comes, int_shift_comes, load_comes, long_arithmetic_comes, long_compare_comes, long_shift_comes, on_int_comes, on_long_comes, push_entry_comes, stack_comes, store_comes}
use Rattle.vx_link.specs.Names.{class_name}
use Rattle.vx_list.specs.Places.{item_or}
use Rattle.vx_opcode.specs.Decode.{count}
use Rattle.std.specs.Int.{w32, w64}
use Rattle.vx_value.specs.Arithmetic.{long_to_int, narrow_of, negation, same_int}
use Rattle.vx_kept_facts.proofs.RowClaims.{Asks, JumpsLead, RowClaim, settles}

-- ---- switches

-- a key is as far from the least one as the greatest, or less
nearer : (low high key : ℤ) → int_le low key ≡ true → int_le key high ≡ true → nat_abs (key -ℤ low) ≤ nat_abs (high -ℤ low)
nearer low high key from to = grind (arith, ints)

pub key_within : (low high key : ℤ) → int_le low key ≡ true → int_le key high ≡ true → nat_abs (key -ℤ low) < count low high
key_within low high key from to =
    let ordered : int_le low high ≡ true = grind (arith, ints) in
    let near = nearer low high key from to in
    rw ordered (omega (arith, near))

-- the offset of a key is that of one of the pairs, or the other: the pairs that are left stand behind those that were passed
pairs_left : (P : ℤ → Type 0) (h : Here) (key fallback : ℤ) (pairs passed left first : ℕ) → P fallback → ((k : ℕ) → k < pairs → P (offset_at h (first + 4 + 8 * k)))
    → passed + left ≡ pairs → (at : ℕ) → at ≡ first + 8 * passed → P (pair_of h key fallback left at)
pairs_left P h key fallback pairs passed zero first falls lands count at is = falls
pairs_left P h key fallback pairs passed (suc left) first falls lands count at is =
    by (same_int (offset_at h at) key) (pairs_left P h key fallback pairs (suc passed) left first falls lands (omega (arith, count)) (at + 8) (omega (arith, is)))
  where
    by : (same : Bool) → P (pair_of h key fallback left (at + 8))
        → P (elim same [ true ↦ offset_at h (at + 4) | false ↦ pair_of h key fallback left (at + 8) ])
    by true later =
        let there : first + 4 + 8 * passed ≡ at + 4 = omega (arith, is) in
        subst (λ k. P (offset_at h k)) there (lands passed (omega (arith, count)))
    by false later = later

pub each_pair : (P : ℤ → Type 0) (h : Here) (key fallback : ℤ) (pairs first : ℕ) → P fallback → ((k : ℕ) → k < pairs → P (offset_at h (first + 4 + 8 * k)))
    → P (pair_of h key fallback pairs first)
each_pair P h key fallback pairs first falls lands = pairs_left P h key fallback pairs 0 pairs first falls lands (omega arith) first (omega arith)

module _ (rows : RowClaim) where
  -- a key between the bounds has its jump in the table
  switch_table_comes : (h : Here) → rows.claim.At h → (fallback low high : ℤ) (first : ℕ) (operands : List Value)
      → rows.Lands h fallback → ((k : ℕ) → k < count low high → rows.Lands h (offset_at h (first + 4 * k))) → rows.claim.May h.program (switch_table h fallback low high first operands)
  switch_table_comes h at fallback low high first (Int key ∷ rest) falls lands = by (int_le low key) (int_le key high) refl refl
    where
      by : (from to : Bool) → int_le low key ≡ from → int_le key high ≡ to
          → rows.claim.May h.program (jump h (if from && to then offset_at h (first + 4 * nat_abs (key -ℤ low)) else fallback) rest)
      by true true from to = rows.jumps h at _ rest (lands (nat_abs (key -ℤ low)) (key_within low high key from to))
      by true false from to = rows.jumps h at fallback rest falls
      by false to from _ = rows.jumps h at fallback rest falls
  switch_table_comes h at fallback low high first _ falls lands = rows.claim.breaks h

  switch_lookup_comes : (h : Here) → rows.claim.At h → (fallback : ℤ) (pairs first : ℕ) (operands : List Value)
      → rows.Lands h fallback → ((k : ℕ) → k < pairs → rows.Lands h (offset_at h (first + 4 + 8 * k))) → rows.claim.May h.program (switch_lookup h fallback pairs first operands)
  switch_lookup_comes h at fallback pairs first (Int key ∷ rest) falls lands =
      rows.jumps h at (pair_of h key fallback pairs first) rest (each_pair (rows.Lands h) h key fallback pairs first falls lands)
  switch_lookup_comes h at fallback pairs first _ falls lands = rows.claim.breaks h

  -- ---- operations

  pub operation_comes : (h : Here) → rows.claim.At h → (o : Operation) → JumpsLead rows.Lands h o → Asks rows h.pool o → (operands : List Value) → rows.claim.May h.program (row_of h o operands)
  operation_comes h at operation.Nop leads asks operands = rows.claim.passes h at
  operation_comes h at operation.PushNull leads asks operands = settles rows h at (Null ∷ operands)
  operation_comes h at (operation.PushInt n) leads asks operands = settles rows h at (Int n ∷ operands)
  operation_comes h at (operation.PushLong n) leads asks operands = settles rows h at (Long n ∷ operands)
  operation_comes h at (operation.PushEntry i) leads asks operands = push_entry_comes rows h at (entry_of h.pool i) asks
  operation_comes h at (operation.Load sort n) leads asks operands = load_comes rows h at sort n
  operation_comes h at (operation.Store sort n) leads asks operands = store_comes rows h at sort n operands
  operation_comes h at (operation.LoadElement e) leads asks operands = load_element_comes rows h at e operands
  operation_comes h at (operation.StoreElement e) leads asks operands = store_element_comes rows h at e operands
  operation_comes h at (operation.Stack form) leads asks operands = stack_comes rows h at form
  operation_comes h at (operation.IntArithmetic op) leads asks operands = int_arithmetic_comes rows h at op operands
  operation_comes h at (operation.LongArithmetic op) leads asks operands = long_arithmetic_comes rows h at op operands
  operation_comes h at operation.IntNegate leads asks operands = on_int_comes rows h at (λ a. Int (negation w32 a)) operands
  operation_comes h at operation.LongNegate leads asks operands = on_long_comes rows h at (λ a. Long (negation w64 a)) operands
  operation_comes h at (operation.IntShift op) leads asks operands = int_shift_comes rows h at op operands
  operation_comes h at (operation.LongShift op) leads asks operands = long_shift_comes rows h at op operands
  operation_comes h at (operation.Increase n by) leads asks operands = increase_comes rows h at n by (item_or h.state.top.locals n Top)
  operation_comes h at operation.IntToLong leads asks operands = on_int_comes rows h at (λ a. Long a) operands
  operation_comes h at operation.LongToInt leads asks operands = on_long_comes rows h at (λ a. Int (long_to_int a)) operands
  operation_comes h at (operation.IntNarrow to) leads asks operands = on_int_comes rows h at (λ a. Int (narrow_of to a)) operands
  operation_comes h at operation.LongCompare leads asks operands = long_compare_comes rows h at operands
  operation_comes h at (operation.IfInt test offset) leads asks operands = if_int_comes rows h at test offset operands leads
  operation_comes h at (operation.IfInts test offset) leads asks operands = if_ints_comes rows h at test offset operands leads
  operation_comes h at (operation.IfSame wanted offset) leads asks operands = if_same_comes rows h at wanted offset operands leads
  operation_comes h at (operation.IfNull wanted offset) leads asks operands = if_null_comes rows h at wanted offset operands leads
  operation_comes h at (operation.Goto offset) leads asks operands = rows.jumps h at offset operands leads
  operation_comes h at (operation.SwitchTable fallback low high first) leads asks operands = switch_table_comes h at fallback low high first operands leads.0 leads.1
  operation_comes h at (operation.SwitchLookup fallback pairs first) leads asks operands = switch_lookup_comes h at fallback pairs first operands leads.0 leads.1
  operation_comes h at (operation.Return sort) leads asks operands = return_from_comes rows h at sort
  operation_comes h at (operation.GetStatic i) leads asks operands = get_static_comes rows h at i asks
  operation_comes h at (operation.PutStatic i) leads asks operands = put_static_comes rows h at i asks
  operation_comes h at (operation.GetField i) leads asks operands = get_field_comes rows h at i asks
  operation_comes h at (operation.PutField i) leads asks operands = put_field_comes rows h at i asks
  operation_comes h at (operation.Invoke mode i) leads asks operands = invoke_comes rows h at mode i asks
  operation_comes h at (operation.New i) leads asks operands = new_instance_comes rows h at i asks
  operation_comes h at (operation.NewPrimitives code) leads asks operands = new_primitives_comes rows h at code asks
  operation_comes h at (operation.NewReferences i) leads asks operands = new_references_comes rows h at i asks
  operation_comes h at (operation.NewGrid i d) leads asks operands = new_grid_comes rows h at i d asks
  operation_comes h at operation.Length leads asks operands = array_length_comes rows h at operands
  operation_comes h at operation.Throw leads asks operands = throw_top_comes rows h at operands
  operation_comes h at operation.Monitor leads asks operands = monitor_comes rows h at operands
  operation_comes h at (operation.CheckCast i) leads asks operands = check_cast_comes rows h at (class_name h.pool i) asks operands
  operation_comes h at (operation.InstanceOf i) leads asks operands = instance_of_comes rows h at (class_name h.pool i) asks operands
  operation_comes h at (operation.Refuse word) leads asks operands = rows.lacks h at word (codes "-") asks
