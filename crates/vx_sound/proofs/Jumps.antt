-- Jumps and switches lead to positions that are reached.
use Rattle.std.proofs.Common.{Bool, List, Some, [], arith, false, map, pos, refl, subst, sym, true, ℕ, ℤ, ◌*◌, ◌+◌, ◌<◌, ◌∷◌, ◌≡◌}
use Rattle.std.proofs.lemmas.List.Elements.{All-get_or, All-head, All-tail}
use Rattle.std.proofs.lemmas.List.FromFn.{get_or-map-range_with_len, length-map-range_with_len}
use Rattle.std.specs.List.{range_with_len}
use Rattle.std.specs.Prelude.{All, if◌then◌else◌, int_le, nat_abs, not, ◌&&◌, ◌-ℤ◌}
use Rattle.vx_java.specs.Checks.{same_bool, same_reference}
use Rattle.vx_java.specs.Jumps.{branch, if_int, if_ints, if_null, if_same, jump, offset_at, pair_of, passes, switch_lookup, switch_table, target}
use Rattle.vx_java.specs.Machine.{Here, Int, Null, Ref, Value}
use Rattle.vx_java.specs.declared.operation.Test.{Test}
use Rattle.vx_kept_facts.proofs.Operations.{each_pair, key_within}
use Rattle.vx_opcode.specs.Decode.{count}
use Rattle.vx_opcode.specs.Numbers.{s4}
use Rattle.vx_sound.proofs.Sites.{AtSite, LeadsTo, Typed, behind, goes_under, moves_with, types_in, types_with}
use Rattle.vx_sound.proofs.Taken.{int_on_top, reference_on_top}
use Rattle.vx_sound.proofs.Values.{some_same}
use Rattle.vx_sound.specs.Typed.{Typings}
use Rattle.vx_types.specs.Flow.{taken, targets_from}
use Rattle.vx_types.specs.Flow as flow
use Rattle.vx_types.specs.Plain.{int, reference}
use Rattle.vx_types.specs.declared.types.VerType.{VerType}
use Rattle.vx_verify.specs.Typing.{IsReached}

-- what holds of a list made of numbers holds of what is made of each
each_made : (P : ℕ → Type 0) (f : ℕ → ℕ) (n k : ℕ) → All P (map f (range_with_len 0 n)) → k < n → P (f k)
each_made P f n k all less =
    let size = length-map-range_with_len f 0 n in
    subst P (get_or-map-range_with_len f 0 n k k 0 less (omega arith)) (All-get_or P (map f (range_with_len 0 n)) k 0 (omega (arith, size, less)) all)

module _ (typings : Typings) (h : Here) (site : AtSite typings h) where
  -- a position is reached with the types here, but for these operands
  abbrev Reached : List VerType → ℕ → Type 0
  Reached rest position = IsReached h.program (typings h.state.top.method) position (types_with h rest)

  pub jumps : (offset : ℤ) (under : List Value) (rest : List VerType) → Some (types_in h under) ≡ Some rest → Reached rest (target h offset) → Typed typings h (jump h offset under)
  jumps offset under rest same reached =
      moves_with typings h site (target h offset) under (subst (λ (us : List VerType). Reached us (target h offset)) (sym (some_same same)) reached)

  branches : (passed : Bool) (offset : ℤ) (under : List Value) (rest : List VerType) → Some (types_in h under) ≡ Some rest
      → LeadsTo typings h (target h offset ∷ behind h ∷ []) (types_with h rest) → Typed typings h (branch h passed offset under)
  branches true offset under rest same leads = jumps offset under rest same (All-head (Reached rest) (target h offset) (behind h ∷ []) leads.reached)
  branches false offset under rest same leads =
      goes_under typings h site under rest same (record { room = leads.room; reached = All-tail (Reached rest) (target h offset) (behind h ∷ []) leads.reached })

  pub if_int_typed : (test : Test) (offset : ℤ) (operands : List Value) (rest : List VerType) → taken h.program (int ∷ []) (types_in h operands) ≡ Some rest
      → LeadsTo typings h (target h offset ∷ behind h ∷ []) (types_with h rest) → Typed typings h (if_int h test offset operands)
  if_int_typed test offset operands rest e leads =
      int_on_top h.program h.state.heap (λ ops. Typed typings h (if_int h test offset ops)) [] operands rest e (λ a under k.
      branches (passes test a (pos 0)) offset under rest k leads)

  pub if_ints_typed : (test : Test) (offset : ℤ) (operands : List Value) (rest : List VerType) → taken h.program (int ∷ int ∷ []) (types_in h operands) ≡ Some rest
      → LeadsTo typings h (target h offset ∷ behind h ∷ []) (types_with h rest) → Typed typings h (if_ints h test offset operands)
  if_ints_typed test offset operands rest e leads =
      int_on_top h.program h.state.heap (λ ops. Typed typings h (if_ints h test offset ops)) (int ∷ []) operands rest e (λ b under k.
      int_on_top h.program h.state.heap (λ ops. Typed typings h (if_ints h test offset (Int b ∷ ops))) [] under rest k (λ a last l.
      branches (passes test a b) offset last rest l leads))

  pub if_same_typed : (wanted : Bool) (offset : ℤ) (operands : List Value) (rest : List VerType) → taken h.program (reference ∷ reference ∷ []) (types_in h operands) ≡ Some rest
      → LeadsTo typings h (target h offset ∷ behind h ∷ []) (types_with h rest) → Typed typings h (if_same h wanted offset operands)
  if_same_typed wanted offset operands rest e leads =
      reference_on_top h.program h.state.heap (λ ops. Typed typings h (if_same h wanted offset ops)) (reference ∷ []) operands rest e
      (λ under k. reference_on_top h.program h.state.heap (λ ops. Typed typings h (if_same h wanted offset (Null ∷ ops))) [] under rest k
      (λ last l. branches (same_bool wanted true) offset last rest l leads)
      (λ a last q l. branches (same_bool wanted false) offset last rest l leads))
      (λ b under q k. reference_on_top h.program h.state.heap (λ ops. Typed typings h (if_same h wanted offset (Ref b ∷ ops))) [] under rest k
      (λ last l. branches (same_bool wanted false) offset last rest l leads)
      (λ a last r l. branches (same_bool wanted (same_reference (Ref a) (Ref b))) offset last rest l leads))

  pub if_null_typed : (wanted : Bool) (offset : ℤ) (operands : List Value) (rest : List VerType) → taken h.program (reference ∷ []) (types_in h operands) ≡ Some rest
      → LeadsTo typings h (target h offset ∷ behind h ∷ []) (types_with h rest) → Typed typings h (if_null h wanted offset operands)
  if_null_typed wanted offset operands rest e leads =
      reference_on_top h.program h.state.heap (λ ops. Typed typings h (if_null h wanted offset ops)) [] operands rest e
      (λ under k. branches wanted offset under rest k leads)
      (λ r under q k. branches (not wanted) offset under rest k leads)

  -- ---- switches

  pub switch_table_typed : (fallback low high : ℤ) (first : ℕ) (operands : List Value) (rest : List VerType) → taken h.program (int ∷ []) (types_in h operands) ≡ Some rest
      → LeadsTo typings h (target h fallback ∷ targets_from h.code.bytes h.state.top.position first 4 (count low high)) (types_with h rest)
      → Typed typings h (switch_table h fallback low high first operands)
  switch_table_typed fallback low high first operands rest e leads =
      int_on_top h.program h.state.heap (λ ops. Typed typings h (switch_table h fallback low high first ops)) [] operands rest e (λ key under k.
      jumps (if int_le low key && int_le key high then offset_at h (first + 4 * nat_abs (key -ℤ low)) else fallback) under rest k (by key (int_le low key) (int_le key high) refl refl))
    where
      targets : List ℕ
      targets = targets_from h.code.bytes h.state.top.position first 4 (count low high)

      falls : Reached rest (target h fallback)
      falls = All-head (Reached rest) (target h fallback) targets leads.reached

      by : (key : ℤ) (from to : Bool) → int_le low key ≡ from → int_le key high ≡ to
          → Reached rest (target h (if from && to then offset_at h (first + 4 * nat_abs (key -ℤ low)) else fallback))
      by key true true from to =
          each_made (Reached rest) (λ k. flow.target h.state.top.position (s4 h.code.bytes (first + 4 * k))) (count low high) (nat_abs (key -ℤ low))
          (All-tail (Reached rest) (target h fallback) targets leads.reached) (key_within low high key from to)
      by key true false from to = falls
      by key false to from _ = falls

  pub switch_lookup_typed : (fallback : ℤ) (pairs first : ℕ) (operands : List Value) (rest : List VerType) → taken h.program (int ∷ []) (types_in h operands) ≡ Some rest
      → LeadsTo typings h (target h fallback ∷ targets_from h.code.bytes h.state.top.position (first + 4) 8 pairs) (types_with h rest)
      → Typed typings h (switch_lookup h fallback pairs first operands)
  switch_lookup_typed fallback pairs first operands rest e leads =
      int_on_top h.program h.state.heap (λ ops. Typed typings h (switch_lookup h fallback pairs first ops)) [] operands rest e (λ key under k.
      jumps (pair_of h key fallback pairs first) under rest k
      (each_pair (λ offset. Reached rest (target h offset)) h key fallback pairs first
      (All-head (Reached rest) (target h fallback) targets leads.reached)
      (λ n less. each_made (Reached rest) (λ k. flow.target h.state.top.position (s4 h.code.bytes (first + 4 + 8 * k))) pairs n
      (All-tail (Reached rest) (target h fallback) targets leads.reached) less)))
    where
      targets : List ℕ
      targets = targets_from h.code.bytes h.state.top.position (first + 4) 8 pairs
