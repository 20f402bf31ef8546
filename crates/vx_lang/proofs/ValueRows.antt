-- What native methods answer by the values of a call is what the ordinary machine makes of the plain values.
use Rattle.std.proofs.Common.{◌≡◌, ◌⊎◌, ℕ, ℤ, ◌+◌, ◌<◌, zero, suc, Bool, true, false, List, [], ◌∷◌, inl, inr, refl, ◌∙◌, ap, arith, pos}
use Rattle.std.proofs.Math.Logic.{⊎_elim}
use Rattle.std.specs.Int.{w32}
use Rattle.std.specs.Prelude.{None, Option, Some}
use Rattle.vx_families.specs.Sorts.{narrowed_slot}
use Rattle.vx_group_states.proofs.StateLaws.{both_first, both_second}
use Rattle.vx_heap.specs.Heap.{HeapView, IsHeapFor, are_held, globals_at, is_held}
use Rattle.vx_java.specs.FirstObjects.{first_boolean}
use Rattle.vx_java.specs.Machine.{Here, Value, go}
use Rattle.vx_java.specs.Machine.{Ref as RefValue}
use Rattle.vx_java.specs.Objects.{int_of_bool}
use Rattle.vx_link.specs.declared.program.Program.{Program}
use Rattle.vx_natives.specs.Arguments.{AreRead, IsRead}
use Rattle.vx_natives.specs.Deeds.{IsRight, deed_says, is_deed_held}
use Rattle.vx_natives.specs.Doing.{over}
use Rattle.vx_natives.specs.Readings.{IsCallOr, said}
use Rattle.vx_natives.specs.Takes.{wants_read}
use Rattle.vx_natives.specs.declared.behaviour.Behaviour.TheVariants.{Compute}
use Rattle.vx_natives.specs.declared.behaviour.Computation.{Computation}
use Rattle.vx_natives.specs.declared.behaviour.Computation.TheVariants as compute
use Rattle.vx_natives.specs.declared.call.Call.{Call}
use Rattle.vx_natives.specs.declared.call.Call.TheVariants as given
use Rattle.vx_objects.proofs.Rows.{same_there}
use Rattle.vx_objects.specs.Answers.{same_slots}
use Rattle.vx_space.specs.Sets.{Sets}
use Rattle.vx_strings.specs.Questions.{gives_bool}
use Rattle.vx_value.specs.Arithmetic.{low_bits, narrow_of, natural}
use Rattle.vx_value.specs.declared.operation.Narrow.{Narrow}
use Rattle.vx_value.specs.declared.operation.Narrow.TheVariants.{Bool as BoolOf}
use Rattle.vx_value.specs.declared.operation.Narrow.TheVariants as narrow
use Rattle.vx_value.specs.declared.slot.Slot.{Slot}
use Rattle.vx_value.specs.declared.slot.Slot.TheVariants.{Int, Long, Null, Ref, Text, Top}
use Rattle.vx_lang.specs.Values.{computed, first_boolean_of, gives}
use Rattle.vx_lang.proofs.FirstObjects.{first_held, first_named}

-- ---- booleans

-- one that was read as a boolean is 0 or 1
abbrev IsBoolean : Slot → Type 0
IsBoolean (Int n) = (n ≡ pos 0) ⊎ (n ≡ pos 1)
IsBoolean a = Unit {0}

bit : (n : ℤ) → (narrow_of BoolOf n ≡ pos 0) ⊎ (narrow_of BoolOf n ≡ pos 1)
bit n = two (low_bits w32 1 n) (omega arith)
  where
    two : (m : ℕ) → m < 2 → (pos m ≡ pos 0) ⊎ (pos m ≡ pos 1)
    two zero l = inl refl
    two (suc zero) l = inr refl
    two (suc (suc m)) l = absurd (omega (arith, l))

boolean : (slot a : Slot) → a ≡ narrowed_slot (Some BoolOf) slot → IsBoolean a
boolean (Int m) (Int n) e =
    let same : n ≡ narrow_of BoolOf m = cc in
    ⊎_elim (λ (z : narrow_of BoolOf m ≡ pos 0). inl (same ∙ z)) (λ (o : narrow_of BoolOf m ≡ pos 1). inr (same ∙ o)) (bit m)
boolean Top (Int n) e = cc e
boolean (Long m) (Int n) e = cc e
boolean Null (Int n) e = cc e
boolean (Ref m) (Int n) e = cc e
boolean (Text m) (Int n) e = cc e
boolean slot _ e = tt

-- the one value of a call that is read as a boolean
read_boolean : (to : List (Option Narrow)) (a : Slot) → wants_read (Compute compute.BooleanOf) to ≡ true → AreRead to (a ∷ []) → IsBoolean a
read_boolean [] a w r = absurd r
read_boolean (t ∷ []) a w r = by a t w r.0
  where
    by : (a : Slot) (t : Option Narrow) → wants_read (Compute compute.BooleanOf) (t ∷ []) ≡ true → IsRead t a → IsBoolean a
    by a (Some BoolOf) w r = boolean r.slot a r.is
    by a (Some narrow.Byte) w r = cc w
    by a (Some narrow.Char) w r = cc w
    by a (Some narrow.Short) w r = cc w
    by a None w r = cc w
read_boolean (t ∷ u ∷ to) a w r = absurd r.1

-- ---- calls

module _ {S I : Type 0} (p : Program) (sets : Sets I) (heap : HeapView S I) (c : List Bool) (is_for : IsHeapFor p heap) (runs : sets.test heap.allowed c ≡ true) where
  abbrev H : Here → Here
  H h = over p h (globals_at sets heap c)

  bool_says : (b : Bool) (h : Here) (rest : List Value) → deed_says sets heap (gives_bool b) c (H h) rest ≡ go (H h) (int_of_bool b ∷ rest)
  bool_says true h rest = refl
  bool_says false h rest = refl

  bool_held : (b : Bool) → is_deed_held sets heap c (gives_bool b) ≡ true
  bool_held true = refl
  bool_held false = refl

  boolean_row : (n : ℕ) → n < 2 → (h : Here) (rest : List Value) → deed_says sets heap (gives (Ref (258 + n))) c (H h) rest ≡ go (H h) (RefValue (258 + n) ∷ rest)
  boolean_row n l h rest = ap (λ k. go (H h) (RefValue k ∷ rest)) (first_named p sets heap c (258 + n) is_for runs (omega (arith, l)))

  boolean_held : (n : ℕ) → n < 2 → is_deed_held sets heap c (gives (Ref (258 + n))) ≡ true
  boolean_held n l = first_held p sets heap c (258 + n) is_for runs (omega (arith, l))

  -- the Boolean object of a boolean
  boolean_right : (n : ℤ) → (n ≡ pos 0) ⊎ (n ≡ pos 1) → IsRight p sets heap c (λ d h rest. go h (RefValue (first_boolean (natural n)) ∷ rest)) (gives (Ref (first_boolean_of n)))
  boolean_right n e =
      ⊎_elim
      (λ (z : n ≡ pos 0). rw z (record { held = boolean_held 0 (omega arith); at = boolean_row 0 (omega arith) }))
      (λ (o : n ≡ pos 1). rw o (record { held = boolean_held 1 (omega arith); at = boolean_row 1 (omega arith) }))
      e

  one_held : (a : Slot) → are_held sets heap c (a ∷ []) ≡ true → is_held sets heap c a ≡ true
  one_held a t = both_first (is_held sets heap c a) true t

  two_held : (a b : Slot) → are_held sets heap c (a ∷ b ∷ []) ≡ true → is_held sets heap c b ≡ true
  two_held a b t = one_held b (both_second (is_held sets heap c a) (are_held sets heap c (b ∷ [])) t)

  pub computed_right : (k : Computation) (call : Call) → IsCallOr sets heap c (Compute k) call → IsRight p sets heap c (said sets heap (Compute k) call) (computed k call)
  computed_right compute.Pass given.Illegal k = record { held = refl; at = λ h rest. refl }
  computed_right compute.Pass (given.One a) k = record { held = refl; at = λ h rest. refl }
  computed_right compute.Pass call k = cc k.given.count
  computed_right compute.False given.Illegal k = record { held = refl; at = λ h rest. refl }
  computed_right compute.False (given.One a) k = record { held = refl; at = λ h rest. refl }
  computed_right compute.False call k = cc k.given.count
  computed_right compute.Receiver given.Illegal k = record { held = refl; at = λ h rest. refl }
  computed_right compute.Receiver (given.One (Ref r)) k = record { held = one_held (Ref r) k.held; at = λ h rest. refl }
  computed_right compute.Receiver (given.One a) k = record { held = refl; at = λ h rest. refl }
  computed_right compute.Receiver call k = cc k.given.count
  computed_right compute.Exit given.Illegal k = record { held = refl; at = λ h rest. refl }
  computed_right compute.Exit (given.One (Int n)) k = record { held = refl; at = λ h rest. refl }
  computed_right compute.Exit (given.One a) k = record { held = refl; at = λ h rest. refl }
  computed_right compute.Exit call k = cc k.given.count
  computed_right compute.BooleanOf given.Illegal k = record { held = refl; at = λ h rest. refl }
  computed_right compute.BooleanOf (given.One (Int n)) k = boolean_right n (read_boolean k.given.to (Int n) k.given.wants k.given.read)
  computed_right compute.BooleanOf (given.One a) k = record { held = refl; at = λ h rest. refl }
  computed_right compute.BooleanOf call k = cc k.given.count
  computed_right compute.AbsoluteInt given.Illegal k = record { held = refl; at = λ h rest. refl }
  computed_right compute.AbsoluteInt (given.One (Int n)) k = record { held = refl; at = λ h rest. refl }
  computed_right compute.AbsoluteInt (given.One a) k = record { held = refl; at = λ h rest. refl }
  computed_right compute.AbsoluteInt call k = cc k.given.count
  computed_right compute.AbsoluteLong given.Illegal k = record { held = refl; at = λ h rest. refl }
  computed_right compute.AbsoluteLong (given.One (Long n)) k = record { held = refl; at = λ h rest. refl }
  computed_right compute.AbsoluteLong (given.One a) k = record { held = refl; at = λ h rest. refl }
  computed_right compute.AbsoluteLong call k = cc k.given.count
  computed_right compute.SameObject given.Illegal k = record { held = refl; at = λ h rest. refl }
  computed_right compute.SameObject (given.Two a b) k = record { held = bool_held (same_slots a b); at = λ h rest. bool_says (same_slots a b) h rest ∙ ap (λ q. go (H h) (int_of_bool q ∷ rest)) (same_there sets heap c a b (both_first (is_held sets heap c a) (are_held sets heap c (b ∷ [])) k.held) (two_held a b k.held)) }
  computed_right compute.SameObject call k = cc k.given.count
  computed_right compute.AddSuppressed given.Illegal k = record { held = refl; at = λ h rest. refl }
  computed_right compute.AddSuppressed (given.Two (Ref r) (Ref q)) k = record { held = refl; at = λ h rest. refl }
  computed_right compute.AddSuppressed (given.Two (Ref r) Null) k = record { held = refl; at = λ h rest. refl }
  computed_right compute.AddSuppressed (given.Two (Ref r) b) k = record { held = refl; at = λ h rest. refl }
  computed_right compute.AddSuppressed (given.Two a b) k = record { held = refl; at = λ h rest. refl }
  computed_right compute.AddSuppressed call k = cc k.given.count
  computed_right compute.CompareInts given.Illegal k = record { held = refl; at = λ h rest. refl }
  computed_right compute.CompareInts (given.Two (Int m) (Int n)) k = record { held = refl; at = λ h rest. refl }
  computed_right compute.CompareInts (given.Two (Int m) b) k = record { held = refl; at = λ h rest. refl }
  computed_right compute.CompareInts (given.Two (Long m) (Long n)) k = record { held = refl; at = λ h rest. refl }
  computed_right compute.CompareInts (given.Two (Long m) b) k = record { held = refl; at = λ h rest. refl }
  computed_right compute.CompareInts (given.Two a b) k = record { held = refl; at = λ h rest. refl }
  computed_right compute.CompareInts call k = cc k.given.count
  computed_right compute.GreaterInt given.Illegal k = record { held = refl; at = λ h rest. refl }
  computed_right compute.GreaterInt (given.Two (Int m) (Int n)) k = record { held = refl; at = λ h rest. refl }
  computed_right compute.GreaterInt (given.Two (Int m) b) k = record { held = refl; at = λ h rest. refl }
  computed_right compute.GreaterInt (given.Two (Long m) (Long n)) k = record { held = refl; at = λ h rest. refl }
  computed_right compute.GreaterInt (given.Two (Long m) b) k = record { held = refl; at = λ h rest. refl }
  computed_right compute.GreaterInt (given.Two a b) k = record { held = refl; at = λ h rest. refl }
  computed_right compute.GreaterInt call k = cc k.given.count
  computed_right compute.LesserInt given.Illegal k = record { held = refl; at = λ h rest. refl }
  computed_right compute.LesserInt (given.Two (Int m) (Int n)) k = record { held = refl; at = λ h rest. refl }
  computed_right compute.LesserInt (given.Two (Int m) b) k = record { held = refl; at = λ h rest. refl }
  computed_right compute.LesserInt (given.Two (Long m) (Long n)) k = record { held = refl; at = λ h rest. refl }
  computed_right compute.LesserInt (given.Two (Long m) b) k = record { held = refl; at = λ h rest. refl }
  computed_right compute.LesserInt (given.Two a b) k = record { held = refl; at = λ h rest. refl }
  computed_right compute.LesserInt call k = cc k.given.count
  computed_right compute.GreaterLong given.Illegal k = record { held = refl; at = λ h rest. refl }
  computed_right compute.GreaterLong (given.Two (Int m) (Int n)) k = record { held = refl; at = λ h rest. refl }
  computed_right compute.GreaterLong (given.Two (Int m) b) k = record { held = refl; at = λ h rest. refl }
  computed_right compute.GreaterLong (given.Two (Long m) (Long n)) k = record { held = refl; at = λ h rest. refl }
  computed_right compute.GreaterLong (given.Two (Long m) b) k = record { held = refl; at = λ h rest. refl }
  computed_right compute.GreaterLong (given.Two a b) k = record { held = refl; at = λ h rest. refl }
  computed_right compute.GreaterLong call k = cc k.given.count
  computed_right compute.LesserLong given.Illegal k = record { held = refl; at = λ h rest. refl }
  computed_right compute.LesserLong (given.Two (Int m) (Int n)) k = record { held = refl; at = λ h rest. refl }
  computed_right compute.LesserLong (given.Two (Int m) b) k = record { held = refl; at = λ h rest. refl }
  computed_right compute.LesserLong (given.Two (Long m) (Long n)) k = record { held = refl; at = λ h rest. refl }
  computed_right compute.LesserLong (given.Two (Long m) b) k = record { held = refl; at = λ h rest. refl }
  computed_right compute.LesserLong (given.Two a b) k = record { held = refl; at = λ h rest. refl }
  computed_right compute.LesserLong call k = cc k.given.count
