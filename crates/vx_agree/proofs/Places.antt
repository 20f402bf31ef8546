-- Places with conditions: what a later space keeps of them, and one place more.
use Rattle.std.proofs.Common.{◌≡◌, ◌⊎◌, ℕ, ◌<◌, Bool, true, false, List, [], ◌∷◌, ◌++◌, length, set, get_or, refl, sym, ◌∙◌, ap, arith, zero, suc, inl, inr}
use Rattle.std.specs.Prelude.{Some, None, ◌||◌, ◌&&◌, ◌==◌, not, insert, slice_get}
use Rattle.std.proofs.lemmas.Bool.Decides.{nat_tests}
use Rattle.std.proofs.lemmas.Option.{slice_get-get_or}
use Rattle.vx_space.specs.Sets.{Sets, IsSet, IsLawful, Extends}
use Rattle.vx_agree.specs.declared.reached.Reached.{Reached}
use Rattle.vx_agree.specs.Places.{AreBelow, AreKnownPlaces, IsAtPlace, IsPlaced, IsRightAtEach, is_covered}

-- ---- tests

pub both_or : (a b : Bool) → (a || b) ≡ true → (a ≡ true) ⊎ (b ≡ true)
both_or true b t = inl refl
both_or false b t = inr t

pub or_left : (a b : Bool) → a ≡ true → (a || b) ≡ true
or_left true b t = refl
or_left false b t = cc (t)

pub or_right : (a b : Bool) → b ≡ true → (a || b) ≡ true
or_right true b t = refl
or_right false b t = t

pub and_left : (a b : Bool) → (a && b) ≡ true → a ≡ true
and_left true b t = refl
and_left false b t = t

pub and_right : (a b : Bool) → (a && b) ≡ true → b ≡ true
and_right true b t = t
and_right false b t = cc (t)

pub not_true : (b : Bool) → not b ≡ true → b ≡ false
not_true true t = cc (t)
not_true false t = refl

pub not_both : (b : Bool) → b ≡ true → b ≡ false → ⊥
not_both true t f = cc (f)
not_both false t f = cc (t)

or_later : (a b t : Bool) → (a || (b || t)) ≡ ((a || b) || t)
or_later true b t = refl
or_later false b t = refl

or_swap : (a t b : Bool) → ((a || t) || b) ≡ ((a || b) || t)
or_swap true t b = refl
or_swap false true true = refl
or_swap false true false = refl
or_swap false false true = refl
or_swap false false false = refl

or_first : (t b : Bool) → (t || b) ≡ (b || t)
or_first true true = refl
or_first true false = refl
or_first false true = refl
or_first false false = refl

pub is_zero : (n : ℕ) → (n == 0) ≡ true → n ≡ 0
is_zero n t = grind (arith, nat_tests)

pub is_not_zero : (n : ℕ) → (n == 0) ≡ false → n ≡ 0 → ⊥
is_not_zero n t e = grind (arith, nat_tests)

pub some_length : (n : ℕ) → (n ≡ 0 → ⊥) → 0 < n
some_length zero f = absurd (f refl)
some_length (suc n) f = omega arith

-- ---- a later space

pub places-extends : {I : Type 0} {s0 s1 : Sets I} → Extends s0 s1 → (rs : List (Reached I)) → AreKnownPlaces s0 rs → AreKnownPlaces s1 rs
places-extends x [] k = tt
places-extends x (r ∷ rs) k = (x.known r.condition k.0, places-extends x rs k.1)

pub covered-extends : {I : Type 0} {s0 s1 : Sets I} → Extends s0 s1 → (rs : List (Reached I)) → AreKnownPlaces s0 rs → (c : List Bool) → is_covered s1 rs c ≡ is_covered s0 rs c
covered-extends x [] k c = refl
covered-extends x (r ∷ rs) k c = rw (x.test r.condition c k.0, covered-extends x rs k.1 c) refl

pub each-extends : {I : Type 0} {s0 s1 : Sets I} → Extends s0 s1 → (c : List Bool) (v : ℕ → ℕ → Bool) (same : Bool) (rs : List (Reached I)) → AreKnownPlaces s0 rs → IsRightAtEach s0 c v same rs → IsRightAtEach s1 c v same rs
each-extends x c v same [] k h = tt
each-extends x c v same (r ∷ rs) k h = ((λ t. h.0 (sym (x.test r.condition c k.0) ∙ t)), each-extends x c v same rs k.1 h.1)

-- places that tell the same
pub each-value : {I : Type 0} (s : Sets I) (c : List Bool) (v w : ℕ → ℕ → Bool) (same : Bool) (rs : List (Reached I)) → ((piece byte : ℕ) → v piece byte ≡ w piece byte) → IsRightAtEach s c v same rs → IsRightAtEach s c w same rs
each-value s c v w same [] e h = tt
each-value s c v w same (r ∷ rs) e h = ((λ t. h.0 t ∙ e r.piece r.byte), each-value s c v w same rs e h.1)

pub at_each : {I : Type 0} (s : Sets I) (c : List Bool) (v : ℕ → ℕ → Bool) (same : Bool) (rs : List (Reached I)) (i : ℕ) (d : Reached I) → i < length rs → IsRightAtEach s c v same rs → s.test (get_or rs i d).condition c ≡ true → same ≡ v (get_or rs i d).piece (get_or rs i d).byte
at_each s c v same [] i d l h t = absurd (omega (arith, l))
at_each s c v same (r ∷ rs) zero d l h t = h.0 t
at_each s c v same (r ∷ rs) (suc i) d l h t = at_each s c v same rs i d (omega (arith, l)) h.1 t

pub place_known : {I : Type 0} (s : Sets I) (rs : List (Reached I)) (i : ℕ) (d : Reached I) → i < length rs → AreKnownPlaces s rs → s.is_known (get_or rs i d).condition ≡ true
place_known s [] i d l k = absurd (omega (arith, l))
place_known s (r ∷ rs) zero d l k = k.0
place_known s (r ∷ rs) (suc i) d l k = place_known s rs i d (omega (arith, l)) k.1

pub place_below : {I : Type 0} (bound : ℕ) (rs : List (Reached I)) (i : ℕ) (d : Reached I) → i < length rs → AreBelow bound rs → (get_or rs i d).byte < bound
place_below bound [] i d l k = absurd (omega (arith, l))
place_below bound (r ∷ rs) zero d l k = k.0
place_below bound (r ∷ rs) (suc i) d l k = place_below bound rs i d (omega (arith, l)) k.1

-- what was read twice at a place is one
pub one_item : {A : Type 0} (xs : List A) (i : ℕ) (x y : A) → i < length xs → x ≡ get_or xs i x → y ≡ get_or xs i y → x ≡ y
one_item {A = A} xs i x y l p q = p ∙ either xs i x y l ∙ sym q
  where
    either : (zs : List A) (k : ℕ) (d e : A) → k < length zs → get_or zs k d ≡ get_or zs k e
    either [] k d e l = absurd (omega (arith, l))
    either (z ∷ zs) zero d e l = refl
    either (z ∷ zs) (suc k) d e l = either zs k d e (omega (arith, l))

-- one entry more of some, as the last
pub covered-push : {I : Type 0} (s : Sets I) (rs : List (Reached I)) (r : Reached I) (c : List Bool) → is_covered s (rs ++ r ∷ []) c ≡ (is_covered s rs c || s.test r.condition c)
covered-push s [] r c = or_first (s.test r.condition c) false
covered-push s (x ∷ rs) r c = rw (covered-push s rs r c) (or_later (s.test x.condition c) (is_covered s rs c) (s.test r.condition c))

-- ---- an entry that is put in

known-insert : {I : Type 0} (s : Sets I) (rs : List (Reached I)) (i : ℕ) (r : Reached I) → AreKnownPlaces s rs → s.is_known r.condition ≡ true → AreKnownPlaces s (insert rs i r)
known-insert s [] zero r k e = (e, tt)
known-insert s [] (suc i) r k e = (e, tt)
known-insert s (x ∷ rs) zero r k e = (e, k)
known-insert s (x ∷ rs) (suc i) r k e = (k.0, known-insert s rs i r k.1 e)

below-insert : {I : Type 0} (bound : ℕ) (rs : List (Reached I)) (i : ℕ) (r : Reached I) → r.byte < bound → AreBelow bound rs → AreBelow bound (insert rs i r)
below-insert bound [] zero r e k = (e, tt)
below-insert bound [] (suc i) r e k = (e, tt)
below-insert bound (x ∷ rs) zero r e k = (e, k)
below-insert bound (x ∷ rs) (suc i) r e k = (k.0, below-insert bound rs i r e k.1)

covered-insert : {I : Type 0} (s : Sets I) (rs : List (Reached I)) (i : ℕ) (r : Reached I) (c : List Bool) → is_covered s (insert rs i r) c ≡ (is_covered s rs c || s.test r.condition c)
covered-insert s [] zero r c = or_first (s.test r.condition c) false
covered-insert s [] (suc i) r c = or_first (s.test r.condition c) false
covered-insert s (x ∷ rs) zero r c = or_first (s.test r.condition c) (s.test x.condition c || is_covered s rs c)
covered-insert s (x ∷ rs) (suc i) r c = rw (covered-insert s rs i r c) (or_later (s.test x.condition c) (is_covered s rs c) (s.test r.condition c))

each-insert : {I : Type 0} (s : Sets I) (c : List Bool) (v : ℕ → ℕ → Bool) (same : Bool) (rs : List (Reached I)) (i : ℕ) (r : Reached I) → IsRightAtEach s c v same rs → (s.test r.condition c ≡ true → same ≡ v r.piece r.byte) → IsRightAtEach s c v same (insert rs i r)
each-insert s c v same [] zero r h e = (e, tt)
each-insert s c v same [] (suc i) r h e = (e, tt)
each-insert s c v same (x ∷ rs) zero r h e = (e, h)
each-insert s c v same (x ∷ rs) (suc i) r h e = (h.0, each-insert s c v same rs i r h.1 e)

abbrev entry : {I : Type 0} → ℕ → ℕ → I → Reached I
entry piece byte condition = record { piece = piece; byte = byte; condition = condition }

pub IsPlaced-insert : {I : Type 0} (s : Sets I) (piece byte : ℕ) (condition : I) (old : List (Reached I)) (i : ℕ) → s.is_known condition ≡ true → AreKnownPlaces s old → IsPlaced s s piece byte condition old (insert old i (record { piece = piece; byte = byte; condition = condition }))
IsPlaced-insert s piece byte condition old i k ks = record {
  known = known-insert s old i (entry piece byte condition) ks k;
  below = λ bound l h. below-insert bound old i (entry piece byte condition) l h;
  added = λ c v same says. record {
    each = λ h. each-insert s c v same old i (entry piece byte condition) h says;
    keeps = λ h. covered-insert s old i (entry piece byte condition) c ∙ or_left (is_covered s old c) (s.test condition c) h;
    adds = λ h t. covered-insert s old i (entry piece byte condition) c ∙ or_right (is_covered s old c) (s.test condition c) h;
  };
}

-- ---- an entry whose condition is joined with another

same_entry : {A : Type 0} (x y : A) → Some x ≡ Some y → x ≡ y
same_entry x y e = cc (e)

no_entry : {A : Type 0} (x : A) → None ≡ Some x → ⊥
no_entry x e = cc (e)

pub entry_known : {I : Type 0} (s : Sets I) (rs : List (Reached I)) (i : ℕ) (e : Reached I) → slice_get rs i ≡ Some e → AreKnownPlaces s rs → s.is_known e.condition ≡ true
entry_known s [] i e q k = absurd (no_entry e q)
entry_known s (r ∷ rs) zero e q k = ap (λ x. s.is_known x.condition) (sym (same_entry r e q)) ∙ k.0
entry_known s (r ∷ rs) (suc i) e q k = entry_known s rs i e q k.1

pub entry_there : {A : Type 0} (rs : List A) (i : ℕ) (e d : A) → slice_get rs i ≡ Some e → get_or rs i d ≡ e
entry_there [] i e d q = absurd (no_entry e q)
entry_there (r ∷ rs) zero e d q = same_entry r e q
entry_there (r ∷ rs) (suc i) e d q = entry_there rs i e d q

pub at_place : {I : Type 0} (rs : List (Reached I)) (i piece byte : ℕ) (e : Reached I) → i < length rs → e ≡ get_or rs i e → e.piece ≡ piece → (e.byte == byte) ≡ true → IsAtPlace rs i piece byte
at_place rs i piece byte e l q p t = record { entry = e; there = slice_get-get_or rs i e l ∙ ap Some (sym q); piece_is = p; byte_is = same e.byte t }
  where
    same : (a : ℕ) → (a == byte) ≡ true → a ≡ byte
    same a t = grind (arith, nat_tests)

known-set : {I : Type 0} (s : Sets I) (rs : List (Reached I)) (i : ℕ) (r : Reached I) → AreKnownPlaces s rs → s.is_known r.condition ≡ true → AreKnownPlaces s (set rs i r)
known-set s [] i r k e = tt
known-set s (x ∷ rs) zero r k e = (e, k.1)
known-set s (x ∷ rs) (suc i) r k e = (k.0, known-set s rs i r k.1 e)

below-set : {I : Type 0} (bound : ℕ) (rs : List (Reached I)) (i : ℕ) (r : Reached I) → r.byte < bound → AreBelow bound rs → AreBelow bound (set rs i r)
below-set bound [] i r e k = tt
below-set bound (x ∷ rs) zero r e k = (e, k.1)
below-set bound (x ∷ rs) (suc i) r e k = (k.0, below-set bound rs i r e k.1)

covered-set : {I : Type 0} {s0 s1 : Sets I} → Extends s0 s1 → (rs : List (Reached I)) (i : ℕ) (e r : Reached I) (t : Bool) (c : List Bool) → slice_get rs i ≡ Some e → AreKnownPlaces s0 rs → s1.test r.condition c ≡ (s0.test e.condition c || t) → is_covered s1 (set rs i r) c ≡ (is_covered s0 rs c || t)
covered-set x [] i e r t c q k h = absurd (no_entry e q)
covered-set {s0 = s0} x (y ∷ rs) zero e r t c q k h = rw (h, ← (same_entry y e q), covered-extends x rs k.1 c) (or_swap (s0.test y.condition c) t (is_covered s0 rs c))
covered-set {s0 = s0} x (y ∷ rs) (suc i) e r t c q k h = rw (x.test y.condition c k.0, covered-set x rs i e r t c q k.1 h) (or_later (s0.test y.condition c) (is_covered s0 rs c) t)

each-set : {I : Type 0} {s0 s1 : Sets I} → Extends s0 s1 → (c : List Bool) (v : ℕ → ℕ → Bool) (same : Bool) (rs : List (Reached I)) (i : ℕ) (e r : Reached I) → slice_get rs i ≡ Some e → AreKnownPlaces s0 rs → IsRightAtEach s0 c v same rs → ((s0.test e.condition c ≡ true → same ≡ v e.piece e.byte) → s1.test r.condition c ≡ true → same ≡ v r.piece r.byte) → IsRightAtEach s1 c v same (set rs i r)
each-set x c v same [] i e r q k h f = absurd (no_entry e q)
each-set {s0 = s0} x c v same (y ∷ rs) zero e r q k h f =
    let is = same_entry y e q in
    (f (λ t. h.0 (ap (λ z. s0.test z.condition c) is ∙ t) ∙ ap (λ z. v z.piece z.byte) is), each-extends x c v same rs k.1 h.1)
each-set x c v same (y ∷ rs) (suc i) e r q k h f = ((λ t. h.0 (sym (x.test y.condition c k.0) ∙ t)), each-set x c v same rs i e r q k.1 h.1 f)

pub IsPlaced-set : {I : Type 0} {s0 s1 : Sets I} → Extends s0 s1 → (piece byte : ℕ) (condition joined : I) (old : List (Reached I)) (i : ℕ) (at : IsAtPlace old i piece byte) → AreKnownPlaces s0 old → IsSet s1 joined (λ c. s0.test at.entry.condition c || s0.test condition c) → IsPlaced s0 s1 piece byte condition old (set old i (record { piece = piece; byte = byte; condition = joined }))
IsPlaced-set {s0 = s0} {s1 = s1} x piece byte condition joined old i at k j = record {
  known = known-set s1 old i (entry piece byte joined) (places-extends x old k) j.known;
  below = λ bound l h. below-set bound old i (entry piece byte joined) l h;
  added = λ c v same says.
      let covers = covered-set x old i at.entry (entry piece byte joined) (s0.test condition c) c at.there k (j.test c) in
      record {
        each = λ h. each-set x c v same old i at.entry (entry piece byte joined) at.there k h (λ before t. elim (both_or (s0.test at.entry.condition c) (s0.test condition c) (sym (j.test c) ∙ t)) [
          | inl a ↦ before a ∙ ap (λ p. v p at.entry.byte) at.piece_is ∙ ap (v piece) at.byte_is
          | inr b ↦ says b
        ]);
        keeps = λ h. covers ∙ or_left (is_covered s0 old c) (s0.test condition c) h;
        adds = λ h t. covers ∙ or_right (is_covered s0 old c) (s0.test condition c) h;
      };
}

-- ---- no entry more

pub IsPlaced-never : {I : Type 0} {s : Sets I} → IsLawful s → (piece byte : ℕ) (condition : I) (old : List (Reached I)) → AreKnownPlaces s old → condition ≡ s.never → IsPlaced s s piece byte condition old old
IsPlaced-never {s = s} lawful piece byte condition old k e = record {
  known = k;
  below = λ bound l h. h;
  added = λ c v same says. record {
    each = λ h. h;
    keeps = λ h. h;
    adds = λ t q. absurd (not_both (s.test condition c) t (ap (λ x. s.test x c) e ∙ lawful.never_test c));
  };
}
