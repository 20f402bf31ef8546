-- How many words operands take, and whether they fit.
use Rattle.std.proofs.Common.{◌≡◌, ℕ, ◌+◌, ◌<◌, ◌≤◌, ◌*◌, ◌^◌, zero, suc, Bool, true, List, [], ◌∷◌, ◌++◌, refl, sym, ◌∙◌, ap, subst, arith, map, length, reverse, take, add-one}
use Rattle.std.proofs.lemmas.List.{length-map, reverse-append, take_all}
use Rattle.std.specs.Ordering.{nat_cmp}
use Rattle.std.specs.Prelude.{Option, Some, None, if◌then◌else◌, is_some, slice_get}
use Rattle.vx_value.specs.declared.slot.Slot.{Slot}
use Rattle.vx_value.specs.declared.slot.Slot.TheVariants.{Top, Int, Long, Null, Ref, Text}
use Rattle.vx_value.specs.Slot.{slot_cmp}
use Rattle.vx_space.specs.Sets.{Sets, Extends}
use Rattle.vx_space.proofs.Spaces.{Extends-refl, Extends-trans}
use Rattle.vx_cond.specs.Cond.{Conditional, IsCond, IsCondLifting2, IsCondOf, cond_at}
use Rattle.vx_cond.specs.Leaves.{IsLifted2, value_within}
use Rattle.vx_cond.specs.Row.{Conditionals, IsRow}
use Rattle.vx_cond.specs.Slots.{or_top, slot_at, slots_at}
use Rattle.vx_cond.proofs.CondLaws.{IsCond-of, cond_at-extends, cond_at-of}
use Rattle.vx_cond.proofs.RowSteps.{IsRow-get, slots_at-get}
use Rattle.vx_cond.proofs.SideLaws.{cond_at-covers}
use Rattle.vx_heap.specs.Heap.{HeapView, value_of}
use Rattle.vx_java.specs.Machine.{stack_size, width}
use Rattle.vx_group_states.specs.Widths.{slot_width, slots_size}

width_of : {S I : Type 0} (sets : Sets I) (heap : HeapView S I) (c : List Bool) (slot : Slot) → width (value_of sets heap c slot) ≡ slot_width slot
width_of sets heap c Top = refl
width_of sets heap c (Int n) = refl
width_of sets heap c (Long n) = refl
width_of sets heap c Null = refl
width_of sets heap c (Ref n) = refl
width_of sets heap c (Text n) = refl

pub slots_size-append : (xs ys : List Slot) → slots_size (xs ++ ys) ≡ slots_size xs + slots_size ys
slots_size-append [] ys = omega arith
slots_size-append (x ∷ xs) ys = omega (arith, slots_size-append xs ys)

pub slots_size-reverse : (xs : List Slot) → slots_size (reverse xs) ≡ slots_size xs
slots_size-reverse [] = refl
slots_size-reverse (x ∷ xs) = ap slots_size (reverse-cons x xs) ∙ slots_size-append (reverse xs) (x ∷ []) ∙ omega (arith, slots_size-reverse xs)
  where
    reverse-cons : (x : Slot) (xs : List Slot) → reverse (x ∷ xs) ≡ reverse xs ++ x ∷ []
    reverse-cons x xs = reverse-append (x ∷ []) xs

plain_size : {S I : Type 0} (sets : Sets I) (heap : HeapView S I) (c : List Bool) (xs : List Slot) → stack_size (map (value_of sets heap c) xs) ≡ slots_size xs
plain_size sets heap c [] = refl
plain_size sets heap c (x ∷ xs) = λ i. width_of sets heap c x i + plain_size sets heap c xs i

-- the size of plain operands, the top first, is that of their slots
pub stack_size_of : {S I : Type 0} (sets : Sets I) (heap : HeapView S I) (c : List Bool) (slots : List Slot) → stack_size (map (value_of sets heap c) (reverse slots)) ≡ slots_size slots
stack_size_of sets heap c slots = plain_size sets heap c (reverse slots) ∙ slots_size-reverse slots

-- each slot takes a word at least, and two at most
pub slots_size-least : (xs : List Slot) → length xs ≤ slots_size xs
slots_size-least [] = omega arith
slots_size-least (x ∷ xs) = omega (arith, least x, slots_size-least xs)
  where
    least : (x : Slot) → 1 ≤ slot_width x
    least Top = omega arith
    least (Int n) = omega arith
    least (Long n) = omega arith
    least Null = omega arith
    least (Ref n) = omega arith
    least (Text n) = omega arith

most : (x : Slot) → slot_width x ≤ 2
most Top = omega arith
most (Int n) = omega arith
most (Long n) = omega arith
most Null = omega arith
most (Ref n) = omega arith
most (Text n) = omega arith

pub slots_size-most : (xs : List Slot) → slots_size xs ≤ 2 * length xs
slots_size-most [] = omega arith
slots_size-most (x ∷ xs) = omega (arith, most x, slots_size-most xs)

-- ---- the sizes of a stack at each configuration

-- what the loop keeps: the size of the operands so far, beside so many words
pub record IsSized {S I : Type 0} (start sets : Sets I) (row : Conditionals Slot S I) (base i : ℕ) (total : Conditional ℕ S I) : Type 0 where
  pub extends : Extends start sets
  pub is_cond : IsCond nat_cmp sets total
  pub scope : total.scope ≡ row.scope
  pub at : (c : List Bool) → start.test row.scope c ≡ true → cond_at sets total c ≡ Some (base + slots_size (take i (slots_at start row c)))

pub IsSized-start : {S I : Type 0} (sets : Sets I) (row : Conditionals Slot S I) (base : ℕ) (total : Conditional ℕ S I) (scope : I) → scope ≡ row.scope → total.scope ≡ scope → IsCondOf nat_cmp sets (value_within sets scope (λ _. Some base)) total → IsSized sets sets row base 0 total
IsSized-start {S = S} {I = I} sets row base total scope e s v = record {
  extends = Extends-refl sets;
  is_cond = IsCond-of nat_cmp sets _ total v;
  scope = s ∙ e;
  at = λ c t.
      let none : base ≡ base + 0 = omega arith in
      cond_at-of nat_cmp sets _ total c v ∙ inside (sets.test scope c) (ap (λ i. sets.test i c) e ∙ t) ∙ ap Some none;
}
  where
    inside : {T : Type 0} {v : T} (b : Bool) → b ≡ true → (if b then Some v else None) ≡ Some v
    inside b h = rw h refl

lifted : (R : ℕ → Slot → ℕ → Type 0) (n r : Option ℕ) (s : Option Slot) (size : ℕ) → ((n : ℕ) (s : Slot) (r : ℕ) → R n s r → n + 2 < 2 ^ 64 → r ≡ n + slot_width s) → n ≡ Some size → is_some s ≡ true → size + 2 < 2 ^ 64 → IsLifted2 R n s r → r ≡ Some (size + slot_width (or_top s))
lifted R None r s size law e t few h = cc
lifted R (Some n) r None size law e t few h = cc
lifted R (Some n) None (Some s) size law e t few h = absurd h
lifted R (Some n) (Some r) (Some s) size law e t few h =
    let same : n ≡ size = cc in
    let Few : ℕ → Type 0 = λ m. m + 2 < 2 ^ 64 in
    ap Some (law n s r h (subst Few (sym same) few) ∙ ap (λ m. m + slot_width s) same)

one_more : (xs : List Slot) (i : ℕ) (x : Slot) → Some x ≡ slice_get xs i → slots_size (take (i + 1) xs) ≡ slots_size (take i xs) + slot_width x
one_more [] i x e = cc
one_more (y ∷ ys) zero x e =
    let same : x ≡ y = cc in
    ap slots_size (take-one y ys) ∙ omega (arith, ap slot_width same)
  where
    take-one : (y : Slot) (ys : List Slot) → take 1 (y ∷ ys) ≡ y ∷ []
    take-one y [] = refl
    take-one y (z ∷ zs) = refl
one_more (y ∷ ys) (suc i) x e = ap (λ n. slots_size (take n (y ∷ ys))) (add-one (suc i)) ∙ omega (arith, one_more ys i x e, ap (λ n. slots_size (take n ys)) (add-one i))

few_words : (xs : List Slot) (i : ℕ) → slots_size (take i xs) ≤ 2 * length xs
few_words [] i = omega (arith, none i)
  where
    none : (i : ℕ) → slots_size (take i []) ≡ 0
    none zero = refl
    none (suc i) = refl
few_words (x ∷ xs) zero = omega arith
few_words (x ∷ xs) (suc i) = omega (arith, most x, few_words xs i)

pub IsSized-step : {S I : Type 0} {s0 s1 s2 : Sets I} (R : ℕ → Slot → ℕ → Type 0) (row : Conditionals Slot S I) (base i : ℕ) (cond : Conditional Slot S I) (total made : Conditional ℕ S I) → ((n : ℕ) (s : Slot) (r : ℕ) → R n s r → n + 2 < 2 ^ 64 → r ≡ n + slot_width s) → IsRow slot_cmp s0 row → length row.conds < 2 ^ 32 → base < 2 ^ 32 → Some cond ≡ slice_get row.conds i → IsSized s0 s1 row base i total → Extends s1 s2 → IsCondLifting2 nat_cmp s2 R (cond_at s1 total) (cond_at s1 cond) made → made.scope ≡ total.scope → IsSized s0 s2 row base (i + 1) made
unfolding IsCondLifting2
IsSized-step {S = S} {I = I} {s0 = s0} {s1 = s1} {s2 = s2} R row base i cond total made law v few low at g e l s =
    let there = IsRow-get slot_cmp s0 row i cond v at in
    record {
      extends = Extends-trans g.extends e;
      is_cond = l.is_cond;
      scope = s ∙ g.scope;
      at = λ c t.
          let slots = slots_at s0 row c in
          let same : cond_at s1 cond c ≡ cond_at s0 cond c = cond_at-extends slot_cmp g.extends cond there.0 c in
          let in_scope : is_some (cond_at s1 cond c) ≡ true = ap is_some same ∙ cond_at-covers slot_cmp s0 cond there.0 c ∙ ap (λ j. s0.test j c) there.1 ∙ t in
          let short : length slots ≡ length row.conds = simp length-map in
          let bound : (base + slots_size (take i slots)) + 2 < 2 ^ 64 = omega (arith, few_words slots i, short, few, low) in
          let size = lifted R (cond_at s1 total c) (cond_at s2 made c) (cond_at s1 cond c) (base + slots_size (take i slots)) law (g.at c t) in_scope bound (l.at c) in
          let more : slots_size (take (i + 1) slots) ≡ slots_size (take i slots) + slot_width (or_top (cond_at s1 cond c)) = one_more slots i (slot_at s0 cond c) (slots_at-get s0 row i cond c at) ∙ ap (λ o. slots_size (take i slots) + slot_width (or_top o)) (sym same) in
          let sum : (base + slots_size (take i slots)) + slot_width (or_top (cond_at s1 cond c)) ≡ base + slots_size (take (i + 1) slots) = omega (arith, more) in
          size ∙ ap Some sum;
    }

pub IsSized-end : {S I : Type 0} {s0 s1 : Sets I} (row : Conditionals Slot S I) (base i : ℕ) (total : Conditional ℕ S I) → IsSized s0 s1 row base i total → length row.conds ≤ i → (c : List Bool) → s0.test row.scope c ≡ true → cond_at s1 total c ≡ Some (base + slots_size (slots_at s0 row c))
IsSized-end {s0 = s0} row base i total g l c t =
    let short : length (slots_at s0 row c) ≡ length row.conds = simp length-map in
    g.at c t ∙ ap (λ xs. Some (base + slots_size xs)) (take_all i (slots_at s0 row c) (omega (arith, short)))

-- beside no words
pub beside_none : (size : Option ℕ) (n : ℕ) → size ≡ Some (0 + n) → size ≡ Some n
beside_none size n h = let same : 0 + n ≡ n = omega arith in h ∙ ap Some same
