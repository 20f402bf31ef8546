-- Operands that are taken off and put on again.
use Rattle.std.proofs.Common.{◌≡◌, ℕ, ◌+◌, ◌-◌, ◌<◌, ◌≤◌, zero, suc, Bool, true, List, [], ◌∷◌, ◌++◌, refl, sym, ◌∙◌, ap, subst, arith, map, take, drop, length, add-one}
use Rattle.std.proofs.lemmas.List.{length-append, length-map}
use Rattle.std.specs.Prelude.{Option, Some, None, slice_get}
use Rattle.vx_value.specs.declared.slot.Slot.{Slot}
use Rattle.vx_value.specs.Slot.{slot_cmp}
use Rattle.vx_space.specs.Sets.{Sets, Extends}
use Rattle.vx_space.proofs.Spaces.{Extends-refl, Extends-trans}
use Rattle.vx_cond.specs.Cond.{Conditional, IsCond, IsCondLifting, cond_at}
use Rattle.vx_cond.specs.Leaves.{IsLifted}
use Rattle.vx_cond.specs.Row.{Conditionals, IsRow}
use Rattle.vx_cond.specs.Slots.{or_top, slot_at, slots_at}
use Rattle.vx_cond.proofs.RowLaws.{IsRow-extends}
use Rattle.vx_cond.proofs.RowSteps.{IsRow-empty, IsRow-popped, IsRow-push, slots_at-get, slots_at-push}
use Rattle.vx_cond.proofs.SideLaws.{row_at-extends}
use Rattle.vx_group_states.specs.Answering.{operands_at}
use Rattle.vx_group_states.proofs.AnswerLaws.{IsDropping, IsDropping-start, IsDropping-step, operands_at-push}
use Rattle.vx_group_states.proofs.SettleLaws.{lifting_at}

-- the slots stay where a space is extended
pub slots_at-extends : {S I : Type 0} {old new : Sets I} → Extends old new → (row : Conditionals Slot S I) → IsRow slot_cmp old row → (c : List Bool) → slots_at new row c ≡ slots_at old row c
slots_at-extends e row v c = ap (map or_top) (row_at-extends slot_cmp e row v c)

-- ---- taken off

take_more : {A : Type 0} (i : ℕ) (xs : List A) (y : A) (ys : List A) → drop i xs ≡ y ∷ ys → take i xs ++ y ∷ [] ≡ take (i + 1) xs
take_more zero [] y ys e = cc
take_more zero (x ∷ xs) y ys e =
    let same : y ≡ x = cc in
    ap (λ z. z ∷ []) same ∙ one xs
  where
    one : (zs : List _) → x ∷ [] ≡ take 1 (x ∷ zs)
    one [] = refl
    one (z ∷ zs) = refl
take_more (suc i) [] y ys e = cc
take_more (suc i) (x ∷ xs) y ys e = ap (λ zs. x ∷ zs) (take_more i xs y ys e) ∙ ap (λ n. x ∷ take n xs) (add-one i) ∙ sym (ap (λ n. take n (x ∷ xs)) (add-one (suc i)))

-- what the loop keeps: so many operands were taken off, and are the first ones
pub record IsTaking {S I : Type 0} (sets : Sets I) (start row taken : Conditionals Slot S I) (i : ℕ) : Type 0 where
  pub dropping : IsDropping sets start row i
  pub is_row : IsRow slot_cmp sets taken
  pub scope : taken.scope ≡ start.scope
  pub number : length taken.conds ≡ i
  pub at : (c : List Bool) → slots_at sets taken c ≡ take i (operands_at sets start c)

pub IsTaking-start : {S I : Type 0} (sets : Sets I) (row taken : Conditionals Slot S I) (scope : I) → IsRow slot_cmp sets row → scope ≡ row.scope → sets.is_known row.scope ≡ true → taken ≡ record { scope = scope; conds = [] } → IsTaking sets row row taken 0
IsTaking-start {S = S} {I = I} sets row taken scope v e k made =
    let P : Conditionals Slot S I → Type 0 = λ r. IsTaking sets row row r 0 in
    subst P (sym made) (record {
      dropping = IsDropping-start sets row v;
      is_row = IsRow-empty slot_cmp sets (record { scope = scope; conds = [] }) (ap sets.is_known e ∙ k) refl;
      scope = e;
      number = refl;
      at = λ c. refl;
    })

pub IsTaking-step : {S I : Type 0} (sets : Sets I) (start before after taken more : Conditionals Slot S I) (i : ℕ) (cond : Conditional Slot S I) → IsTaking sets start before taken i → before ≡ record after { conds = after.conds ++ cond ∷ [] } → more ≡ record taken { conds = taken.conds ++ cond ∷ [] } → IsTaking sets start after more (i + 1)
IsTaking-step {S = S} {I = I} sets start before after taken more i cond d e f =
    let P : Conditionals Slot S I → Type 0 = λ r. IsRow slot_cmp sets r in
    let Q : Conditionals Slot S I → Type 0 = λ r. IsTaking sets start after r (i + 1) in
    let parts = IsRow-popped slot_cmp sets after cond (subst P e d.dropping.is_row) in
    let later = IsDropping-step sets start before after i cond d.dropping e in
    subst Q (sym f) (record {
      dropping = later;
      is_row = IsRow-push slot_cmp sets taken cond d.is_row parts.1 (parts.2 ∙ later.scope ∙ sym d.scope);
      scope = d.scope;
      number = omega (arith, d.number, length-append taken.conds (cond ∷ []));
      at = λ c. slots_at-push sets taken cond c ∙ ap (λ xs. xs ++ slot_at sets cond c ∷ []) (d.at c) ∙ take_more i (operands_at sets start c) (slot_at sets cond c) (operands_at sets after c) (sym (d.dropping.at c) ∙ ap (λ r. operands_at sets r c) e ∙ operands_at-push sets after cond c);
    })

-- ---- copied

same_slot : (R : Slot → Slot → Type 0) (a b : Option Slot) → ((a b : Slot) → R a b → b ≡ a) → IsLifted R a b → or_top b ≡ or_top a
same_slot R None b law l = ap or_top l
same_slot R (Some a) None law l = absurd l
same_slot R (Some a) (Some b) law l = law a b l

pub copied-at : {S I : Type 0} (R : Slot → Slot → Type 0) (s0 s1 : Sets I) (value copy : Conditional Slot S I) → ((a b : Slot) → R a b → b ≡ a) → IsCondLifting slot_cmp s1 R (cond_at s0 value) copy → (c : List Bool) → slot_at s1 copy c ≡ slot_at s0 value c
copied-at R s0 s1 value copy law l c = same_slot R (cond_at s0 value c) (cond_at s1 copy c) law (lifting_at slot_cmp s1 R (cond_at s0 value) copy l c)

-- ---- put on

drop_one : {A : Type 0} (n : ℕ) (xs : List A) (x : A) → Some x ≡ slice_get xs n → drop n xs ≡ x ∷ drop (suc n) xs
drop_one n [] x e = cc
drop_one zero (y ∷ ys) x e =
    let same : y ≡ x = cc in
    ap (λ z. z ∷ ys) same
drop_one (suc n) (y ∷ ys) x e = drop_one n ys x e

drop_all : {A : Type 0} (xs : List A) → drop (length xs) xs ≡ []
drop_all [] = refl
drop_all (x ∷ xs) = drop_all xs

-- what the loop keeps: the last ones of the values are put on
pub record IsPutting {S I : Type 0} (start sets : Sets I) (first row values : Conditionals Slot S I) (count i : ℕ) : Type 0 where
  pub extends : Extends start sets
  pub is_row : IsRow slot_cmp sets row
  pub scope : row.scope ≡ first.scope
  pub number : length row.conds ≡ length first.conds + i
  pub at : (c : List Bool) → operands_at sets row c ≡ drop (count - i) (slots_at start values c) ++ operands_at start first c

pub IsPutting-start : {S I : Type 0} (sets : Sets I) (row values : Conditionals Slot S I) (count : ℕ) → count ≡ length values.conds → IsRow slot_cmp sets row → IsPutting sets sets row row values count 0
IsPutting-start sets row values count e v = record {
  extends = Extends-refl sets;
  is_row = v;
  scope = refl;
  number = omega arith;
  at = λ c.
      let long : length (slots_at sets values c) ≡ length values.conds = simp length-map in
      let all : count - 0 ≡ length (slots_at sets values c) = omega (arith, e, long) in
      sym (ap (λ xs. xs ++ operands_at sets row c) (ap (λ n. drop n (slots_at sets values c)) all ∙ drop_all (slots_at sets values c)));
}

pub IsPutting-step : {S I : Type 0} {s0 s1 s2 : Sets I} (first before after values : Conditionals Slot S I) (count i : ℕ) (cond copy : Conditional Slot S I) → i < count → Some cond ≡ slice_get values.conds (count - 1 - i) → IsPutting s0 s1 first before values count i → Extends s1 s2 → IsCond slot_cmp s2 copy → copy.scope ≡ first.scope → ((c : List Bool) → slot_at s2 copy c ≡ slot_at s0 cond c) → after ≡ record before { conds = before.conds ++ copy ∷ [] } → IsPutting s0 s2 first after values count (i + 1)
IsPutting-step {S = S} {I = I} {s0 = s0} {s1 = s1} {s2 = s2} first before after values count i cond copy less at g e v s same f =
    let P : Conditionals Slot S I → Type 0 = λ r. IsPutting s0 s2 first r values count (i + 1) in
    subst P (sym f) (record {
      extends = Extends-trans g.extends e;
      is_row = IsRow-push slot_cmp s2 before copy (IsRow-extends slot_cmp e before g.is_row) v (s ∙ sym g.scope);
      scope = g.scope;
      number = omega (arith, g.number, length-append before.conds (copy ∷ []));
      at = λ c.
          let slots = slots_at s0 values c in
          let here : count - 1 - i ≡ count - (i + 1) = omega arith in
          let next : suc (count - (i + 1)) ≡ count - i = omega (arith, less) in
          let one = drop_one (count - (i + 1)) slots (slot_at s0 cond c) (slots_at-get s0 values (count - 1 - i) cond c at ∙ ap (slice_get slots) here) in
          let below = ap reverse_of (slots_at-extends e before g.is_row c) ∙ g.at c in
          operands_at-push s2 before copy c ∙ (λ j. same c j ∷ below j) ∙ ap (λ xs. xs ++ operands_at s0 first c) (ap (λ n. slot_at s0 cond c ∷ drop n slots) (sym next) ∙ sym one);
    })
  where
    reverse_of : List Slot → List Slot
    reverse_of = Rattle.std.proofs.Common.reverse

pub IsPutting-end : {S I : Type 0} {s0 s1 : Sets I} (first row values : Conditionals Slot S I) (count i : ℕ) → IsPutting s0 s1 first row values count i → count ≤ i → (c : List Bool) → operands_at s1 row c ≡ slots_at s0 values c ++ operands_at s0 first c
IsPutting-end {s0 = s0} first row values count i g l c =
    let none : count - i ≡ 0 = omega (arith, l) in
    g.at c ∙ ap (λ n. drop n (slots_at s0 values c) ++ operands_at s0 first c) none

-- ---- put back

-- two rows of values, one after the other
pub swapped-at : {S I : Type 0} {s0 s1 : Sets I} (s2 : Sets I) → Extends s0 s1 → (stack first second above under : Conditionals Slot S I) → IsRow slot_cmp s0 under → ((c : List Bool) → operands_at s1 first c ≡ slots_at s0 above c ++ operands_at s0 stack c) → ((c : List Bool) → operands_at s2 second c ≡ slots_at s1 under c ++ operands_at s1 first c) → (c : List Bool) → operands_at s2 second c ≡ slots_at s0 under c ++ (slots_at s0 above c ++ operands_at s0 stack c)
swapped-at s2 e stack first second above under v p q c =
    let same = slots_at-extends e under v c in
    let below = p c in
    q c ∙ (λ i. same i ++ below i)

-- and the first one once more
pub doubled-at : {S I : Type 0} {s0 s1 s2 : Sets I} (s3 : Sets I) → Extends s0 s1 → Extends s1 s2 → (stack first second third above under : Conditionals Slot S I) → IsRow slot_cmp s0 above → IsRow slot_cmp s0 under → ((c : List Bool) → operands_at s1 first c ≡ slots_at s0 above c ++ operands_at s0 stack c) → ((c : List Bool) → operands_at s2 second c ≡ slots_at s1 under c ++ operands_at s1 first c) → ((c : List Bool) → operands_at s3 third c ≡ slots_at s2 above c ++ operands_at s2 second c) → (c : List Bool) → operands_at s3 third c ≡ slots_at s0 above c ++ (slots_at s0 under c ++ (slots_at s0 above c ++ operands_at s0 stack c))
doubled-at {s2 = s2} s3 e f stack first second third above under v w p q r c =
    let same = slots_at-extends (Extends-trans e f) above v c in
    let below = swapped-at s2 e stack first second above under w p q c in
    r c ∙ (λ i. same i ++ below i)
