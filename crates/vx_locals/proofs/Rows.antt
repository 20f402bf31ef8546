-- Locals that are written at every configuration of their scope.
use Rattle.std.proofs.Common.{◌≡◌, ℕ, ◌-◌, ◌<◌, zero, suc, Bool, true, false, List, [], ◌∷◌, refl, sym, ◌∙◌, ap, subst, map, length, reverse, get_or, arith}
use Rattle.std.proofs.lemmas.List.{get_or-reverse, length-map, length-set}
use Rattle.std.proofs.lemmas.Option.{unwrap_or-slice_get}
use Rattle.std.specs.Ordering.{bool_cmp}
use Rattle.std.specs.List.{list_any}
use Rattle.std.specs.Prelude.{Some, slice_get, slice_set, if◌then◌else◌}
use Rattle.vx_list.specs.Places.{item_or}
use Rattle.vx_value.specs.declared.slot.Slot.{Slot}
use Rattle.vx_value.specs.declared.slot.Slot.TheVariants.{Top, Int, Long, Null, Ref, Text}
use Rattle.vx_value.specs.Slot.{slot_cmp}
use Rattle.vx_space.specs.Sets.{Sets, Extends}
use Rattle.vx_cond.specs.declared.cond.Leaf.{Leaf}
use Rattle.vx_cond.specs.Cond.{Conditional, IsCond, IsCondLifting, IsCondOf, cond_at}
use Rattle.vx_cond.specs.Leaves.{value_at, value_within}
use Rattle.vx_cond.specs.Row.{Conditionals, IsRow}
use Rattle.vx_cond.specs.Slots.{or_top, slot_at, slots_at}
use Rattle.vx_cond.proofs.CondLaws.{IsCond-extends, IsCond-of, cond_at-extends}
use Rattle.vx_cond.proofs.RowLaws.{IsRow-extends}
use Rattle.vx_cond.proofs.RowSteps.{IsRow-get, IsRow-set, slots_at-get, slots_at-set}
use Rattle.vx_cond.proofs.SideLaws.{IsRow-scope_known, row_at-extends}
use Rattle.vx_java.specs.declared.operation.Sort.TheVariants.{Long as LongSort}
use Rattle.vx_group_states.specs.Answering.{operands_at}
use Rattle.vx_families.specs.Sorts.{slot_is_of}
use Rattle.vx_locals.specs.Slots.{AreLocals, top_at, unless_long, without_half}
use Rattle.vx_locals.proofs.Lifts.{mapped_at, one_at}
use Rattle.vx_locals.proofs.Values.{item_got, set_past}

pub AreLocals-refl : {S I : Type 0} (sets : Sets I) (row : Conditionals Slot S I) → IsRow slot_cmp sets row → AreLocals sets sets row (λ c. slots_at sets row c) row
AreLocals-refl sets row v = record { is_row = v; scope = refl; count = refl; at = λ c t. refl }

pub AreLocals-same : {S I : Type 0} (old new : Sets I) (before after : Conditionals Slot S I) (slots other : List Bool → List Slot) → ((c : List Bool) → old.test before.scope c ≡ true → slots c ≡ other c) → AreLocals old new before slots after → AreLocals old new before other after
AreLocals-same old new before after slots other e a = record { is_row = a.is_row; scope = a.scope; count = a.count; at = λ c t. a.at c t ∙ e c t }

pub AreLocals-extends : {S I : Type 0} (s0 : Sets I) {s1 s2 : Sets I} (before after : Conditionals Slot S I) (slots : List Bool → List Slot) → Extends s1 s2 → AreLocals s0 s1 before slots after → AreLocals s0 s2 before slots after
AreLocals-extends s0 before after slots e a = record {
  is_row = IsRow-extends slot_cmp e after a.is_row;
  scope = a.scope;
  count = a.count;
  at = λ c t. ap (map or_top) (row_at-extends slot_cmp e after a.is_row c) ∙ a.at c t;
}

-- another value at a place
pub AreLocals-put : {S I : Type 0} (old new : Sets I) (before after : Conditionals Slot S I) (slots : List Bool → List Slot) (n : ℕ) (value : Conditional Slot S I) (slot : List Bool → Slot) → AreLocals old new before slots after → IsCond slot_cmp new value → value.scope ≡ before.scope → ((c : List Bool) → old.test before.scope c ≡ true → slot_at new value c ≡ slot c) → AreLocals old new before (λ c. slice_set (slots c) n (slot c)) (record after { conds = slice_set after.conds n value })
AreLocals-put old new before after slots n value slot a v scope e = record {
  is_row = IsRow-set slot_cmp new after n value a.is_row v (scope ∙ sym a.scope);
  scope = a.scope;
  count = length-set after.conds n value ∙ a.count;
  at = λ c t. slots_at-set new after n value c ∙ (λ i. slice_set (a.at c t i) n (e c t i));
}

-- ---- the half before a place

pub half_first : (slots : List Slot) (n : ℕ) → n ≡ 0 → without_half slots n ≡ slots
half_first slots n e = ap (without_half slots) e

pub half_past : (slots : List Slot) (n : ℕ) → length slots < n → without_half slots n ≡ slots
half_past slots zero h = refl
half_past slots (suc n) h = set_past slots n (unless_long (item_or slots n Top)) (omega arith)

pub half_at : (slots : List Slot) (n : ℕ) → 0 < n → without_half slots n ≡ slice_set slots (n - 1) (unless_long (item_or slots (n - 1) Top))
half_at slots zero h = absurd (omega arith)
half_at slots (suc n) h =
    let same : n ≡ suc n - 1 = omega arith in
    ap (λ m. slice_set slots m (unless_long (item_or slots m Top))) same

unless_other : (slot : Slot) → slot_is_of LongSort slot ≡ false → unless_long slot ≡ slot
unless_other Top h = refl
unless_other (Int n) h = refl
unless_other (Long n) h = cc
unless_other Null h = refl
unless_other (Ref i) h = refl
unless_other (Text n) h = refl

set_same : (slots : List Slot) (n : ℕ) (slot : Slot) → slice_get slots n ≡ Some slot → slice_set slots n slot ≡ slots
set_same [] n slot h = refl
set_same (x ∷ xs) zero slot h =
    let same : slot ≡ x = cc in
    ap (λ y. y ∷ xs) same
set_same (x ∷ xs) (suc n) slot h = ap (λ ys. x ∷ ys) (set_same xs n slot h)

-- no leaf is a long, so no slot is
none_long : {S I : Type 0} (sets : Sets I) (leaves : List (Leaf Slot S I)) (c : List Bool) → list_any (λ leaf. slot_is_of LongSort leaf.value) leaves ≡ false → slot_is_of LongSort (or_top (value_at sets leaves c)) ≡ false
none_long sets [] c h = refl
none_long sets (x ∷ xs) c h = here (slot_is_of LongSort x.value) refl (sets.test x.condition c) (none_long sets xs c)
  where
    here : (long : Bool) → slot_is_of LongSort x.value ≡ long → (inside : Bool) → (list_any (λ leaf. slot_is_of LongSort leaf.value) xs ≡ false → slot_is_of LongSort (or_top (value_at sets xs c)) ≡ false) → slot_is_of LongSort (or_top (if inside then Some x.value else value_at sets xs c)) ≡ false
    here true e inside later = cc (rw e at h)
    here false e true later = e
    here false e false later = later (rw e at h)

pub half_none : {S I : Type 0} (sets : Sets I) (row : Conditionals Slot S I) (n : ℕ) (cond : Conditional Slot S I) (c : List Bool) → 0 < n → Some cond ≡ slice_get row.conds (n - 1) → list_any (λ leaf. slot_is_of LongSort leaf.value) cond.leaves ≡ false → without_half (slots_at sets row c) n ≡ slots_at sets row c
half_none sets row n cond c some e none =
    let slots = slots_at sets row c in
    let slot = slot_at sets cond c in
    let there : Some slot ≡ slice_get slots (n - 1) = slots_at-get sets row (n - 1) cond c e in
    half_at slots n some ∙ ap (λ x. slice_set slots (n - 1) (unless_long x)) (sym (item_got slots (n - 1) slot Top there)) ∙ ap (slice_set slots (n - 1)) (unless_other slot (none_long sets cond.leaves c none)) ∙ set_same slots (n - 1) slot (sym there)

-- a local that a function is applied to
pub AreLocals-mapped : {S I : Type 0} {s0 s1 : Sets I} (row : Conditionals Slot S I) (n : ℕ) (cond value : Conditional Slot S I) (f : Slot → Slot) → Extends s0 s1 → IsRow slot_cmp s0 row → Some cond ≡ slice_get row.conds n → IsCond slot_cmp s1 value → value.scope ≡ row.scope → ((c : List Bool) → s0.test row.scope c ≡ true → cond_at s1 value c ≡ Some (f (slot_at s0 cond c))) → AreLocals s0 s1 row (λ c. slice_set (slots_at s0 row c) n (f (item_or (slots_at s0 row c) n Top))) (record row { conds = slice_set row.conds n value })
AreLocals-mapped {s0 = s0} {s1 = s1} row n cond value f e v got w scope at =
    let start = AreLocals-extends s0 row row (λ c. slots_at s0 row c) e (AreLocals-refl s0 row v) in
    AreLocals-put s0 s1 row row (λ c. slots_at s0 row c) n value (λ c. f (item_or (slots_at s0 row c) n Top)) start w scope (λ c t. ap or_top (at c t) ∙ ap f (item_got (slots_at s0 row c) n (slot_at s0 cond c) Top (slots_at-get s0 row n cond c got)))

-- the half is made unreadable
pub AreLocals-half : {S I : Type 0} {s0 s1 : Sets I} (row : Conditionals Slot S I) (n : ℕ) (cond half : Conditional Slot S I) → Extends s0 s1 → IsRow slot_cmp s0 row → 0 < n → Some cond ≡ slice_get row.conds (n - 1) → IsCond slot_cmp s1 half → half.scope ≡ row.scope → ((c : List Bool) → s0.test row.scope c ≡ true → cond_at s1 half c ≡ Some (unless_long (slot_at s0 cond c))) → AreLocals s0 s1 row (λ c. without_half (slots_at s0 row c) n) (record row { conds = slice_set row.conds (n - 1) half })
AreLocals-half {s0 = s0} {s1 = s1} row n cond half e v some got w scope at = AreLocals-same s0 s1 row _ (λ c. slice_set (slots_at s0 row c) (n - 1) (unless_long (item_or (slots_at s0 row c) (n - 1) Top))) (λ c. without_half (slots_at s0 row c) n) (λ c t. sym (half_at (slots_at s0 row c) n some)) (AreLocals-mapped row (n - 1) cond half unless_long e v got w scope at)

-- ---- a value and its second half

pub AreLocals-value : {S I : Type 0} {s0 s1 : Sets I} (before middle after : Conditionals Slot S I) (n : ℕ) (value : Conditional Slot S I) → Extends s0 s1 → IsCond slot_cmp s0 value → value.scope ≡ before.scope → AreLocals s0 s1 before (λ c. without_half (slots_at s0 before c) n) middle → after ≡ record middle { conds = slice_set middle.conds n value } → AreLocals s0 s1 before (λ c. slice_set (without_half (slots_at s0 before c) n) n (slot_at s0 value c)) after
AreLocals-value {S = S} {I = I} {s0 = s0} {s1 = s1} before middle after n value e v scope a made =
    let slots : List Bool → List Slot = λ c. without_half (slots_at s0 before c) n in
    let slot : List Bool → Slot = λ c. slot_at s0 value c in
    let P : Conditionals Slot S I → Type 0 = λ row. AreLocals s0 s1 before (λ c. slice_set (slots c) n (slot c)) row in
    subst P (sym made) (AreLocals-put s0 s1 before middle slots n value slot a (IsCond-extends slot_cmp e value v) scope (λ c t. ap or_top (cond_at-extends slot_cmp e value v c)))

pub AreLocals-second : {S I : Type 0} {s0 s1 : Sets I} (before middle after : Conditionals Slot S I) (slots : List Bool → List Slot) (n : ℕ) (scope : I) (half : Conditional Slot S I) → Extends s0 s1 → IsRow slot_cmp s0 before → AreLocals s0 s1 before slots middle → scope ≡ middle.scope → half.scope ≡ scope → IsCondOf slot_cmp s1 (value_within s1 scope (λ _. Some Top)) half → after ≡ record middle { conds = slice_set middle.conds n half } → AreLocals s0 s1 before (λ c. slice_set (slots c) n Top) after
AreLocals-second {S = S} {I = I} {s0 = s0} {s1 = s1} before middle after slots n scope half e v a same there o made =
    let P : Conditionals Slot S I → Type 0 = λ row. AreLocals s0 s1 before (λ c. slice_set (slots c) n Top) row in
    subst P (sym made) (AreLocals-put s0 s1 before middle slots n half (λ _. Top) a (IsCond-of slot_cmp s1 _ half o) (there ∙ same ∙ a.scope) (λ c t. ap or_top (one_at slot_cmp s1 scope Top half o c (ap (λ i. s1.test i c) (same ∙ a.scope) ∙ e.test before.scope c (IsRow-scope_known slot_cmp s0 before v) ∙ t))))

-- ---- tests of the slot at a place

pub operands_at-extends : {S I : Type 0} {s0 s1 : Sets I} → Extends s0 s1 → (row : Conditionals Slot S I) → IsRow slot_cmp s0 row → (c : List Bool) → operands_at s1 row c ≡ operands_at s0 row c
operands_at-extends e row v c = ap (λ os. reverse (map or_top os)) (row_at-extends slot_cmp e row v c)

pub tested_at : {S I : Type 0} {s0 s1 : Sets I} (row : Conditionals Slot S I) (n : ℕ) (cond : Conditional Slot S I) (fits : Conditional Bool S I) (f : Slot → Bool) (R : Slot → Bool → Type 0) → Extends s0 s1 → IsRow slot_cmp s0 row → Some cond ≡ slice_get row.conds n → ((a : Slot) (b : Bool) → R a b → b ≡ f a) → IsCondLifting bool_cmp s1 R (cond_at s0 cond) fits → (c : List Bool) → s0.test row.scope c ≡ true → cond_at s1 fits c ≡ Some (f (item_or (slots_at s1 row c) n Top))
tested_at {s0 = s0} {s1 = s1} row n cond fits f R e v got law l c t =
    let local = IsRow-get slot_cmp s0 row n cond v got in
    let slot = item_got (slots_at s0 row c) n (slot_at s0 cond c) Top (slots_at-get s0 row n cond c got) in
    let later : slots_at s1 row c ≡ slots_at s0 row c = ap (map or_top) (row_at-extends slot_cmp e row v c) in
    mapped_at bool_cmp s0 s1 R f cond fits law local.0 l c (ap (λ i. s0.test i c) local.1 ∙ t) ∙ ap (λ a. Some (f a)) (slot ∙ ap (λ xs. item_or xs n Top) (sym later))

-- the last slot of a row is the operand on top
last_item : (xs : List Slot) (n : ℕ) → 0 < length xs → n ≡ length xs - 1 → item_or xs n Top ≡ item_or (reverse xs) 0 Top
last_item xs n h e =
    let same : length xs - 1 - 0 ≡ n = omega (arith, e) in
    unwrap_or-slice_get xs n Top ∙ ap (λ m. get_or xs m Top) (sym same) ∙ sym (get_or-reverse xs 0 Top h) ∙ sym (unwrap_or-slice_get (reverse xs) 0 Top)

slot_count : {S I : Type 0} (sets : Sets I) (row : Conditionals Slot S I) (c : List Bool) → length (slots_at sets row c) ≡ length row.conds
slot_count sets row c = simp length-map

pub last_is_top : {S I : Type 0} (sets : Sets I) (row : Conditionals Slot S I) (n : ℕ) (c : List Bool) → 0 < length row.conds → n ≡ length row.conds - 1 → item_or (slots_at sets row c) n Top ≡ top_at sets row c
last_is_top sets row n c h e =
    let count = slot_count sets row c in
    last_item (slots_at sets row c) n (omega (arith, count, h)) (omega (arith, count, e))
