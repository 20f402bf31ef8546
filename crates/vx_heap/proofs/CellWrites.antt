-- What reading and writing one of the cells of an object makes.
use Rattle.std.proofs.Common.{◌≡◌, ℕ, zero, suc, ◌≤◌, Bool, true, false, List, [], ◌∷◌, ◌++◌, refl, sym, ◌∙◌, ap, map, length, arith, if◌then◌else◌}
use Rattle.std.proofs.Math.ListN.{set}
use Rattle.std.proofs.lemmas.List.{length-map, length-set, map-set}
use Rattle.std.specs.List.{flat_map}
use Rattle.std.specs.Option.{option_or}
use Rattle.std.specs.Prelude.{Option, None, Some, is_some, slice_get}
use Rattle.std.specs.declared.cmp.Ordering.{Ordering}
use Rattle.vx_list.specs.Places.{item_or}
use Rattle.vx_value.specs.declared.slot.Slot.{Slot}
use Rattle.vx_value.specs.declared.slot.Slot.TheVariants.{Top}
use Rattle.vx_value.specs.Slot.{slot_cmp}
use Rattle.vx_space.specs.Sets.{Sets, Extends, IsLawful}
use Rattle.vx_cond.specs.declared.cond.Leaf.{Leaf}
use Rattle.vx_cond.specs.Leaves.{first_of, value_at, value_within}
use Rattle.vx_cond.specs.Cond.{Conditional, IsCond, IsCondOf, IsInside, cond_at}
use Rattle.vx_cond.specs.Slots.{or_top, slot_at}
use Rattle.vx_cond.proofs.CondLaws.{IsCond-of, cond_at-of}
use Rattle.vx_cond.proofs.RowLaws.{scope_is}
use Rattle.vx_cond.proofs.SideLaws.{cond_at-covers}
use Rattle.vx_heap.specs.Cells.{AreCells, AreWritten, IsCell, IsCellInside, IsCellOf, cell_ids, cell_slot, cells_at}
use Rattle.vx_heap.specs.declared.cell_list.Cell.{Cell}
use Rattle.vx_heap.specs.declared.cell_list.Cell.TheVariants.{Differs, Plain}
use Rattle.vx_heap.proofs.HeapLaws.{AreCells-extends, cells_at-extends}
use Rattle.vx_heap.proofs.Written.{either_scope, some_within}

-- ---- one cell of a list

pub cell_there : {S I : Type 0} (sets : Sets I) (cells : List (Cell S I)) (place : ℕ) (x : Cell S I) (c : List Bool) → Some x ≡ slice_get cells place → item_or (cells_at sets cells c) place Top ≡ cell_slot sets c x
cell_there sets [] place x c e = cc
cell_there sets (y ∷ ys) zero x c e = cc
cell_there sets (y ∷ ys) (suc i) x c e = cell_there sets ys i x c e

pub no_cell_there : {S I : Type 0} (sets : Sets I) (cells : List (Cell S I)) (place : ℕ) (c : List Bool) → None ≡ slice_get cells place → item_or (cells_at sets cells c) place Top ≡ Top
no_cell_there sets [] place c e = refl
no_cell_there sets (y ∷ ys) zero c e = cc
no_cell_there sets (y ∷ ys) (suc i) c e = no_cell_there sets ys i c e

pub cell_valid : {S I : Type 0} (sets : Sets I) (presence : I) (cells : List (Cell S I)) (place : ℕ) (x : Cell S I) → AreCells sets presence cells → Some x ≡ slice_get cells place → IsCell sets presence x
cell_valid sets presence [] place x h e = cc
cell_valid {S = S} {I = I} sets presence (y ∷ ys) zero x h e = rw (same x y e) h.0
  where
    same : (a b : Cell S I) → Some a ≡ Some b → a ≡ b
    same a b q = cc
cell_valid sets presence (y ∷ ys) (suc i) x h e = cell_valid sets presence ys i x h.1 e

-- ---- the ids held

nothing_before : {A : Type 0} (xs ys : List A) → xs ++ ys ≡ [] → xs ≡ []
nothing_before [] ys h = refl
nothing_before (x ∷ xs) ys h = cc h

nothing_behind : {A : Type 0} (xs ys : List A) → xs ++ ys ≡ [] → ys ≡ []
nothing_behind [] ys h = h
nothing_behind (x ∷ xs) ys h = cc h

pub ids_set : {S I : Type 0} (cells : List (Cell S I)) (place : ℕ) (x : Cell S I) → flat_map cell_ids cells ≡ [] → cell_ids x ≡ [] → flat_map cell_ids (set cells place x) ≡ []
ids_set [] place x h k = refl
ids_set (y ∷ ys) zero x h k = ap (λ ids. ids ++ flat_map cell_ids ys) k ∙ nothing_behind (cell_ids y) (flat_map cell_ids ys) h
ids_set (y ∷ ys) (suc i) x h k =
    ap (λ ids. ids ++ flat_map cell_ids (set ys i x)) (nothing_before (cell_ids y) (flat_map cell_ids ys) h)
    ∙ ids_set ys i x (nothing_behind (cell_ids y) (flat_map cell_ids ys) h) k

-- ---- the same values

pub IsCondOf-same : {T S I : Type 0} (cmp : T → T → Ordering) (sets : Sets I) (a b : List Bool → Option T) (cond : Conditional T S I) → ((c : List Bool) → a c ≡ b c) → IsCondOf cmp sets a cond → IsCondOf cmp sets b cond
unfolding IsCondOf
IsCondOf-same cmp sets a b cond same h = record { is_cond = h.is_cond; at = λ c. h.at c ∙ same c }

some_or_top : (o : Option Slot) → is_some o ≡ true → o ≡ Some (or_top o)
some_or_top None h = cc
some_or_top (Some x) h = refl

none_of : (o : Option Slot) → is_some o ≡ false → o ≡ None
none_of None h = refl
none_of (Some x) h = cc

-- the values of a place
abbrev pub read_at : {S I : Type 0} → Sets I → List (Cell S I) → ℕ → List Bool → Option Slot
read_at sets cells place c = Some (item_or (cells_at sets cells c) place Top)

abbrev pub slot_of : {S I : Type 0} → Sets I → Cell S I → List Bool → Option Slot
slot_of sets x c = Some (cell_slot sets c x)

-- the values of a place are those of its cell
pub at_cell : {S I : Type 0} (sets : Sets I) (cells : List (Cell S I)) (place : ℕ) (x : Cell S I) (path : I) → Some x ≡ slice_get cells place → (c : List Bool) → value_within sets path (slot_of sets x) c ≡ value_within sets path (read_at sets cells place) c
at_cell sets cells place x path e c = ap (λ s. if sets.test path c then Some s else None) (sym (cell_there sets cells place x c e))

pub at_no_cell : {S I : Type 0} (sets : Sets I) (cells : List (Cell S I)) (place : ℕ) (path : I) → None ≡ slice_get cells place → (c : List Bool) → value_within sets path (λ _. Some Top) c ≡ value_within sets path (read_at sets cells place) c
at_no_cell sets cells place path e c = ap (λ s. if sets.test path c then Some s else None) (sym (no_cell_there sets cells place c e))

pub cell_inside : {S I : Type 0} (sets : Sets I) (presence path : I) (x : Cell S I) → IsInside sets path presence → IsCell sets presence x → IsCellInside sets path x
cell_inside sets presence path (Plain slot) n h = tt
cell_inside sets presence path (Differs cond) n h = (h.0, rw h.1 n)

-- ---- the new cell

one_value : {S I : Type 0} (sets : Sets I) (leaves : List (Leaf Slot S I)) (slot : Slot) (c : List Bool) → map (λ leaf. leaf.value) leaves ≡ slot ∷ [] → is_some (value_at sets leaves c) ≡ true → slot ≡ or_top (value_at sets leaves c)
one_value sets [] slot c e t = cc
one_value sets (x ∷ y ∷ ys) slot c e t = cc
one_value sets (x ∷ []) slot c e t = cases (sets.test x.condition c) t
  where
    cases : (b : Bool) → is_some (if b then Some x.value else None) ≡ true → slot ≡ or_top (if b then Some x.value else None)
    cases true s = cc
    cases false s = cc

pub new_slot : {S I : Type 0} (sets : Sets I) (made : Conditional Slot S I) (cell : Cell S I) (c : List Bool) → IsCellOf made cell → is_some (cond_at sets made c) ≡ true → cell_slot sets c cell ≡ slot_at sets made c
new_slot sets made (Plain slot) c h t = one_value sets made.leaves slot c h t
new_slot sets made (Differs cond) c h t = ap (λ x. slot_at sets x c) h

pub new_cell : {S I : Type 0} (sets : Sets I) (presence : I) (made : Conditional Slot S I) (cell : Cell S I) → IsCellOf made cell → IsCond slot_cmp sets made → made.scope ≡ presence → IsCell sets presence cell
new_cell sets presence made (Plain slot) h v s = tt
new_cell sets presence made (Differs cond) h v s = (rw h v, ap (λ x. x.scope) h ∙ s)

AreCells-set : {S I : Type 0} (sets : Sets I) (presence : I) (cells : List (Cell S I)) (place : ℕ) (cell : Cell S I) → AreCells sets presence cells → IsCell sets presence cell → AreCells sets presence (set cells place cell)
AreCells-set sets presence [] place cell h k = tt
AreCells-set sets presence (y ∷ ys) zero cell h k = (k, h.1)
AreCells-set sets presence (y ∷ ys) (suc i) cell h k = (h.0, AreCells-set sets presence ys i cell h.1 k)

pub set_same : {A : Type 0} (xs : List A) (i : ℕ) (d : A) → set xs i (item_or xs i d) ≡ xs
set_same [] i d = refl
set_same (x ∷ xs) zero d = refl
set_same (x ∷ xs) (suc i) d = ap (λ ys. x ∷ ys) (set_same xs i d)

set_behind : {A : Type 0} (xs : List A) (i : ℕ) (y : A) → length xs ≤ i → set xs i y ≡ xs
set_behind [] i y l = refl
set_behind (x ∷ xs) zero y l = absurd (omega (arith, l))
set_behind (x ∷ xs) (suc i) y l = ap (λ ys. x ∷ ys) (set_behind xs i y (omega (arith, l)))

-- ---- a cell that is read, and one that is written over

-- what a conditional value has inside its scope
pub differs_within : {S I : Type 0} (sets : Sets I) (cond : Conditional Slot S I) → IsCond slot_cmp sets cond → (path : I) → IsInside sets path cond.scope → (c : List Bool) → value_within sets path (cond_at sets cond) c ≡ value_within sets path (λ d. Some (slot_at sets cond d)) c
differs_within sets cond v path n c = cases (sets.test path c) refl
  where
    cases : (b : Bool) → sets.test path c ≡ b → (if b then cond_at sets cond c else None) ≡ (if b then Some (slot_at sets cond c) else None)
    cases true t = some_or_top (cond_at sets cond c) (cond_at-covers slot_cmp sets cond v c ∙ n.inside c t)
    cases false t = refl

-- and everywhere
pub differs_at_all : {S I : Type 0} (sets : Sets I) (presence : I) (cond : Conditional Slot S I) → IsCond slot_cmp sets cond → cond.scope ≡ presence → (c : List Bool) → cond_at sets cond c ≡ value_within sets presence (λ d. Some (slot_at sets cond d)) c
differs_at_all sets presence cond v s c = cases (sets.test presence c) refl
  where
    cases : (b : Bool) → sets.test presence c ≡ b → cond_at sets cond c ≡ (if b then Some (slot_at sets cond c) else None)
    cases true t = some_or_top (cond_at sets cond c) (cond_at-covers slot_cmp sets cond v c ∙ ap (λ i. sets.test i c) s ∙ t)
    cases false t = none_of (cond_at sets cond c) (cond_at-covers slot_cmp sets cond v c ∙ ap (λ i. sets.test i c) s ∙ t)

-- what is written over two values that are the same is the same
pub over_same : {S I : Type 0} (sets : Sets I) (first a b : List Bool → Option Slot) (made : Conditional Slot S I) → ((c : List Bool) → a c ≡ b c) → IsCondOf slot_cmp sets (first_of first a) made → IsCondOf slot_cmp sets (first_of first b) made
over_same sets first a b made same h = IsCondOf-same slot_cmp sets (first_of first a) (first_of first b) made (λ c. ap (λ o. option_or (first c) o) (same c)) h

-- a cell has this value, which differs
abbrev pub Holds : {S I : Type 0} → Cell S I → Conditional Slot S I → Type 0
Holds (Plain slot) cond = ⊥
Holds (Differs made) cond = cond ≡ made.value

pub read_inside : {S I : Type 0} (old new : Sets I) (path : I) (x : Cell S I) (cond made : Conditional Slot S I) → Holds x cond → IsCellInside old path x → IsCondOf slot_cmp new (value_within old path (cond_at old cond)) made → IsCondOf slot_cmp new (value_within old path (slot_of old x)) made
read_inside old new path (Plain slot) cond made q h m = absurd q
read_inside {S = S} {I = I} old new path (Differs box) cond made q h m =
    IsCondOf-same slot_cmp new (value_within old path (cond_at old cond)) (value_within old path (slot_of old (Differs box))) made
    (λ c. ap (λ (y : Conditional Slot S I). value_within old path (cond_at old y) c) q ∙ differs_within old box.value h.0 path h.1 c) m

pub over_differing : {S I : Type 0} (old new : Sets I) (presence : I) (x : Cell S I) (cond value made : Conditional Slot S I) → Holds x cond → IsCell old presence x → IsCondOf slot_cmp new (first_of (cond_at old value) (cond_at old cond)) made → IsCondOf slot_cmp new (first_of (cond_at old value) (value_within old presence (slot_of old x))) made
over_differing old new presence (Plain slot) cond value made q h m = absurd q
over_differing {S = S} {I = I} old new presence (Differs box) cond value made q h m =
    over_same new (cond_at old value) (cond_at old cond) (value_within old presence (slot_of old (Differs box))) made
    (λ c. ap (λ (y : Conditional Slot S I). cond_at old y c) q ∙ differs_at_all old presence box.value h.0 h.1 c) m

pub over_plain : {S I : Type 0} (old new : Sets I) (presence : I) (x : Cell S I) (slot : Slot) (before value made : Conditional Slot S I) → x ≡ Plain slot → IsCondOf slot_cmp old (value_within old presence (λ _. Some slot)) before → IsCondOf slot_cmp new (first_of (cond_at old value) (cond_at old before)) made → IsCondOf slot_cmp new (first_of (cond_at old value) (value_within old presence (slot_of old x))) made
over_plain {S = S} {I = I} old new presence x slot before value made e h m =
    over_same new (cond_at old value) (cond_at old before) (value_within old presence (slot_of old x)) made
    (λ c. cond_at-of slot_cmp old (value_within old presence (λ _. Some slot)) before c h ∙ ap (λ (y : Cell S I). value_within old presence (slot_of old y) c) (sym e)) m

-- ---- what a write makes

made_scope : {S I : Type 0} {old new : Sets I} → IsLawful new → Extends old new → (presence : I) (cells : List (Cell S I)) (place : ℕ) (value made : Conditional Slot S I) → old.is_known presence ≡ true → IsCond slot_cmp old value → IsInside old value.scope presence → IsCondOf slot_cmp new (first_of (cond_at old value) (value_within old presence (read_at old cells place))) made → made.scope ≡ presence
made_scope {old = old} {new = new} lawful e presence cells place value made k v n m =
    scope_is slot_cmp lawful (first_of (cond_at old value) (value_within old presence (read_at old cells place))) made presence (old.test presence) m
    (record { known = e.known presence k; test = λ c. e.test presence c k })
    (λ c. either_scope (cond_at old value c) (value_within old presence (read_at old cells place) c) (old.test value.scope c) (old.test presence c) (cond_at-covers slot_cmp old value v c) (some_within (old.test presence c) (item_or (cells_at old cells c) place Top)) (n.inside c))

first_slot : (a b : Option Slot) → is_some a ≡ true → or_top (option_or a b) ≡ or_top a
first_slot None b h = cc
first_slot (Some x) b h = refl

second_slot : (a : Option Slot) (t : Bool) (x : Slot) → is_some a ≡ false → t ≡ true → or_top (option_or a (if t then Some x else None)) ≡ x
second_slot None true x h k = refl
second_slot None false x h k = cc
second_slot (Some y) t x h k = cc

pub AreWritten-set : {S I : Type 0} {old new : Sets I} → IsLawful new → Extends old new → (presence : I) (cells : List (Cell S I)) (place : ℕ) (value made : Conditional Slot S I) (cell : Cell S I) → AreCells old presence cells → old.is_known presence ≡ true → IsCond slot_cmp old value → IsInside old value.scope presence → IsCondOf slot_cmp new (first_of (cond_at old value) (value_within old presence (read_at old cells place))) made → IsCellOf made cell → AreWritten old new presence cells place value (set cells place cell)
AreWritten-set {S = S} {I = I} {old = old} {new = new} lawful e presence cells place value made cell h k v n m is =
    let scope = made_scope lawful e presence cells place value made k v n m in
    let valid = IsCond-of slot_cmp new (first_of (cond_at old value) (value_within old presence (read_at old cells place))) made m in
    record {
      cells = AreCells-set new presence cells place cell (AreCells-extends e presence cells h) (new_cell new presence made cell is valid scope);
      count = length-set cells place cell;
      inside = λ c t. written c (n.inside c t) ∙ ap (set (cells_at old cells c) place) (first_slot (cond_at old value c) (value_within old presence (read_at old cells place) c) (cond_at-covers slot_cmp old value v c ∙ t));
      outside = λ c t f.
          written c t
          ∙ ap (set (cells_at old cells c) place) (second_slot (cond_at old value c) (old.test presence c) (item_or (cells_at old cells c) place Top) (cond_at-covers slot_cmp old value v c ∙ f) t)
          ∙ set_same (cells_at old cells c) place Top;
    }
  where
    there : (c : List Bool) → old.test presence c ≡ true → is_some (cond_at new made c) ≡ true
    there c t =
        cond_at-covers slot_cmp new made (IsCond-of slot_cmp new (first_of (cond_at old value) (value_within old presence (read_at old cells place))) made m) c
        ∙ ap (λ i. new.test i c) (made_scope lawful e presence cells place value made k v n m)
        ∙ e.test presence c k
        ∙ t

    written : (c : List Bool) → old.test presence c ≡ true → cells_at new (set cells place cell) c ≡ set (cells_at old cells c) place (or_top (first_of (cond_at old value) (value_within old presence (read_at old cells place)) c))
    written c t =
        map-set (cell_slot new c) cells place cell
        ∙ ap (λ slots. set slots place (cell_slot new c cell)) (cells_at-extends e presence cells h c)
        ∙ ap (set (cells_at old cells c) place) (new_slot new made cell c is (there c t) ∙ ap or_top (cond_at-of slot_cmp new (first_of (cond_at old value) (value_within old presence (read_at old cells place))) made c m))

-- where there is no such cell
nothing_there : {A : Type 0} (xs : List A) (i : ℕ) → None ≡ slice_get xs i → length xs ≤ i
nothing_there [] i e = omega arith
nothing_there (x ∷ xs) zero e = cc e
nothing_there (x ∷ xs) (suc i) e = omega (arith, nothing_there xs i e)

pub AreWritten-behind : {S I : Type 0} (sets : Sets I) (presence : I) (cells : List (Cell S I)) (place : ℕ) (value : Conditional Slot S I) → AreCells sets presence cells → None ≡ slice_get cells place → AreWritten sets sets presence cells place value cells
AreWritten-behind sets presence cells place value h e = record {
  cells = h;
  count = refl;
  inside = λ c t. sym (set_behind (cells_at sets cells c) place (slot_at sets value c) (few c));
  outside = λ c t f. refl;
}
  where
    few : (c : List Bool) → length (cells_at sets cells c) ≤ place
    few c = omega (arith, nothing_there cells place e, length-map cells (cell_slot sets c))
