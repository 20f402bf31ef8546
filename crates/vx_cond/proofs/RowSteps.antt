-- Rows of which a part is pushed, popped, replaced or read, for callers.
use Rattle.std.proofs.Common.{◌≡◌, ℕ, Bool, true, List, [], ◌∷◌, ◌++◌, refl, sym, ◌∙◌, ap, subst, map, zero, suc}
use Rattle.std.proofs.lemmas.List.{map-append}
use Rattle.std.specs.Prelude.{Some, slice_get, slice_set}
use Rattle.std.specs.declared.cmp.Ordering.{Ordering}
use Rattle.vx_value.specs.declared.slot.Slot.{Slot}
use Rattle.vx_space.specs.Sets.{Sets}
use Rattle.vx_cond.specs.Cond.{Conditional, cond_at, IsCond}
use Rattle.vx_cond.specs.Row.{Conditionals, AreConds, IsRow, conds_at}
use Rattle.vx_cond.specs.Slots.{or_top, slot_at, slots_at}
use Rattle.vx_cond.proofs.RowLaws.{AreConds-push}

-- an empty row, and a row with one part more
pub IsRow-empty : {T S I : Type 0} (cmp : T → T → Ordering) (sets : Sets I) (row : Conditionals T S I) → sets.is_known row.scope ≡ true → row.conds ≡ [] → IsRow cmp sets row
unfolding IsRow
IsRow-empty cmp sets row k e = record { scope_known = k; conds = let P : List (Conditional _ _ _) → Type 0 = λ xs. AreConds cmp sets row.scope xs in subst P (sym e) tt }

pub IsRow-push : {T S I : Type 0} (cmp : T → T → Ordering) (sets : Sets I) (row : Conditionals T S I) (cond : Conditional T S I) → IsRow cmp sets row → IsCond cmp sets cond → cond.scope ≡ row.scope → IsRow cmp sets (record row { conds = row.conds ++ cond ∷ [] })
unfolding IsRow
IsRow-push cmp sets row cond v w e = record { scope_known = v.scope_known; conds = AreConds-push cmp sets row.scope row.conds cond v.conds w e }

AreConds-popped : {T S I : Type 0} (cmp : T → T → Ordering) (sets : Sets I) (scope : I) (xs : List (Conditional T S I)) (x : Conditional T S I) → AreConds cmp sets scope (xs ++ x ∷ []) → AreConds cmp sets scope xs × IsCond cmp sets x × (x.scope ≡ scope)
AreConds-popped cmp sets scope [] x h = (tt, h.0, h.1)
AreConds-popped cmp sets scope (y ∷ ys) x h =
    let later = AreConds-popped cmp sets scope ys x h.2 in
    ((h.0, h.1, later.0), later.1, later.2)

-- the parts of a row with one part more
pub IsRow-popped : {T S I : Type 0} (cmp : T → T → Ordering) (sets : Sets I) (row : Conditionals T S I) (cond : Conditional T S I) → IsRow cmp sets (record row { conds = row.conds ++ cond ∷ [] }) → IsRow cmp sets row × IsCond cmp sets cond × (cond.scope ≡ row.scope)
unfolding IsRow
IsRow-popped cmp sets row cond v =
    let parts = AreConds-popped cmp sets row.scope row.conds cond v.conds in
    (record { scope_known = v.scope_known; conds = parts.0 }, parts.1, parts.2)

AreConds-set : {T S I : Type 0} (cmp : T → T → Ordering) (sets : Sets I) (scope : I) (xs : List (Conditional T S I)) (i : ℕ) (x : Conditional T S I) → AreConds cmp sets scope xs → IsCond cmp sets x → x.scope ≡ scope → AreConds cmp sets scope (slice_set xs i x)
AreConds-set cmp sets scope [] i x h w e = tt
AreConds-set cmp sets scope (y ∷ ys) zero x h w e = (w, e, h.2)
AreConds-set cmp sets scope (y ∷ ys) (suc i) x h w e = (h.0, h.1, AreConds-set cmp sets scope ys i x h.2 w e)

-- a row with another part at a place
pub IsRow-set : {T S I : Type 0} (cmp : T → T → Ordering) (sets : Sets I) (row : Conditionals T S I) (i : ℕ) (cond : Conditional T S I) → IsRow cmp sets row → IsCond cmp sets cond → cond.scope ≡ row.scope → IsRow cmp sets (record row { conds = slice_set row.conds i cond })
unfolding IsRow
IsRow-set cmp sets row i cond v w e = record { scope_known = v.scope_known; conds = AreConds-set cmp sets row.scope row.conds i cond v.conds w e }

AreConds-get : {T S I : Type 0} (cmp : T → T → Ordering) (sets : Sets I) (scope : I) (xs : List (Conditional T S I)) (i : ℕ) (x : Conditional T S I) → AreConds cmp sets scope xs → Some x ≡ slice_get xs i → IsCond cmp sets x × (x.scope ≡ scope)
AreConds-get cmp sets scope [] i x h e = cc
AreConds-get cmp sets scope (y ∷ ys) zero x h e =
    let same : x ≡ y = cc in
    rw same (h.0, h.1)
AreConds-get cmp sets scope (y ∷ ys) (suc i) x h e = AreConds-get cmp sets scope ys i x h.2 e

-- the part at a place of a row
pub IsRow-get : {T S I : Type 0} (cmp : T → T → Ordering) (sets : Sets I) (row : Conditionals T S I) (i : ℕ) (cond : Conditional T S I) → IsRow cmp sets row → Some cond ≡ slice_get row.conds i → IsCond cmp sets cond × (cond.scope ≡ row.scope)
unfolding IsRow
IsRow-get cmp sets row i cond v e = AreConds-get cmp sets row.scope row.conds i cond v.conds e

-- the slots of a row with one part more, with another part at a place, and the slot at a place
pub slots_at-push : {S I : Type 0} (sets : Sets I) (row : Conditionals Slot S I) (cond : Conditional Slot S I) (c : List Bool) → slots_at sets (record row { conds = row.conds ++ cond ∷ [] }) c ≡ slots_at sets row c ++ slot_at sets cond c ∷ []
slots_at-push sets row cond c = ap (λ os. map or_top os) (map-append (λ q. cond_at sets q c) row.conds (cond ∷ [])) ∙ map-append or_top (conds_at sets row.conds c) (cond_at sets cond c ∷ [])

set_slots : {S I : Type 0} (sets : Sets I) (xs : List (Conditional Slot S I)) (i : ℕ) (x : Conditional Slot S I) (c : List Bool) → map or_top (conds_at sets (slice_set xs i x) c) ≡ slice_set (map or_top (conds_at sets xs c)) i (slot_at sets x c)
set_slots sets [] i x c = refl
set_slots sets (y ∷ ys) zero x c = refl
set_slots sets (y ∷ ys) (suc i) x c = ap (λ r. slot_at sets y c ∷ r) (set_slots sets ys i x c)

pub slots_at-set : {S I : Type 0} (sets : Sets I) (row : Conditionals Slot S I) (i : ℕ) (cond : Conditional Slot S I) (c : List Bool) → slots_at sets (record row { conds = slice_set row.conds i cond }) c ≡ slice_set (slots_at sets row c) i (slot_at sets cond c)
slots_at-set sets row i cond c = set_slots sets row.conds i cond c

get_slots : {S I : Type 0} (sets : Sets I) (xs : List (Conditional Slot S I)) (i : ℕ) (x : Conditional Slot S I) (c : List Bool) → Some x ≡ slice_get xs i → Some (slot_at sets x c) ≡ slice_get (map or_top (conds_at sets xs c)) i
get_slots sets [] i x c e = cc
get_slots sets (y ∷ ys) zero x c e =
    let same : x ≡ y = cc in
    ap (λ q. Some (slot_at sets q c)) same
get_slots sets (y ∷ ys) (suc i) x c e = get_slots sets ys i x c e

pub slots_at-get : {S I : Type 0} (sets : Sets I) (row : Conditionals Slot S I) (i : ℕ) (cond : Conditional Slot S I) (c : List Bool) → Some cond ≡ slice_get row.conds i → Some (slot_at sets cond c) ≡ slice_get (slots_at sets row c) i
slots_at-get sets row i cond c e = get_slots sets row.conds i cond c e
