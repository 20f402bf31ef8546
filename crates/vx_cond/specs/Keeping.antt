-- The law of keeping: plain values over two spaces in which the ids held have the same sets.
use Rattle.std.specs.Prelude.{◌≡◌, Bool, List, [], ◌∷◌, ◌++◌, Some, if◌then◌else◌, map, refl}
use Rattle.std.proofs.Common.{ap}
use Rattle.std.specs.List.{flat_map}
use Rattle.vx_space.specs.Sets.{Sets, AreKept}
use Rattle.vx_cond.specs.declared.cond.Leaf.{Leaf}
use Rattle.vx_cond.specs.Leaves.{value_at}
use Rattle.vx_cond.specs.Cond.{Conditional, cond_at, cond_ids}
use Rattle.vx_cond.specs.Row.{Conditionals, conds_at, row_at, row_ids}

-- lists of which each id is kept
pub AreKept-append_left : {I : Type 0} (old new : Sets I) (xs ys : List I) → AreKept old new (xs ++ ys) → AreKept old new xs
AreKept-append_left old new [] ys h = tt
AreKept-append_left old new (x ∷ xs) ys h = (h.0, AreKept-append_left old new xs ys h.1)

pub AreKept-append_right : {I : Type 0} (old new : Sets I) (xs ys : List I) → AreKept old new (xs ++ ys) → AreKept old new ys
AreKept-append_right old new [] ys h = h
AreKept-append_right old new (x ∷ xs) ys h = AreKept-append_right old new xs ys h.1

pub value_at-kept : {T S I : Type 0} (old new : Sets I) (xs : List (Leaf T S I)) (c : List Bool) → AreKept old new (map (λ leaf. leaf.condition) xs) → value_at new xs c ≡ value_at old xs c
value_at-kept old new [] c k = refl
value_at-kept old new (x ∷ xs) c k = rw (k.0.test c) (ap (λ r. if old.test x.condition c then Some x.value else r) (value_at-kept old new xs c k.1))

pub cond_at-kept : {T S I : Type 0} (old new : Sets I) (cond : Conditional T S I) (c : List Bool) → AreKept old new (cond_ids cond) → cond_at new cond c ≡ cond_at old cond c
cond_at-kept old new cond c k = value_at-kept old new cond.leaves c k.1

pub conds_at-kept : {T S I : Type 0} (old new : Sets I) (xs : List (Conditional T S I)) (c : List Bool) → AreKept old new (flat_map cond_ids xs) → conds_at new xs c ≡ conds_at old xs c
conds_at-kept old new [] c k = refl
conds_at-kept old new (x ∷ xs) c k = rw (cond_at-kept old new x c (AreKept-append_left old new (cond_ids x) (flat_map cond_ids xs) k), conds_at-kept old new xs c (AreKept-append_right old new (cond_ids x) (flat_map cond_ids xs) k)) refl

pub row_at-kept : {T S I : Type 0} (old new : Sets I) (row : Conditionals T S I) (c : List Bool) → AreKept old new (row_ids row) → row_at new row c ≡ row_at old row c
row_at-kept old new row c k = conds_at-kept old new row.conds c k.1
