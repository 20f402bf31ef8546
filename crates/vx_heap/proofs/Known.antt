-- The ids that conditional values and rows hold are known.
use Rattle.std.proofs.Common.{List, [], ◌∷◌, ◌++◌, map}
use Rattle.std.specs.List.{flat_map}
use Rattle.std.specs.declared.cmp.Ordering.{Ordering}
use Rattle.vx_space.specs.Sets.{Sets, AreKept, AreKnown, Extends}
use Rattle.vx_cond.specs.declared.cond.Leaf.{Leaf}
use Rattle.vx_cond.specs.Leaves.{AreLeaves}
use Rattle.vx_cond.specs.Cond.{Conditional, IsCond, cond_ids}
use Rattle.vx_cond.specs.Row.{AreConds, Conditionals, IsRow, row_ids}

pub AreKnown-append : {I : Type 0} (sets : Sets I) (xs ys : List I) → AreKnown sets xs → AreKnown sets ys → AreKnown sets (xs ++ ys)
AreKnown-append sets [] ys h k = k
AreKnown-append sets (x ∷ xs) ys h k = (h.0, AreKnown-append sets xs ys h.1 k)

-- known ids are kept where a space is extended
pub AreKept-extends : {I : Type 0} {old new : Sets I} → Extends old new → (ids : List I) → AreKnown old ids → AreKept old new ids
AreKept-extends e [] h = tt
AreKept-extends e (id ∷ ids) h = (record { known = e.known id h.0; test = λ c. e.test id c h.0 }, AreKept-extends e ids h.1)

leaves_known : {T S I : Type 0} (cmp : T → T → Ordering) (sets : Sets I) (xs : List (Leaf T S I)) → AreLeaves cmp sets xs → AreKnown sets (map (λ leaf. leaf.condition) xs)
leaves_known cmp sets [] h = tt
leaves_known cmp sets (x ∷ xs) h = (h.0.known, leaves_known cmp sets xs h.1)

pub cond_known : {T S I : Type 0} (cmp : T → T → Ordering) (sets : Sets I) (cond : Conditional T S I) → IsCond cmp sets cond → AreKnown sets (cond_ids cond)
unfolding IsCond
cond_known cmp sets cond v = (v.scope_known, leaves_known cmp sets cond.leaves v.are_leaves)

pub conds_known : {T S I : Type 0} (cmp : T → T → Ordering) (sets : Sets I) (scope : I) (xs : List (Conditional T S I)) → AreConds cmp sets scope xs → AreKnown sets (flat_map cond_ids xs)
conds_known cmp sets scope [] h = tt
conds_known cmp sets scope (x ∷ xs) h = AreKnown-append sets (cond_ids x) (flat_map cond_ids xs) (cond_known cmp sets x h.0) (conds_known cmp sets scope xs h.2)

pub row_known : {T S I : Type 0} (cmp : T → T → Ordering) (sets : Sets I) (row : Conditionals T S I) → IsRow cmp sets row → AreKnown sets (row_ids row)
unfolding IsRow
row_known cmp sets row v = (v.scope_known, conds_known cmp sets row.scope row.conds v.conds)
