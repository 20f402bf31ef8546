-- Sets that aren't empty.
use Rattle.std.proofs.Common.{◌≡◌, ◌≢◌, ℕ, ◌<◌, zero, suc, Bool, true, false, List, [], ◌∷◌, refl, sym, ◌∙◌, ap, arith, get_or, length}
use Rattle.std.specs.declared.cmp.Ordering.{Ordering}
use Rattle.vx_cond.proofs.LeafLoops.{next_leaf}
use Rattle.vx_cond.specs.Leaves.{AreLeaves}
use Rattle.vx_cond.specs.declared.cond.Leaf.{Leaf}
use Rattle.vx_group_states.specs.Sites.{IsSomewhere}
use Rattle.vx_space.specs.Sets.{Sets, Extends, IsLawful}
use Rattle.vx_space.proofs.Differences.{some_difference}

-- some configuration is in a set that isn't never
pub somewhere_in : {I : Type 0} {sets : Sets I} → IsLawful sets → (condition : I) → sets.is_known condition ≡ true → (condition ≡ sets.never → ⊥) → IsSomewhere sets condition
somewhere_in {sets = sets} lawful condition k n =
    let found = some_difference lawful condition sets.never k lawful.never_known n in
    record { config = found.0; inside = true_of (sets.test condition found.0) (λ t. found.1 (t ∙ sym (lawful.never_test found.0))) }
  where
    true_of : (b : Bool) → (b ≡ false → ⊥) → b ≡ true
    true_of true f = refl
    true_of false f = absurd (f refl)

pub somewhere_later : {I : Type 0} {s0 s1 : Sets I} → Extends s0 s1 → (condition : I) → s0.is_known condition ≡ true → IsSomewhere s0 condition → IsSomewhere s1 condition
somewhere_later e condition k h = record { config = h.config; inside = e.test condition h.config k ∙ h.inside }

-- some configuration has a leaf
pub leaf_somewhere : {T S I : Type 0} (cmp : T → T → Ordering) {sets : Sets I} → IsLawful sets → (xs : List (Leaf T S I)) (i : ℕ) (x : Leaf T S I) → AreLeaves cmp sets xs → i < length xs → x ≡ get_or xs i x → IsSomewhere sets x.condition
leaf_somewhere {T = T} {S = S} {I = I} cmp {sets = sets} lawful xs i x h l e = somewhere_in lawful x.condition (next_leaf cmp sets xs i x h l e).known (nonempty xs i h l e)
  where
    nonempty : (ys : List (Leaf T S I)) (j : ℕ) → AreLeaves cmp sets ys → j < length ys → x ≡ get_or ys j x → x.condition ≢ sets.never
    nonempty [] j h l e = absurd (omega (arith, l))
    nonempty (y ∷ ys) zero h l e = λ q. h.0.nonempty (ap (λ (z : Leaf T S I). z.condition) (sym e) ∙ q)
    nonempty (y ∷ ys) (suc j) h l e = nonempty ys j h.1 (omega (arith, l)) e
