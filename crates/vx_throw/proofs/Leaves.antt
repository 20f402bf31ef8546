-- What a question made of the objects, leaf by leaf.
use Rattle.std.proofs.Common.{◌≡◌, Bool, true, false, List, [], ◌∷◌, refl, sym, ◌∙◌, ap}
use Rattle.std.specs.Prelude.{Option, Some, None, if◌then◌else◌}
use Rattle.std.specs.List.{list_all}
use Rattle.std.specs.declared.cmp.Ordering.{Ordering}
use Rattle.vx_space.specs.Sets.{Sets, IsLawful}
use Rattle.vx_cond.specs.declared.cond.Leaf.{Leaf}
use Rattle.vx_cond.specs.Leaves.{AreLeaves, IsLifted, value_at}
use Rattle.vx_cond.specs.Cond.{Conditional, IsCondLifting, cond_at}
use Rattle.vx_group_states.proofs.Gathering.{AreLeaves-of}
use Rattle.vx_group_states.proofs.SettleLaws.{lifting_at, lifting_cond}
use Rattle.vx_group_states.proofs.StateLaws.{both}
use Rattle.vx_cells.proofs.Somewhere.{somewhere_in}

behind : {T : Type 0} (b : Bool) (v : T) (r : Option T) (w : T) → (b ≡ true → r ≡ None) → r ≡ Some w → (if b then Some v else r) ≡ Some w
behind true v r w f e = let none = f refl in cc (none, e)
behind false v r w f e = e

-- what holds of the value at each configuration holds of each leaf, since a leaf has a configuration
each_leaf : {U S I : Type 0} (cmp : U → U → Ordering) {sets : Sets I} → IsLawful sets → (test : U → Bool) (xs : List (Leaf U S I)) → AreLeaves cmp sets xs → ((c : List Bool) (u : U) → value_at sets xs c ≡ Some u → test u ≡ true) → list_all (λ leaf. test leaf.value) xs ≡ true
each_leaf cmp lawful test [] v h = refl
each_leaf cmp {sets = sets} lawful test (x ∷ xs) v h =
    let some = somewhere_in lawful x.condition v.0.known v.0.nonempty in
    both (test x.value) (list_all (λ leaf. test leaf.value) xs)
    (h some.config x.value (ap (λ b. if b then Some x.value else value_at sets xs some.config) some.inside))
    (each_leaf cmp lawful test xs v.1 (λ c u e. h c u (behind (sets.test x.condition c) x.value (value_at sets xs c) u (λ t. v.0.apart.none c t) e)))

answered : {T U : Type 0} (R : T → U → Type 0) (test : U → Bool) (o : Option T) (a : Option U) (u : U) → ((t : T) (u : U) → R t u → test u ≡ true) → IsLifted R o a → a ≡ Some u → test u ≡ true
answered R test None a u law l e = cc (l, e)
answered R test (Some t) None u law l e = absurd l
answered R test (Some t) (Some v) u law l e =
    let same : v ≡ u = cc in
    ap test (sym same) ∙ law t v l

-- what holds of each answer holds of each leaf
pub each_answer : {T U S I : Type 0} (cmp : U → U → Ordering) {sets : Sets I} → IsLawful sets → (R : T → U → Type 0) (test : U → Bool) (value : List Bool → Option T) (cond : Conditional U S I) → ((t : T) (u : U) → R t u → test u ≡ true) → IsCondLifting cmp sets R value cond → list_all (λ leaf. test leaf.value) cond.leaves ≡ true
each_answer cmp {sets = sets} lawful R test value cond law l =
    each_leaf cmp lawful test cond.leaves (AreLeaves-of cmp sets cond (lifting_cond cmp sets R value cond l))
    (λ c u e. answered R test (value c) (cond_at sets cond c) u law (lifting_at cmp sets R value cond l c) e)
