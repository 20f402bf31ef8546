-- What a part of a group has of the group, and that it is somewhere.
use Rattle.std.proofs.Common.{◌≡◌, ◌≢◌, ℕ, ◌<◌, zero, suc, Bool, true, false, List, [], ◌∷◌, refl, sym, ◌∙◌, ap, subst, arith, get_or, length}
use Rattle.std.specs.declared.cmp.Ordering.{Ordering}
use Rattle.vx_space.specs.Sets.{Sets, IsLawful}
use Rattle.vx_space.proofs.Differences.{some_difference}
use Rattle.vx_cond.specs.declared.cond.Leaf.{Leaf}
use Rattle.vx_cond.specs.Leaves.{AreLeaves}
use Rattle.vx_frame.specs.Frame.{frame_at, shape_of}
use Rattle.vx_group.specs.Group.{GroupView, IsGroup, IsPartOf, path_of}
use Rattle.vx_group_states.specs.Sites.{IsSomewhere}
use Rattle.vx_group_states.proofs.Gathering.{part_path}

pub part_shape : {S I : Type 0} (s0 s1 : Sets I) (set : List Bool → Bool) (group part : GroupView S I) → IsPartOf s0 s1 set group part → shape_of part.top ≡ shape_of group.top
unfolding IsPartOf
part_shape s0 s1 set group part q = q.shape

pub part_frame : {S I : Type 0} (s0 s1 : Sets I) (set : List Bool → Bool) (group part : GroupView S I) → IsPartOf s0 s1 set group part → (c : List Bool) → s1.test (path_of part) c ≡ true → frame_at s1 part.top c ≡ frame_at s0 group.top c
unfolding IsPartOf
part_frame s0 s1 set group part q c t = ap (λ top. top.frame) (q.at c t)

pub part_group : {S I : Type 0} (s0 s1 : Sets I) (set : List Bool → Bool) (group part : GroupView S I) → IsPartOf s0 s1 set group part → IsGroup s1 part
unfolding IsPartOf
part_group s0 s1 set group part q = q.is_group

-- some configuration is in a leaf's condition
first_leaf : {K S I : Type 0} (cmp : K → K → Ordering) (sets : Sets I) (xs : List (Leaf K S I)) (i : ℕ) (x : Leaf K S I) → AreLeaves cmp sets xs → i < length xs → x ≡ get_or xs i x → (sets.is_known x.condition ≡ true) × (x.condition ≢ sets.never)
first_leaf cmp sets [] i x h l e = absurd (omega (arith, l))
first_leaf {K = K} {S = S} {I = I} cmp sets (y ∷ ys) zero x h l e =
    let P : Leaf K S I → Type 0 = λ leaf. (sets.is_known leaf.condition ≡ true) × (leaf.condition ≢ sets.never) in
    subst P (sym e) (h.0.known, h.0.nonempty)
first_leaf cmp sets (y ∷ ys) (suc i) x h l e = first_leaf cmp sets ys i x h.1 (omega (arith, l)) e

unlike_false : (a b : Bool) → a ≢ b → b ≡ false → a ≡ true
unlike_false true b n e = refl
unlike_false false b n e = absurd (n (sym e))

pub IsSomewhere-leaf : {K S I : Type 0} (cmp : K → K → Ordering) {s0 : Sets I} (s1 : Sets I) → IsLawful s0 → (group part : GroupView S I) (xs : List (Leaf K S I)) (i : ℕ) (x : Leaf K S I) → AreLeaves cmp s0 xs → i < length xs → x ≡ get_or xs i x → IsPartOf s0 s1 (s0.test x.condition) group part → IsSomewhere s1 (path_of part)
IsSomewhere-leaf cmp {s0 = s0} s1 lawful group part xs i x are l e q =
    let leaf = first_leaf cmp s0 xs i x are l e in
    let found = some_difference lawful x.condition s0.never leaf.0 lawful.never_known leaf.1 in
    record { config = found.0; inside = part_path s0 s1 (s0.test x.condition) group part q found.0 ∙ unlike_false (s0.test x.condition found.0) (s0.test s0.never found.0) found.1 (lawful.never_test found.0) }
