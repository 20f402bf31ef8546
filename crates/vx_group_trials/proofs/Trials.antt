-- Laws of the groups that the trials begin with.
use Rattle.std.proofs.Common.{◌≡◌, ℕ, Bool, true, false, List, [], ◌∷◌, refl, sym, ◌∙◌, ap, subst, length, map}
use Rattle.std.specs.Prelude.{Option, Some, None, ◌&&◌, not, if◌then◌else◌, unwrap_or}
use Rattle.std.specs.Ordering.{nat_cmp}
use Rattle.vx_value.specs.declared.key.KeyPart.{KeyPart}
use Rattle.vx_space.specs.Sets.{Sets, Extends}
use Rattle.vx_cond.specs.Leaves.{value_within}
use Rattle.vx_cond.specs.Cond.{Conditional, cond_at, IsCondOf, AreDisjoint}
use Rattle.vx_cond.proofs.CondLaws.{cond_at-of}
use Rattle.vx_frame.specs.Frame.{Shape, shape_of}
use Rattle.vx_group.specs.declared.callers.Caller.{Caller}
use Rattle.vx_group.specs.Callers.{Keeps, callers_of}
use Rattle.vx_group.specs.Group.{GroupView, path_of, shapes_of, IsGroupIn, IsPartOf}
use Rattle.vx_group.specs.Sweep.{StandIn}
use Rattle.vx_group.proofs.CallerLaws.{AreCallers-nodes, callers_of-kept}
use Rattle.vx_group.proofs.GroupLaws.{IsGroupIn-callers, IsGroupIn-one, IsGroupIn-of, IsGroupOf-part}
use Rattle.vx_group_trials.specs.Halves.{IsSingle, AreHalves}

-- no attempts are used at first
zero_within : (b : Bool) → ◌≡◌ {A = ℕ} (unwrap_or (if b then Some 0 else None) 0) 0
zero_within true = refl
zero_within false = refl

pub fresh_attempts : {S I : Type 0} (sets : Sets I) (path : I) (cond : Conditional ℕ S I) → IsCondOf nat_cmp sets (value_within sets path (λ _. Some 0)) cond → (c : List Bool) → unwrap_or (cond_at sets cond c) 0 ≡ 0
fresh_attempts sets path cond v c = ap (λ o. unwrap_or o 0) (cond_at-of nat_cmp sets _ cond c v) ∙ zero_within (sets.test path c)

-- a group of one frame stands in every tree
pub IsGroupIn-single : {S I : Type 0} (sets : Sets I) (tree : List (Option (Caller S I))) (group : GroupView S I) → IsSingle sets group → IsGroupIn sets tree group
IsGroupIn-single sets tree group v = IsGroupIn-one sets tree group v.is_group v.below v.caller

pub shapes_of-single : {S I : Type 0} (sets : Sets I) (tree : List (Option (Caller S I))) (group : GroupView S I) → IsSingle sets group → shapes_of tree group ≡ shape_of group.top ∷ []
shapes_of-single sets tree group v = ap (λ (parts : List KeyPart). shape_of group.top ∷ map shape_of (callers_of tree (length parts) group.caller)) v.below

-- a group in its tree has the same shapes where the tree keeps its nodes
pub shapes_of-kept : {S I : Type 0} {old new : List (Option (Caller S I))} → Keeps old new → (sets : Sets I) (group : GroupView S I) → IsGroupIn sets old group → shapes_of new group ≡ shapes_of old group
shapes_of-kept {old = old} k sets group v = ap (λ frames. shape_of group.top ∷ map shape_of frames) (callers_of-kept k (length group.below) group.caller (AreCallers-nodes sets old (path_of group) (length group.below) group.caller (IsGroupIn-callers sets old group v)))

-- one group stands in its tree
pub StandIn-one : {S I : Type 0} (sets : Sets I) (tree : List (Option (Caller S I))) (group : GroupView S I) (groups : List (GroupView S I)) → IsGroupIn sets tree group → groups ≡ group ∷ [] → StandIn tree groups
StandIn-one {S = S} {I = I} sets tree group groups v e =
    let P : List (GroupView S I) → Type 0 = StandIn tree in
    subst P (sym e) (AreCallers-nodes sets tree (path_of group) (length group.below) group.caller (IsGroupIn-callers sets tree group v), tt)

-- two halves with a frame of one shape put on each
pub called_shapes : {S I : Type 0} (sets : Sets I) (t0 t1 t2 : List (Option (Caller S I))) (shape : Shape) (first second a b : GroupView S I) → AreHalves sets first second → Keeps t1 t2 → IsGroupIn sets t1 a → shapes_of t1 a ≡ shape ∷ shapes_of t0 first → shapes_of t2 b ≡ shape ∷ shapes_of t1 second → shapes_of t2 a ≡ shapes_of t2 b
called_shapes sets t0 t1 t2 shape first second a b h k v e f =
    let below = shapes_of-single sets t0 first h.is_first ∙ ap (λ s. s ∷ []) h.shapes ∙ sym (shapes_of-single sets t1 second h.is_second) in
    shapes_of-kept k sets a v ∙ e ∙ ap (λ ss. shape ∷ ss) below ∙ sym f

-- what `split` makes of a group: two parts of one shape, and of different configurations
both_first : (a b : Bool) → (a && b) ≡ true → a ≡ true
both_first true b h = refl
both_first false b h = cc h

outside : (a b : Bool) → (a && b) ≡ true → (a && not b) ≡ false
outside true true h = refl
outside true false h = cc
outside false b h = refl

pub IsGroupIn-inside : {S I : Type 0} {s0 s1 : Sets I} (tree : List (Option (Caller S I))) → Extends s0 s1 → (group part : GroupView S I) (test : List Bool → Bool) → IsGroupIn s0 tree group → IsPartOf s0 s1 (λ c. s0.test (path_of group) c && test c) group part → IsGroupIn s1 tree part
IsGroupIn-inside {s0 = s0} {s1 = s1} tree e group part test v p = IsGroupIn-of s1 tree _ part (IsGroupOf-part tree e _ group part (λ c. both_first (s0.test (path_of group) c) (test c)) v p)

pub parts_shapes : {S I : Type 0} (s0 s1 : Sets I) (tree : List (Option (Caller S I))) (a b : List Bool → Bool) (group first second : GroupView S I) → IsPartOf s0 s1 a group first → IsPartOf s0 s1 b group second → shapes_of tree first ≡ shapes_of tree second
unfolding IsPartOf
parts_shapes s0 s1 tree a b group first second p q =
    let shape = p.shape ∙ sym q.shape in
    let below = p.below ∙ sym q.below in
    let caller = p.caller ∙ sym q.caller in
    λ i. shape i ∷ map shape_of (callers_of tree (length (below i)) (caller i))

pub parts_apart : {S I : Type 0} (s0 s1 : Sets I) (within : I) (group first second : GroupView S I) → IsPartOf s0 s1 (λ c. s0.test (path_of group) c && s0.test within c) group first → IsPartOf s0 s1 (λ c. s0.test (path_of group) c && not (s0.test within c)) group second → AreDisjoint s1 (path_of first) (path_of second)
unfolding IsPartOf
parts_apart s0 s1 within group first second p q = record { apart = λ c t. q.path.test c ∙ outside (s0.test (path_of group) c) (s0.test within c) (sym (p.path.test c) ∙ t) }

part_single : {S I : Type 0} (s0 s1 : Sets I) (set : List Bool → Bool) (group part : GroupView S I) → IsSingle s0 group → IsPartOf s0 s1 set group part → IsSingle s1 part
unfolding IsPartOf
part_single s0 s1 set group part v p = record {
  is_group = p.is_group;
  below = p.below ∙ v.below;
  caller = p.caller ∙ v.caller;
  locals = ap (λ (s : Shape). s.locals) p.shape ∙ v.locals;
}

one_shape : {S I : Type 0} (s0 s1 : Sets I) (a b : List Bool → Bool) (group first second : GroupView S I) → IsPartOf s0 s1 a group first → IsPartOf s0 s1 b group second → shape_of first.top ≡ shape_of second.top
unfolding IsPartOf
one_shape s0 s1 a b group first second p q = p.shape ∙ sym q.shape

pub AreHalves-split : {S I : Type 0} (s0 s1 : Sets I) (within : I) (group first second : GroupView S I) → IsSingle s0 group → IsPartOf s0 s1 (λ c. s0.test (path_of group) c && s0.test within c) group first → IsPartOf s0 s1 (λ c. s0.test (path_of group) c && not (s0.test within c)) group second → AreHalves s1 first second
AreHalves-split s0 s1 within group first second v p q = record {
  is_first = part_single s0 s1 _ group first v p;
  is_second = part_single s0 s1 _ group second v q;
  shapes = one_shape s0 s1 _ _ group first second p q;
  apart = parts_apart s0 s1 within group first second p q;
}
