-- What joining two groups makes.
use Rattle.std.proofs.Common.{◌≡◌, ℕ, Bool, true, false, List, [], ◌∷◌, refl, sym, ◌∙◌, ap, length, map}
use Rattle.std.specs.Prelude.{Option, Some, None, ◌||◌, is_some, unwrap_or, if◌then◌else◌}
use Rattle.std.specs.Option.{option_or}
use Rattle.std.specs.Ordering.{nat_cmp}
use Rattle.vx_value.specs.declared.key.KeyPart.{KeyPart}
use Rattle.vx_space.specs.Sets.{Sets, Extends, IsSet, IsLawful}
use Rattle.vx_space.proofs.Spaces.{Extends-trans, IsSet-extends}
use Rattle.vx_cond.specs.Leaves.{first_of}
use Rattle.vx_cond.specs.Cond.{Conditional, cond_at, IsCondOf, AreDisjoint}
use Rattle.vx_cond.proofs.CondLaws.{IsCond-of, cond_at-of, IsCondOf-extends}
use Rattle.vx_cond.proofs.SideLaws.{cond_at-covers}
use Rattle.vx_frame.specs.declared.frame.Frame.{Frame}
use Rattle.vx_frame.specs.Frame.{PlainFrame, Shape, IsFrameOf, frame_at, part_of, scope_of, shape_of, side_at}
use Rattle.vx_frame.proofs.FrameLaws.{IsFrame-of, frame_at-of, IsFrameOf-extends, IsFrame-scope_known, frame_at-extends, same_set}
use Rattle.vx_group.specs.declared.callers.Caller.{Caller}
use Rattle.vx_group.specs.Callers.{callers_of, AreCallers, frames_at, AreJoined}
use Rattle.vx_group.specs.Group.{GroupView, path_of, shapes_of, group_at, IsGroup, IsGroupIn, IsGroupOf, PlainGroup}
use Rattle.vx_group.proofs.CallerLaws.{Keeps-refl, AreCallers-later, frames_at-extends}
use Rattle.vx_group.proofs.GroupLaws.{IsGroup-attempts, IsGroup-top, IsGroup-one_scope, IsGroup-path_known, IsGroupIn-group, IsGroupIn-callers, IsGroupIn-parts, joined_scope, tail_of}

map_parts : {S I : Type 0} (frames : List (Frame S I)) → map (λ (s : Shape). s.part) (map shape_of frames) ≡ map part_of frames
map_parts [] = refl
map_parts (f ∷ fs) = ap (λ ps. part_of f ∷ ps) (map_parts fs)

heads : {A : Type 0} (x y : A) (xs ys : List A) → x ∷ xs ≡ y ∷ ys → x ≡ y
heads x y xs ys e = cc

-- groups of equal shapes have equal shapes on top and below, and equal parts below
pub same_tops : {S I : Type 0} (tree : List (Option (Caller S I))) (a b : GroupView S I) → shapes_of tree a ≡ shapes_of tree b → shape_of a.top ≡ shape_of b.top
same_tops tree a b e = heads _ _ _ _ e

pub same_callers_shapes : {S I : Type 0} (tree : List (Option (Caller S I))) (a b : GroupView S I) → shapes_of tree a ≡ shapes_of tree b → map shape_of (callers_of tree (length a.below) a.caller) ≡ map shape_of (callers_of tree (length b.below) b.caller)
same_callers_shapes tree a b e = tail_of _ _ _ _ e

pub same_below : {S I : Type 0} (sets : Sets I) (tree : List (Option (Caller S I))) (a b : GroupView S I) → IsGroupIn sets tree a → IsGroupIn sets tree b → shapes_of tree a ≡ shapes_of tree b → a.below ≡ b.below
same_below sets tree a b v w e =
    sym (IsGroupIn-parts sets tree a v)
    ∙ sym (map_parts (callers_of tree (length a.below) a.caller))
    ∙ ap (map (λ (s : Shape). s.part)) (same_callers_shapes tree a b e)
    ∙ map_parts (callers_of tree (length b.below) b.caller)
    ∙ IsGroupIn-parts sets tree b w

-- the second group's callers, counted by the first's depth
pub other_callers : {S I : Type 0} (sets : Sets I) (tree : List (Option (Caller S I))) (a b : GroupView S I) → IsGroupIn sets tree a → IsGroupIn sets tree b → shapes_of tree a ≡ shapes_of tree b → AreCallers sets tree (path_of b) (length a.below) b.caller
other_callers sets tree a b v w e = rw (same_below sets tree a b v w e) (IsGroupIn-callers sets tree b w)

pub other_shapes : {S I : Type 0} (sets : Sets I) (tree : List (Option (Caller S I))) (a b : GroupView S I) → IsGroupIn sets tree a → IsGroupIn sets tree b → shapes_of tree a ≡ shapes_of tree b → map shape_of (callers_of tree (length a.below) a.caller) ≡ map shape_of (callers_of tree (length a.below) b.caller)
other_shapes sets tree a b v w e = same_callers_shapes tree a b e ∙ ap (λ (ps : List KeyPart). map shape_of (callers_of tree (length ps) b.caller)) (sym (same_below sets tree a b v w e))

-- what a join of two groups was made of, each part over the space that the one before left
pub record AreJoinParts {S I : Type 0} (s0 s1 s2 s3 : Sets I) (t0 t1 : List (Option (Caller S I))) (a b : GroupView S I) (attempts : Conditional ℕ S I) (top : Frame S I) (caller : Option ℕ) : Type 0 where
  pub first : Extends s0 s1
  pub second : Extends s1 s2
  pub third : Extends s2 s3
  pub attempts_of : IsCondOf nat_cmp s1 (first_of (cond_at s0 a.attempts) (cond_at s0 b.attempts)) attempts
  pub scope : IsSet s2 (scope_of top) (λ c. s1.test (scope_of a.top) c || s1.test (scope_of b.top) c)
  pub shape : shape_of top ≡ shape_of a.top
  pub top_of : IsFrameOf s2 (side_at s1 (scope_of a.top) (frame_at s1 a.top) (frame_at s1 b.top)) top
  pub callers : AreJoined s2 s3 t0 t1 (length a.below) (path_of a) a.caller (path_of b) b.caller caller

pub join_parts : {S I : Type 0} {s0 s1 s2 s3 : Sets I} {t0 t1 : List (Option (Caller S I))} (a b : GroupView S I) (attempts : Conditional ℕ S I) (top : Frame S I) (caller : Option ℕ) → Extends s0 s1 → Extends s1 s2 → Extends s2 s3 → IsCondOf nat_cmp s1 (first_of (cond_at s0 a.attempts) (cond_at s0 b.attempts)) attempts → IsSet s2 (scope_of top) (λ c. s1.test (scope_of a.top) c || s1.test (scope_of b.top) c) → shape_of top ≡ shape_of a.top → IsFrameOf s2 (side_at s1 (scope_of a.top) (frame_at s1 a.top) (frame_at s1 b.top)) top → AreJoined s2 s3 t0 t1 (length a.below) (path_of a) a.caller (path_of b) b.caller caller → AreJoinParts s0 s1 s2 s3 t0 t1 a b attempts top caller
join_parts a b attempts top caller e f g m s h t j = record { first = e; second = f; third = g; attempts_of = m; scope = s; shape = h; top_of = t; callers = j }

-- the second group's callers over a later space
pub other_callers-later : {S I : Type 0} {s0 s1 : Sets I} → Extends s0 s1 → (tree : List (Option (Caller S I))) (a b : GroupView S I) → IsGroupIn s0 tree a → IsGroupIn s0 tree b → shapes_of tree a ≡ shapes_of tree b → AreCallers s1 tree (path_of b) (length a.below) b.caller
other_callers-later {s0 = s0} e tree a b v w h = AreCallers-later e (Keeps-refl tree) (path_of b) (IsGroup-path_known s0 b (IsGroupIn-group s0 tree b w)) (length a.below) b.caller (other_callers s0 tree a b v w h)

pub joined_path : {S I : Type 0} {s0 s1 s2 s3 : Sets I} {t0 t1 : List (Option (Caller S I))} (a b : GroupView S I) (attempts : Conditional ℕ S I) (top : Frame S I) (caller : Option ℕ) → IsGroup s0 a → IsGroup s0 b → AreJoinParts s0 s1 s2 s3 t0 t1 a b attempts top caller → IsSet s3 attempts.scope (λ c. s0.test (path_of a) c || s0.test (path_of b) c)
joined_path {s0 = s0} {s1 = s1} a b attempts top caller v w j = IsSet-extends j.third attempts.scope _ (IsSet-extends j.second attempts.scope _ (joined_scope s0 s1 a.attempts b.attempts attempts (IsGroup-attempts s0 a v) (IsGroup-attempts s0 b w) j.attempts_of))

pub joined_one_scope : {S I : Type 0} {s0 s1 s2 s3 : Sets I} {t0 t1 : List (Option (Caller S I))} → IsLawful s3 → (a b : GroupView S I) (attempts : Conditional ℕ S I) (top : Frame S I) (caller : Option ℕ) → IsGroup s0 a → IsGroup s0 b → AreJoinParts s0 s1 s2 s3 t0 t1 a b attempts top caller → scope_of top ≡ attempts.scope
joined_one_scope {s0 = s0} {s1 = s1} {s2 = s2} {s3 = s3} lawful a b attempts top caller v w j =
    let known_a = IsFrame-scope_known s0 a.top (IsGroup-top s0 a v) in
    let known_b = IsFrame-scope_known s0 b.top (IsGroup-top s0 b w) in
    let top_set : IsSet s3 (scope_of top) (λ c. s0.test (path_of a) c || s0.test (path_of b) c) = record {
      known = j.third.known (scope_of top) j.scope.known;
      test = λ c. j.third.test (scope_of top) c j.scope.known ∙ j.scope.test c ∙ rw (j.first.test (scope_of a.top) c known_a, j.first.test (scope_of b.top) c known_b, IsGroup-one_scope s0 a v, IsGroup-one_scope s0 b w) refl;
    } in
    same_set lawful (scope_of top) attempts.scope _ top_set (joined_path a b attempts top caller v w j)

pub joined_shapes : {S I : Type 0} {s0 s1 s2 s3 : Sets I} {t0 t1 : List (Option (Caller S I))} (a b : GroupView S I) (attempts : Conditional ℕ S I) (top : Frame S I) (caller : Option ℕ) → AreJoinParts s0 s1 s2 s3 t0 t1 a b attempts top caller → shapes_of t1 (record { attempts = attempts; top = top; below = a.below; caller = caller }) ≡ shapes_of t0 a
joined_shapes a b attempts top caller j = λ i. j.shape i ∷ j.callers.shapes i

pub IsGroupOf-joined : {S I : Type 0} {s0 s1 s2 s3 : Sets I} {t0 t1 : List (Option (Caller S I))} → IsLawful s3 → (a b : GroupView S I) (attempts : Conditional ℕ S I) (top : Frame S I) (caller : Option ℕ) → IsGroupIn s0 t0 a → IsGroupIn s0 t0 b → shapes_of t0 a ≡ shapes_of t0 b → AreDisjoint s0 (path_of a) (path_of b) → AreJoinParts s0 s1 s2 s3 t0 t1 a b attempts top caller → IsGroupOf s3 t1 (side_at s0 (path_of a) (group_at s0 t0 a) (group_at s0 t0 b)) (record { attempts = attempts; top = top; below = a.below; caller = caller })
unfolding IsGroupOf IsGroupIn IsGroup
IsGroupOf-joined {S = S} {I = I} {s0 = s0} {s1 = s1} {s2 = s2} {s3 = s3} {t0 = t0} {t1 = t1} lawful a b attempts top caller v w h d j =
    let alone_a = v.is_group in
    let alone_b = w.is_group in
    let known_a = IsGroup-path_known s0 a alone_a in
    let known_b = IsGroup-path_known s0 b alone_b in
    let to2 = Extends-trans j.first j.second in
    let to3 = Extends-trans to2 j.third in
    let paths = joined_path a b attempts top caller alone_a alone_b j in
    let one = joined_one_scope lawful a b attempts top caller alone_a alone_b j in
    let cond = IsCondOf-extends nat_cmp (Extends-trans j.second j.third) _ attempts j.attempts_of in
    let frame = IsFrameOf-extends j.third _ top j.top_of in
    let there_b = other_callers s0 t0 a b v w h in
    let path_test : (c : List Bool) → s3.test attempts.scope c ≡ true → (s2.test (path_of a) c || s2.test (path_of b) c) ≡ true = λ c t. (λ i. to2.test (path_of a) c known_a i || to2.test (path_of b) c known_b i) ∙ sym (paths.test c) ∙ t in
    let parts : map part_of (callers_of t1 (length a.below) caller) ≡ a.below = sym (map_parts (callers_of t1 (length a.below) caller)) ∙ ap (map (λ (s : Shape). s.part)) j.callers.shapes ∙ map_parts (callers_of t0 (length a.below) a.caller) ∙ v.parts in
    let top_test : (c : List Bool) → s1.test (scope_of a.top) c ≡ s0.test (path_of a) c = λ c. j.first.test (scope_of a.top) c (IsFrame-scope_known s0 a.top alone_a.top) ∙ ap (λ i. s0.test i c) alone_a.one_scope in
    let top_here : (c : List Bool) → s3.test attempts.scope c ≡ true → frame_at s3 top c ≡ (if s1.test (scope_of a.top) c then frame_at s1 a.top c else frame_at s1 b.top c) = λ c t. frame_at-of s3 _ top c frame (ap (λ i. s3.test i c) one ∙ t) in
    let cond_here : (c : List Bool) → cond_at s3 attempts c ≡ option_or (cond_at s0 a.attempts c) (cond_at s0 b.attempts c) = λ c. cond_at-of nat_cmp s3 _ attempts c cond in
    let first : (c : List Bool) → s3.test attempts.scope c ≡ true → s0.test (path_of a) c ≡ true → group_at s3 t1 (record { attempts = attempts; top = top; below = a.below; caller = caller }) c ≡ group_at s0 t0 a c = λ c t p.
    let frame_there = top_here c t ∙ take_first (s1.test (scope_of a.top) c) (frame_at s1 a.top c) (frame_at s1 b.top c) (top_test c ∙ p) ∙ frame_at-extends j.first a.top alone_a.top c in
    let rest = j.callers.at_first c (to2.test (path_of a) c known_a ∙ p) ∙ frames_at-extends to2 t0 (path_of a) (length a.below) a.caller v.callers c in
    let value = cond_here c ∙ or_there (cond_at s0 a.attempts c) (cond_at s0 b.attempts c) (cond_at-covers nat_cmp s0 a.attempts alone_a.attempts c ∙ p) in
    λ i. record { frames = frame_there i ∷ rest i; attempts = unwrap_or (value i) 0 } in
    let second : (c : List Bool) → s3.test attempts.scope c ≡ true → s0.test (path_of a) c ≡ false → group_at s3 t1 (record { attempts = attempts; top = top; below = a.below; caller = caller }) c ≡ group_at s0 t0 b c = λ c t p.
    let in_b = either (s0.test (path_of a) c) (s0.test (path_of b) c) (sym (paths.test c) ∙ t) p in
    let frame_there = top_here c t ∙ take_second (s1.test (scope_of a.top) c) (frame_at s1 a.top c) (frame_at s1 b.top c) (top_test c ∙ p) ∙ frame_at-extends j.first b.top alone_b.top c in
    let rest = j.callers.at_second c (to2.test (path_of b) c known_b ∙ in_b) ∙ frames_at-extends to2 t0 (path_of b) (length a.below) b.caller there_b c ∙ ap (λ (ps : List KeyPart). frames_at s0 (callers_of t0 (length ps) b.caller) c) (same_below s0 t0 a b v w h) in
    let value = cond_here c ∙ or_absent (cond_at s0 a.attempts c) (cond_at s0 b.attempts c) (cond_at-covers nat_cmp s0 a.attempts alone_a.attempts c ∙ p) in
    λ i. record { frames = frame_there i ∷ rest i; attempts = unwrap_or (value i) 0 } in
    record {
      is_group = record {
        is_group = record { attempts = IsCond-of nat_cmp s3 _ attempts cond; top = IsFrame-of s3 _ top frame; one_scope = one };
        callers = j.callers.callers attempts.scope path_test;
        parts = parts;
      };
      at = λ c t. sides (group_at s3 t1 (record { attempts = attempts; top = top; below = a.below; caller = caller }) c) (group_at s0 t0 a c) (group_at s0 t0 b c) (s0.test (path_of a) c) (first c t) (second c t);
    }
  where
    take_first : (t : Bool) (p q : PlainFrame) → t ≡ true → (if t then p else q) ≡ p
    take_first t p q h = rw h refl

    take_second : (t : Bool) (p q : PlainFrame) → t ≡ false → (if t then p else q) ≡ q
    take_second t p q h = rw h refl

    or_there : (p q : Option ℕ) → is_some p ≡ true → option_or p q ≡ p
    or_there None q h = cc
    or_there (Some x) q h = refl

    or_absent : (p q : Option ℕ) → is_some p ≡ false → option_or p q ≡ q
    or_absent None q h = refl
    or_absent (Some x) q h = cc

    either : (x y : Bool) → (x || y) ≡ true → x ≡ false → y ≡ true
    either true y h e = cc
    either false y h e = h

    sides : (made p q : PlainGroup) (t : Bool) → (t ≡ true → made ≡ p) → (t ≡ false → made ≡ q) → made ≡ (if t then p else q)
    sides made p q true f g = f refl
    sides made p q false f g = g refl
