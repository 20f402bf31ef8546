-- Laws of groups, for callers.
use Rattle.std.proofs.Common.{◌≡◌, ℕ, ◌+◌, ◌<◌, ◌^◌, Bool, true, false, List, [], ◌∷◌, refl, sym, ◌∙◌, ap, subst, suc, length, map, arith}
use Rattle.std.specs.Prelude.{Option, Some, None, ◌&&◌, ◌||◌, is_some, unwrap_or, if◌then◌else◌, not, IfSome, IfNone}
use Rattle.std.specs.Option.{option_or}
use Rattle.std.specs.Ordering.{nat_cmp}
use Rattle.vx_value.specs.declared.key.KeyPart.{KeyPart}
use Rattle.vx_space.specs.Sets.{Sets, Extends, IsSet, IsLawful}
use Rattle.vx_space.proofs.Spaces.{Extends-trans, IsSet-extends}
use Rattle.vx_cond.specs.Leaves.{value_within, first_of, IsLifted}
use Rattle.vx_cond.specs.Cond.{Conditional, cond_at, IsCond, IsCondOf, IsCondLifting}
use Rattle.vx_cond.proofs.CondLaws.{IsCond-extends, IsCond-of, cond_at-of, cond_at-extends, IsCondOf-extends}
use Rattle.vx_cond.proofs.SideLaws.{cond_at-covers}
use Rattle.vx_frame.specs.declared.frame.Frame.{Frame}
use Rattle.vx_frame.specs.Frame.{Shape, IsFrame, IsFrameOf, frame_at, part_of, scope_of, shape_of}
use Rattle.vx_frame.proofs.FrameLaws.{IsFrame-extends, IsFrame-of, frame_at-of, IsFrame-scope_known, frame_at-extends, same_set}
use Rattle.vx_group.specs.declared.callers.Caller.{Caller}
use Rattle.vx_group.specs.Callers.{node_at, callers_of, IsCallerFrame, AreCallers, Keeps, frames_at, IsFrameInside}
use Rattle.vx_group.specs.Group.{GroupView, path_of, stack_of, group_at, attempts_at, top_at, IsGroup, IsGroupIn, IsGroupOf, IsPartOf, IsPopped, PlainGroup}
use Rattle.vx_group.proofs.CallerLaws.{Keeps-refl, callers_of-node, callers_of-kept, AreCallers-nodes, AreCallers-kept, AreCallers-later, AreCallers-narrow, frames_at-extends, frames_at-later}

-- the parts of a group by itself
pub IsGroup-attempts : {S I : Type 0} (sets : Sets I) (group : GroupView S I) → IsGroup sets group → IsCond nat_cmp sets group.attempts
unfolding IsGroup
IsGroup-attempts sets group v = v.attempts

pub IsGroup-top : {S I : Type 0} (sets : Sets I) (group : GroupView S I) → IsGroup sets group → IsFrame sets group.top
unfolding IsGroup
IsGroup-top sets group v = v.top

pub IsGroup-one_scope : {S I : Type 0} (sets : Sets I) (group : GroupView S I) → IsGroup sets group → scope_of group.top ≡ path_of group
unfolding IsGroup
IsGroup-one_scope sets group v = v.one_scope

pub IsGroup-path_known : {S I : Type 0} (sets : Sets I) (group : GroupView S I) → IsGroup sets group → sets.is_known (path_of group) ≡ true
unfolding IsGroup
IsGroup-path_known sets group v = ap sets.is_known (sym v.one_scope) ∙ IsFrame-scope_known sets group.top v.top

-- a group of attempts and a frame of one scope
pub IsGroup-of_parts : {S I : Type 0} (sets : Sets I) (group : GroupView S I) → IsCond nat_cmp sets group.attempts → IsFrame sets group.top → scope_of group.top ≡ path_of group → IsGroup sets group
unfolding IsGroup
IsGroup-of_parts sets group a t e = record { attempts = a; top = t; one_scope = e }

pub IsGroup-extends : {S I : Type 0} {old new : Sets I} → Extends old new → (group : GroupView S I) → IsGroup old group → IsGroup new group
unfolding IsGroup
IsGroup-extends e group v = record { attempts = IsCond-extends nat_cmp e group.attempts v.attempts; top = IsFrame-extends e group.top v.top; one_scope = v.one_scope }

pub attempts_at-extends : {S I : Type 0} {old new : Sets I} → Extends old new → (group : GroupView S I) → IsGroup old group → (c : List Bool) → attempts_at new group c ≡ attempts_at old group c
attempts_at-extends {old = old} e group v c = ap (λ o. unwrap_or o 0) (cond_at-extends nat_cmp e group.attempts (IsGroup-attempts old group v) c)

pub top_at-extends : {S I : Type 0} {old new : Sets I} → Extends old new → (group : GroupView S I) → IsGroup old group → (c : List Bool) → top_at new group c ≡ top_at old group c
top_at-extends {old = old} e group v c = λ i. record { frame = frame_at-extends e group.top (IsGroup-top old group v) c i; attempts = attempts_at-extends e group v c i }

-- the parts of a group in a tree
pub IsGroupIn-group : {S I : Type 0} (sets : Sets I) (tree : List (Option (Caller S I))) (group : GroupView S I) → IsGroupIn sets tree group → IsGroup sets group
unfolding IsGroupIn
IsGroupIn-group sets tree group v = v.is_group

pub IsGroupIn-callers : {S I : Type 0} (sets : Sets I) (tree : List (Option (Caller S I))) (group : GroupView S I) → IsGroupIn sets tree group → AreCallers sets tree (path_of group) (length group.below) group.caller
unfolding IsGroupIn
IsGroupIn-callers sets tree group v = v.callers

pub IsGroupIn-parts : {S I : Type 0} (sets : Sets I) (tree : List (Option (Caller S I))) (group : GroupView S I) → IsGroupIn sets tree group → map part_of (callers_of tree (length group.below) group.caller) ≡ group.below
unfolding IsGroupIn
IsGroupIn-parts sets tree group v = v.parts

-- a group of one frame
pub IsGroupIn-one : {S I : Type 0} (sets : Sets I) (tree : List (Option (Caller S I))) (group : GroupView S I) → IsGroup sets group → group.below ≡ [] → group.caller ≡ None → IsGroupIn sets tree group
unfolding IsGroupIn
IsGroupIn-one sets tree group v b n = record { is_group = v; callers = rw b n; parts = rw b refl }

-- a group stays one, with what stands in it, where the space is extended and the tree keeps its nodes
pub IsGroupIn-later : {S I : Type 0} {s0 s1 : Sets I} {t0 t1 : List (Option (Caller S I))} → Extends s0 s1 → Keeps t0 t1 → (group : GroupView S I) → IsGroupIn s0 t0 group → IsGroupIn s1 t1 group
unfolding IsGroupIn
IsGroupIn-later {s0 = s0} {s1 = s1} {t0 = t0} {t1 = t1} e k group v = record {
  is_group = IsGroup-extends e group v.is_group;
  callers = AreCallers-later e k (path_of group) (IsGroup-path_known s0 group v.is_group) (length group.below) group.caller v.callers;
  parts = ap (map part_of) (callers_of-kept k (length group.below) group.caller (AreCallers-nodes s0 t0 (path_of group) (length group.below) group.caller v.callers)) ∙ v.parts;
}

pub group_at-later : {S I : Type 0} {s0 s1 : Sets I} {t0 t1 : List (Option (Caller S I))} → Extends s0 s1 → Keeps t0 t1 → (group : GroupView S I) → IsGroupIn s0 t0 group → (c : List Bool) → group_at s1 t1 group c ≡ group_at s0 t0 group c
group_at-later {s0 = s0} {s1 = s1} {t0 = t0} {t1 = t1} e k group v c =
    let alone = IsGroupIn-group s0 t0 group v in
    let frames = frames_at-later e k (path_of group) (length group.below) group.caller (IsGroupIn-callers s0 t0 group v) c in
    λ i. record { frames = frame_at-extends e group.top (IsGroup-top s0 group alone) c i ∷ frames i; attempts = attempts_at-extends e group alone c i }

pub IsGroupIn-of : {S I : Type 0} (sets : Sets I) (tree : List (Option (Caller S I))) (value : List Bool → PlainGroup) (group : GroupView S I) → IsGroupOf sets tree value group → IsGroupIn sets tree group
unfolding IsGroupOf
IsGroupIn-of sets tree value group v = v.is_group

pub group_at-of : {S I : Type 0} (sets : Sets I) (tree : List (Option (Caller S I))) (value : List Bool → PlainGroup) (group : GroupView S I) (c : List Bool) → IsGroupOf sets tree value group → sets.test (path_of group) c ≡ true → group_at sets tree group c ≡ value c
unfolding IsGroupOf
group_at-of sets tree value group c v t = v.at c t

-- a group with the same callers over a later space, whose path is inside: what `split` makes, and a frame put on again
pub IsGroupIn-same_callers : {S I : Type 0} {s0 s1 : Sets I} (tree : List (Option (Caller S I))) → Extends s0 s1 → (group other : GroupView S I) → IsGroupIn s0 tree group → IsGroup s1 other → other.below ≡ group.below → other.caller ≡ group.caller → ((c : List Bool) → s1.test (path_of other) c ≡ true → s0.test (path_of group) c ≡ true) → IsGroupIn s1 tree other
unfolding IsGroupIn
IsGroupIn-same_callers {S = S} {I = I} {s0 = s0} {s1 = s1} tree e group other v w b n i =
    let known = IsGroup-path_known s0 group v.is_group in
    let there = AreCallers-later e (Keeps-refl tree) (path_of group) known (length group.below) group.caller v.callers in
    let inside = AreCallers-narrow s1 tree (path_of group) (path_of other) (λ c t. e.test (path_of group) c known ∙ i c t) (length group.below) group.caller there in
    record {
      is_group = w;
      callers = rw (b, n) inside;
      parts = rw (b, n) v.parts;
    }

pub frames_at-same_callers : {S I : Type 0} {s0 s1 : Sets I} (tree : List (Option (Caller S I))) → Extends s0 s1 → (group other : GroupView S I) → IsGroupIn s0 tree group → other.below ≡ group.below → other.caller ≡ group.caller → (c : List Bool) → frames_at s1 (callers_of tree (length other.below) other.caller) c ≡ frames_at s0 (callers_of tree (length group.below) group.caller) c
frames_at-same_callers {s0 = s0} {s1 = s1} tree e group other v b n c = rw (b, n) (frames_at-extends e tree (path_of group) (length group.below) group.caller (IsGroupIn-callers s0 tree group v) c)

-- a part of a group is a group in the same tree, and has there what the group had
pub IsGroupOf-part : {S I : Type 0} {s0 s1 : Sets I} (tree : List (Option (Caller S I))) → Extends s0 s1 → (set : List Bool → Bool) (group part : GroupView S I) → ((c : List Bool) → set c ≡ true → s0.test (path_of group) c ≡ true) → IsGroupIn s0 tree group → IsPartOf s0 s1 set group part → IsGroupOf s1 tree (group_at s0 tree group) part
unfolding IsGroupOf IsPartOf
IsGroupOf-part {s0 = s0} {s1 = s1} tree e set group part i v p = record {
  is_group = IsGroupIn-same_callers tree e group part v p.is_group p.below p.caller (λ c t. i c (sym (p.path.test c) ∙ t));
  at = λ c t.
      let frames = frames_at-same_callers tree e group part v p.below p.caller c in
      let top = p.at c t in
      λ j. record { frames = (top j).frame ∷ frames j; attempts = (top j).attempts };
}

-- what `push` makes
pub IsGroupIn-pushed : {S I : Type 0} {t0 t1 : List (Option (Caller S I))} (sets : Sets I) (group : GroupView S I) (frame : Frame S I) (number : ℕ) → IsGroupIn sets t0 group → IsFrame sets frame → scope_of frame ≡ path_of group → length group.top.stack.conds < 2 ^ 32 → Keeps t0 t1 → node_at t1 number ≡ Some (record { frame = group.top; caller = group.caller }) → IsGroupIn sets t1 (record { attempts = group.attempts; top = frame; below = part_of group.top ∷ group.below; caller = Some number })
unfolding IsGroupIn IsGroup
IsGroupIn-pushed {S = S} {I = I} {t0 = t0} {t1 = t1} sets group frame number v f e few k added =
    let node : Caller S I = record { frame = group.top; caller = group.caller } in
    let nodes = AreCallers-nodes sets t0 (path_of group) (length group.below) group.caller v.callers in
    record {
      is_group = record { attempts = v.is_group.attempts; top = f; one_scope = e };
      callers = (node, added, record { is_frame = v.is_group.top; holds = record { inside = λ c t. ap (λ i. sets.test i c) v.is_group.one_scope ∙ t }; few = few }, AreCallers-kept k sets (path_of group) (length group.below) group.caller v.callers);
      parts = ap (map part_of) (callers_of-node t1 (length group.below) (Some number) node added) ∙ ap (λ ps. part_of group.top ∷ ps) (ap (map part_of) (callers_of-kept k (length group.below) group.caller nodes) ∙ v.parts);
    }

pub stack_of-pushed : {S I : Type 0} {t0 t1 : List (Option (Caller S I))} (sets : Sets I) (group : GroupView S I) (frame : Frame S I) (number : ℕ) → IsGroupIn sets t0 group → Keeps t0 t1 → node_at t1 number ≡ Some (record { frame = group.top; caller = group.caller }) → stack_of t1 (record { attempts = group.attempts; top = frame; below = part_of group.top ∷ group.below; caller = Some number }) ≡ frame ∷ stack_of t0 group
stack_of-pushed {S = S} {I = I} {t0 = t0} {t1 = t1} sets group frame number v k added =
    let node : Caller S I = record { frame = group.top; caller = group.caller } in
    let nodes = AreCallers-nodes sets t0 (path_of group) (length group.below) group.caller (IsGroupIn-callers sets t0 group v) in
    ap (λ fs. frame ∷ fs) (callers_of-node t1 (length group.below) (Some number) node added ∙ ap (λ fs. group.top ∷ fs) (callers_of-kept k (length group.below) group.caller nodes))

-- the caller that a group with more than one frame has
pub caller_node : {S I : Type 0} (sets : Sets I) (tree : List (Option (Caller S I))) (group : GroupView S I) (number : ℕ) → IsGroupIn sets tree group → group.caller ≡ Some number → (node : Caller S I) × (node_at tree number ≡ Some node) × IsCallerFrame sets (path_of group) node.frame × (part : KeyPart) × (rest : List KeyPart) × (group.below ≡ part ∷ rest) × AreCallers sets tree (path_of group) (length rest) node.caller
caller_node {S = S} {I = I} sets tree group number v n = from group.below group.caller (IsGroupIn-callers sets tree group v) refl n
  where
    from : (below : List KeyPart) (caller : Option ℕ) → AreCallers sets tree (path_of group) (length below) caller → group.below ≡ below → caller ≡ Some number → (node : Caller S I) × (node_at tree number ≡ Some node) × IsCallerFrame sets (path_of group) node.frame × (part : KeyPart) × (rest : List KeyPart) × (group.below ≡ part ∷ rest) × AreCallers sets tree (path_of group) (length rest) node.caller
    from [] caller h e m = cc (h, m)
    from (part ∷ rest) None h e m = cc
    from (part ∷ rest) (Some k) h e m =
        let same : k ≡ number = cc in
        (h.0, (let P : ℕ → Type 0 = λ q. node_at tree q ≡ Some h.0 in subst P same h.1), h.2, part, rest, e, h.3)

-- a group without a caller has one frame
pub one_frame : {S I : Type 0} (sets : Sets I) (tree : List (Option (Caller S I))) (group : GroupView S I) → IsGroupIn sets tree group → group.caller ≡ None → group.below ≡ []
one_frame {S = S} {I = I} sets tree group v n = from group.below group.caller (IsGroupIn-callers sets tree group v) n
  where
    from : (below : List KeyPart) (caller : Option ℕ) → AreCallers sets tree (path_of group) (length below) caller → caller ≡ None → below ≡ []
    from [] caller h m = refl
    from (part ∷ rest) None h m = cc (h.1)
    from (part ∷ rest) (Some k) h m = cc

pub tail_of : {A : Type 0} (x y : A) (xs ys : List A) → x ∷ xs ≡ y ∷ ys → xs ≡ ys
tail_of x y xs ys e = cc

-- what `pop` makes
pub IsPopped-made : {S I : Type 0} {s0 s1 : Sets I} (tree : List (Option (Caller S I))) (group : GroupView S I) (number : ℕ) (node : Caller S I) (part : KeyPart) (rest : List KeyPart) (inner : Frame S I) → Extends s0 s1 → IsGroupIn s0 tree group → group.caller ≡ Some number → node_at tree number ≡ Some node → group.below ≡ part ∷ rest → IsFrameInside s0 s1 (path_of group) node.frame inner → IsPopped s0 s1 tree group group.top (record { attempts = group.attempts; top = inner; below = rest; caller = node.caller })
unfolding IsGroupIn
IsPopped-made {S = S} {I = I} {s0 = s0} {s1 = s1} tree group number node part rest inner e v n at b f =
    let alone = IsGroupIn-group s0 tree group v in
    let known = IsGroup-path_known s0 group alone in
    let all : AreCallers s0 tree (path_of group) (suc (length rest)) (Some number) = rw (b, n) at (IsGroupIn-callers s0 tree group v) in
    let same : all.0 ≡ node = cc (all.1, at) in
    let P : Caller S I → Type 0 = λ q. AreCallers s0 tree (path_of group) (length rest) q.caller in
    let callers = subst P same all.3 in
    let stack : callers_of tree (length group.below) group.caller ≡ node.frame ∷ callers_of tree (length rest) node.caller = rw (b, n) (callers_of-node tree (length rest) (Some number) node at) in
    let parts : map part_of (callers_of tree (length rest) node.caller) ≡ rest = tail_of (part_of node.frame) part (map part_of (callers_of tree (length rest) node.caller)) rest (sym (ap (map part_of) stack) ∙ IsGroupIn-parts s0 tree group v ∙ b) in
    let after : GroupView S I = record { attempts = group.attempts; top = inner; below = rest; caller = node.caller } in
    record {
      is_group = made after (IsGroup-of_parts s1 after (IsCond-extends nat_cmp e group.attempts (IsGroup-attempts s0 group alone)) (IsFrame-of s1 (frame_at s0 node.frame) inner f.is_frame) f.scope) (AreCallers-later e (Keeps-refl tree) (path_of group) known (length rest) node.caller callers) parts;
      top = refl;
      attempts = refl;
      shapes = ap (λ fs. shape_of group.top ∷ map shape_of fs) stack ∙ (λ i. shape_of group.top ∷ sym f.shape i ∷ map shape_of (callers_of tree (length rest) node.caller));
      at = λ c t.
          ap (λ fs. frame_at s0 group.top c ∷ frames_at s0 fs c) stack
          ∙ (λ i. frame_at s0 group.top c ∷ sym (frame_at-of s1 (frame_at s0 node.frame) inner c f.is_frame (ap (λ q. s1.test q c) f.scope ∙ e.test (path_of group) c known ∙ t)) i ∷ sym (frames_at-extends e tree (path_of group) (length rest) node.caller callers c) i);
    }
  where
    made : (g : GroupView S I) → IsGroup s1 g → AreCallers s1 tree (path_of g) (length g.below) g.caller → map part_of (callers_of tree (length g.below) g.caller) ≡ g.below → IsGroupIn s1 tree g
    made g a h p = record { is_group = a; callers = h; parts = p }

-- the scope of a restricted or joined Cond
restricted_scope : {S I : Type 0} (s0 s1 : Sets I) (cond made : Conditional ℕ S I) (within : I) → IsCond nat_cmp s0 cond → IsCondOf nat_cmp s1 (value_within s0 within (cond_at s0 cond)) made → IsSet s1 made.scope (λ c. s0.test cond.scope c && s0.test within c)
unfolding IsCond IsCondOf
restricted_scope s0 s1 cond made within v m = record {
  known = m.is_cond.scope_known;
  test = λ c. sym (m.is_cond.covers c) ∙ ap is_some (m.at c) ∙ cases (s0.test within c) (cond_at s0 cond c) (s0.test cond.scope c) (v.covers c);
}
  where
    cases : (b : Bool) (o : Option ℕ) (d : Bool) → is_some o ≡ d → is_some (if b then o else None) ≡ (d && b)
    cases true o true h = h
    cases true o false h = h
    cases false o true h = refl
    cases false o false h = refl

pub joined_scope : {S I : Type 0} (s0 s1 : Sets I) (a b made : Conditional ℕ S I) → IsCond nat_cmp s0 a → IsCond nat_cmp s0 b → IsCondOf nat_cmp s1 (first_of (cond_at s0 a) (cond_at s0 b)) made → IsSet s1 made.scope (λ c. s0.test a.scope c || s0.test b.scope c)
unfolding IsCond IsCondOf
joined_scope s0 s1 a b made v w m = record {
  known = m.is_cond.scope_known;
  test = λ c. sym (m.is_cond.covers c) ∙ ap is_some (m.at c) ∙ some_or (cond_at s0 a c) (cond_at s0 b c) ∙ rw (v.covers c, w.covers c) refl;
}
  where
    some_or : (p q : Option ℕ) → is_some (option_or p q) ≡ (is_some p || is_some q)
    some_or None q = refl
    some_or (Some x) q = refl

both_second : (a b : Bool) → (a && b) ≡ true → b ≡ true
both_second true b h = h
both_second false b h = cc

-- the scopes of a part's attempts and frame on top
pub part_scope : {S I : Type 0} {s0 s1 s2 : Sets I} → IsLawful s2 → (group : GroupView S I) (within : I) (attempts : Conditional ℕ S I) (top : Frame S I) → IsGroup s0 group → s0.is_known within ≡ true → Extends s0 s1 → Extends s1 s2 → IsCondOf nat_cmp s1 (value_within s0 within (cond_at s0 group.attempts)) attempts → IsSet s2 (scope_of top) (λ c. s1.test (scope_of group.top) c && s1.test within c) → scope_of top ≡ attempts.scope
part_scope {s0 = s0} {s1 = s1} {s2 = s2} lawful group within attempts top v k e f a s =
    let known = IsFrame-scope_known s0 group.top (IsGroup-top s0 group v) in
    let paths : IsSet s2 (scope_of top) (λ c. s0.test (path_of group) c && s0.test within c) = record { known = s.known; test = λ c. s.test c ∙ rw (e.test (scope_of group.top) c known, e.test within c k) (ap (λ i. s0.test i c && s0.test within c) (IsGroup-one_scope s0 group v)) } in
    same_set lawful (scope_of top) attempts.scope _ paths (IsSet-extends f attempts.scope _ (restricted_scope s0 s1 group.attempts attempts within (IsGroup-attempts s0 group v) a))

-- what restricting attempts and frame on top makes
pub IsPartOf-made : {S I : Type 0} {s0 s1 s2 : Sets I} → IsLawful s2 → (group : GroupView S I) (within : I) (attempts : Conditional ℕ S I) (top : Frame S I) → IsGroup s0 group → s0.is_known within ≡ true → Extends s0 s1 → Extends s1 s2 → IsCondOf nat_cmp s1 (value_within s0 within (cond_at s0 group.attempts)) attempts → IsSet s2 (scope_of top) (λ c. s1.test (scope_of group.top) c && s1.test within c) → shape_of top ≡ shape_of group.top → IsFrameOf s2 (frame_at s1 group.top) top → IsPartOf s0 s2 (λ c. s0.test (path_of group) c && s0.test within c) group (record { attempts = attempts; top = top; below = group.below; caller = group.caller })
unfolding IsPartOf IsGroup
IsPartOf-made {s0 = s0} {s1 = s1} {s2 = s2} lawful group within attempts top v k e f a s shape t =
    let one = part_scope lawful group within attempts top v k e f a s in
    let paths = IsSet-extends f attempts.scope _ (restricted_scope s0 s1 group.attempts attempts within v.attempts a) in
    let now = IsCondOf-extends nat_cmp f _ attempts a in
    record {
      is_group = record { attempts = IsCond-of nat_cmp s2 _ attempts now; top = IsFrame-of s2 (frame_at s1 group.top) top t; one_scope = one };
      path = paths;
      below = refl;
      caller = refl;
      shape = shape;
      at = λ c h.
          let inside = both_second (s0.test (path_of group) c) (s0.test within c) (sym (paths.test c) ∙ h) in
          let frame = frame_at-of s2 (frame_at s1 group.top) top c t (ap (λ i. s2.test i c) one ∙ h) ∙ frame_at-extends e group.top v.top c in
          let value = cond_at-of nat_cmp s2 _ attempts c now ∙ within_true (s0.test within c) (cond_at s0 group.attempts c) inside in
          λ i. record { frame = frame i; attempts = unwrap_or (value i) 0 };
    }
  where
    within_true : (b : Bool) (o : Option ℕ) → b ≡ true → (if b then o else None) ≡ o
    within_true b o h = rw h refl

-- a part inside the second of two sets that part the first
pub IsPartOf-set : {S I : Type 0} (old new : Sets I) (set other : List Bool → Bool) (group part : GroupView S I) → ((c : List Bool) → set c ≡ other c) → IsPartOf old new set group part → IsPartOf old new other group part
unfolding IsPartOf
IsPartOf-set old new set other group part e p = record { is_group = p.is_group; path = record { known = p.path.known; test = λ c. p.path.test c ∙ e c }; below = p.below; caller = p.caller; shape = p.shape; at = p.at }

-- a part over an earlier and a later space
pub IsPartOf-extends : {S I : Type 0} (s0 : Sets I) {s1 s2 : Sets I} → Extends s1 s2 → (set : List Bool → Bool) (group part : GroupView S I) → IsPartOf s0 s1 set group part → IsPartOf s0 s2 set group part
unfolding IsPartOf
IsPartOf-extends s0 {s1 = s1} e set group part p = record {
  is_group = IsGroup-extends e part p.is_group;
  path = IsSet-extends e (path_of part) set p.path;
  below = p.below;
  caller = p.caller;
  shape = p.shape;
  at = λ c t. top_at-extends e part p.is_group c ∙ p.at c (sym (e.test (path_of part) c p.path.known) ∙ t);
}

pub IsPartOf-before : {S I : Type 0} {s0 s1 : Sets I} (s2 : Sets I) → Extends s0 s1 → (set : List Bool → Bool) (group part : GroupView S I) → IsGroup s0 group → IsPartOf s1 s2 set group part → IsPartOf s0 s2 set group part
unfolding IsPartOf
IsPartOf-before s2 e set group part v p = record { is_group = p.is_group; path = p.path; below = p.below; caller = p.caller; shape = p.shape; at = λ c t. p.at c t ∙ top_at-extends e group v c }

-- what `spend` makes
pub IsGroup-spent : {S I : Type 0} {s0 s1 : Sets I} (R : ℕ → ℕ → Type 0) (group : GroupView S I) (attempts : Conditional ℕ S I) → Extends s0 s1 → IsGroup s0 group → IsCondLifting nat_cmp s1 R (cond_at s0 group.attempts) attempts → attempts.scope ≡ path_of group → IsGroup s1 (record group { attempts = attempts })
unfolding IsGroup IsCondLifting
IsGroup-spent R group attempts e v l s = record { attempts = l.is_cond; top = IsFrame-extends e group.top v.top; one_scope = v.one_scope ∙ sym s }

pub attempts_at-spent : {S I : Type 0} (s0 s1 : Sets I) (R : ℕ → ℕ → Type 0) (group : GroupView S I) (attempts : Conditional ℕ S I) → ((n m : ℕ) → R n m → suc n < 2 ^ 64 → m ≡ n + 1) → IsGroup s0 group → IsCondLifting nat_cmp s1 R (cond_at s0 group.attempts) attempts → (c : List Bool) → s0.test (path_of group) c ≡ true → suc (attempts_at s0 group c) < 2 ^ 64 → attempts_at s1 (record group { attempts = attempts }) c ≡ attempts_at s0 group c + 1
unfolding IsCondLifting
attempts_at-spent {S = S} {I = I} s0 s1 R group attempts f v l c t b = lifted (cond_at s0 group.attempts c) (cond_at s1 attempts c) (cond_at-covers nat_cmp s0 group.attempts (IsGroup-attempts s0 group v) c ∙ t) (l.at c) b
  where
    lifted : (o p : Option ℕ) → is_some o ≡ true → IsLifted R o p → suc (unwrap_or o 0) < 2 ^ 64 → unwrap_or p 0 ≡ unwrap_or o 0 + 1
    lifted None p s r b = cc
    lifted (Some n) None s r b = absurd r
    lifted (Some n) (Some m) s r b = f n m r b

-- the parts that `split` makes, told of the space before it
pub split_inside : {S I : Type 0} {s0 s1 s2 s3 : Sets I} → Extends s0 s1 → Extends s2 s3 → (group part : GroupView S I) (within : I) → IsGroup s0 group → s0.is_known within ≡ true → IsPartOf s1 s2 (λ c. s1.test (path_of group) c && s1.test within c) group part → IsPartOf s0 s3 (λ c. s0.test (path_of group) c && s0.test within c) group part
unfolding IsPartOf
split_inside {s0 = s0} e g group part within v k p =
    let known = IsGroup-path_known s0 group v in
    record {
      is_group = IsGroup-extends g part p.is_group;
      path = record { known = g.known (path_of part) p.path.known; test = λ c. g.test (path_of part) c p.path.known ∙ p.path.test c ∙ (λ i. e.test (path_of group) c known i && e.test within c k i) };
      below = p.below;
      caller = p.caller;
      shape = p.shape;
      at = λ c t. top_at-extends g part p.is_group c ∙ p.at c (sym (g.test (path_of part) c p.path.known) ∙ t) ∙ top_at-extends e group v c;
    }

-- where nothing is outside, the group is its own part
pub split_whole : {S I : Type 0} {s0 s1 s2 : Sets I} → Extends s0 s1 → Extends s1 s2 → (group : GroupView S I) (within rest : I) → IsGroup s0 group → IsSet s1 rest (λ c. s0.test (path_of group) c && not (s0.test within c)) → ((c : List Bool) → s1.test rest c ≡ false) → IsPartOf s0 s2 (λ c. s0.test (path_of group) c && s0.test within c) group group
unfolding IsPartOf
split_whole {s0 = s0} e f group within rest v u never =
    let known = IsGroup-path_known s0 group v in
    let to2 = Extends-trans e f in
    record {
      is_group = IsGroup-extends to2 group v;
      path = record { known = to2.known (path_of group) known; test = λ c. to2.test (path_of group) c known ∙ covered (s0.test (path_of group) c) (s0.test within c) (sym (u.test c) ∙ never c) };
      below = refl;
      caller = refl;
      shape = refl;
      at = λ c t. top_at-extends to2 group v c;
    }
  where
    covered : (a b : Bool) → (a && not b) ≡ false → a ≡ (a && b)
    covered true true h = refl
    covered true false h = cc
    covered false b h = refl

pub split_outside : {S I : Type 0} {s0 s1 s2 s3 : Sets I} → Extends s0 s1 → Extends s1 s2 → Extends s2 s3 → (group part : GroupView S I) (within rest : I) → IsGroup s0 group → IsSet s1 rest (λ c. s0.test (path_of group) c && not (s0.test within c)) → IsPartOf s2 s3 (λ c. s2.test (path_of group) c && s2.test rest c) group part → IsPartOf s0 s3 (λ c. s0.test (path_of group) c && not (s0.test within c)) group part
unfolding IsPartOf
split_outside {s0 = s0} e f g group part within rest v u p =
    let known = IsGroup-path_known s0 group v in
    let to2 = Extends-trans e f in
    record {
      is_group = p.is_group;
      path = record { known = p.path.known; test = λ c. p.path.test c ∙ (λ i. to2.test (path_of group) c known i && (f.test rest c u.known ∙ u.test c) i) ∙ absorb (s0.test (path_of group) c) (not (s0.test within c)) };
      below = p.below;
      caller = p.caller;
      shape = p.shape;
      at = λ c t. p.at c t ∙ top_at-extends to2 group v c;
    }
  where
    absorb : (a b : Bool) → (a && (a && b)) ≡ (a && b)
    absorb true b = refl
    absorb false b = refl

pub group_callers-later : {S I : Type 0} {s0 s1 : Sets I} → Extends s0 s1 → (tree : List (Option (Caller S I))) (group : GroupView S I) → IsGroupIn s0 tree group → AreCallers s1 tree (path_of group) (length group.below) group.caller
group_callers-later {s0 = s0} e tree group v = AreCallers-later e (Keeps-refl tree) (path_of group) (IsGroup-path_known s0 group (IsGroupIn-group s0 tree group v)) (length group.below) group.caller (IsGroupIn-callers s0 tree group v)

-- the caller's frame, and the parts below it
pub caller_frame : {S I : Type 0} (sets : Sets I) (tree : List (Option (Caller S I))) (group : GroupView S I) (number : ℕ) (node : Caller S I) → IsGroupIn sets tree group → group.caller ≡ Some number → node_at tree number ≡ Some node → IsCallerFrame sets (path_of group) node.frame × ((part : KeyPart) × (rest : List KeyPart) × (group.below ≡ part ∷ rest))
caller_frame {S = S} {I = I} sets tree group number node v n e =
    let found = caller_node sets tree group number v n in
    let same : found.0 ≡ node = cc (found.1, e) in
    let P : Caller S I → Type 0 = λ q. IsCallerFrame sets (path_of group) q.frame in
    (subst P same found.2, (found.3, found.4, found.5))

-- what is left where the nearest part is taken off
pub popped_rest : (result : Option KeyPart) (old new : List KeyPart) (part : KeyPart) (rest : List KeyPart) → old ≡ part ∷ rest → IfSome result (λ p. old ≡ p ∷ new) → IfNone result (old ≡ []) → new ≡ rest
popped_rest None old new part rest e s n = cc
popped_rest (Some p) old new part rest e s n = cc

pub popped_few : (old new : List KeyPart) (part : KeyPart) (bound : ℕ) → old ≡ part ∷ new → suc (length old) < bound → suc (length new) < bound
popped_few old new part bound e l =
    let longer : length old ≡ suc (length new) = ap length e in
    omega arith

pub inner_few : {S I : Type 0} (sets new : Sets I) (path : I) (frame inner : Frame S I) → IsCallerFrame sets path frame → IsFrameInside sets new path frame inner → length inner.stack.conds < 2 ^ 32
inner_few sets new path frame inner h f = let P : ℕ → Type 0 = λ q. q < 2 ^ 32 in subst P (sym (ap (λ (q : Shape). q.part.depth) f.shape)) h.few
