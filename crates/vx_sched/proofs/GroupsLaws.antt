-- Laws of groups side by side.
use Rattle.std.proofs.Common.{◌≡◌, ℕ, ◌<◌, Bool, true, false, List, [], ◌∷◌, ◌++◌, refl, sym, ◌∙◌, ap, subst, zero, suc, length, map, arith}
use Rattle.std.specs.Prelude.{◌≢◌, Option, Some, ◌||◌, ◌&&◌, if◌then◌else◌, reverse}
use Rattle.std.specs.List.{remove}
use Rattle.std.proofs.Math.ListN.{get_or}
use Rattle.vx_value.specs.declared.key.KeyPart.{KeyPart}
use Rattle.vx_space.specs.Sets.{Sets, IsLawful, IsSet, Extends}
use Rattle.vx_cond.specs.Cond.{AreDisjoint}
use Rattle.vx_frame.specs.declared.frame.Frame.{Frame}
use Rattle.vx_frame.specs.Frame.{Shape, shape_of, part_of, side_at}
use Rattle.vx_group.specs.declared.callers.Caller.{Caller}
use Rattle.vx_group.specs.Callers.{Keeps, callers_of}
use Rattle.vx_group.specs.Group.{GroupView, path_of, key_of, shapes_of, group_at, IsGroupIn, IsGroupOf}
use Rattle.vx_group.proofs.GroupLaws.{IsGroup-path_known, IsGroupIn-group, IsGroupIn-callers, IsGroupIn-parts, IsGroupIn-later, IsGroupIn-of, group_at-later, group_at-of}
use Rattle.vx_group.proofs.CallerLaws.{AreCallers-nodes, callers_of-kept}
use Rattle.vx_sched.specs.Groups.{standing_at, AreApart, IsFresh, HasKeyAt, StandsBeside, AreGroups, FitsAmong, are_shaped, IsPlaced}

pub path_known : {S I : Type 0} (sets : Sets I) (tree : List (Option (Caller S I))) (group : GroupView S I) → IsGroupIn sets tree group → sets.is_known (path_of group) ≡ true
path_known sets tree group v = IsGroup-path_known sets group (IsGroupIn-group sets tree group v)

-- ---- sets apart

other_off : (x y : Bool) → (x ≡ true → y ≡ false) → y ≡ true → x ≡ false
other_off false y h t = refl
other_off true y h t = cc (h refl, t)

pub AreDisjoint-sym : {I : Type 0} (sets : Sets I) (a b : I) → AreDisjoint sets a b → AreDisjoint sets b a
AreDisjoint-sym sets a b d = record { apart = λ c t. other_off (sets.test a c) (sets.test b c) (d.apart c) t }

pub AreDisjoint-later : {I : Type 0} {s0 s1 : Sets I} → Extends s0 s1 → (a b : I) → s0.is_known a ≡ true → s0.is_known b ≡ true → AreDisjoint s0 a b → AreDisjoint s1 a b
AreDisjoint-later e a b k l d = record { apart = λ c t. e.test b c l ∙ d.apart c (sym (e.test a c k) ∙ t) }

-- ---- a later space and a later tree

pub AreApart-later : {S I : Type 0} {s0 s1 : Sets I} (tree : List (Option (Caller S I))) → Extends s0 s1 → (set : I) → s0.is_known set ≡ true → (groups : List (GroupView S I)) → AreGroups s0 tree groups → AreApart s0 set groups → AreApart s1 set groups
AreApart-later tree e set k [] a h = tt
AreApart-later {s0 = s0} tree e set k (group ∷ groups) a h = (AreDisjoint-later e set (path_of group) k (path_known s0 tree group a.0.is_group) h.0, AreApart-later tree e set k groups a.1 h.1)

pub StandsBeside-later : {S I : Type 0} {s0 s1 : Sets I} {t0 t1 : List (Option (Caller S I))} → Extends s0 s1 → Keeps t0 t1 → (group : GroupView S I) (groups : List (GroupView S I)) → AreGroups s0 t0 groups → StandsBeside s0 t0 group groups → StandsBeside s1 t1 group groups
StandsBeside-later {s0 = s0} {t0 = t0} e k group groups a b = record {
  is_group = IsGroupIn-later e k group b.is_group;
  nonempty = λ q. b.nonempty (q ∙ e.never);
  apart = AreApart-later t0 e (path_of group) (path_known s0 t0 group b.is_group) groups a b.apart;
  fresh = b.fresh;
}

pub AreGroups-later : {S I : Type 0} {s0 s1 : Sets I} {t0 t1 : List (Option (Caller S I))} → Extends s0 s1 → Keeps t0 t1 → (groups : List (GroupView S I)) → AreGroups s0 t0 groups → AreGroups s1 t1 groups
AreGroups-later e k [] a = tt
AreGroups-later e k (group ∷ groups) a = (StandsBeside-later e k group groups a.1 a.0, AreGroups-later e k groups a.1)

pub standing_at-later : {S I : Type 0} {s0 s1 : Sets I} {t0 t1 : List (Option (Caller S I))} → Extends s0 s1 → Keeps t0 t1 → (groups : List (GroupView S I)) → AreGroups s0 t0 groups → (c : List Bool) → standing_at s1 t1 groups c ≡ standing_at s0 t0 groups c
standing_at-later e k [] a c = refl
standing_at-later {s0 = s0} {t0 = t0} e k (group ∷ groups) a c = rw (e.test (path_of group) c (path_known s0 t0 group a.0.is_group), group_at-later e k group a.0.is_group c, standing_at-later e k groups a.1 c) refl

-- ---- taking a group out

pub apart_taken : {S I : Type 0} (sets : Sets I) (set : I) (groups : List (GroupView S I)) (place : ℕ) (taken : GroupView S I) → place < length groups → taken ≡ get_or groups place taken → AreApart sets set groups → AreDisjoint sets set (path_of taken) × AreApart sets set (remove groups place)
apart_taken sets set [] place taken l e h = absurd (omega (arith, l))
apart_taken sets set (group ∷ groups) zero taken l e h = (subst (λ g. AreDisjoint sets set (path_of g)) (sym e) h.0, h.1)
apart_taken sets set (group ∷ groups) (suc place) taken l e h =
    let rest = apart_taken sets set groups place taken (omega (arith, l)) e h.1 in
    (rest.0, (h.0, rest.1))

pub fresh_taken : {S I : Type 0} (key : List KeyPart) (groups : List (GroupView S I)) (place : ℕ) (taken : GroupView S I) → place < length groups → taken ≡ get_or groups place taken → IsFresh key groups → (key_of taken ≢ key) × IsFresh key (remove groups place)
fresh_taken key [] place taken l e h = absurd (omega (arith, l))
fresh_taken key (group ∷ groups) zero taken l e h = (subst (λ g. key_of g ≢ key) (sym e) h.0, h.1)
fresh_taken key (group ∷ groups) (suc place) taken l e h =
    let rest = fresh_taken key groups place taken (omega (arith, l)) e h.1 in
    (rest.0, (h.0, rest.1))

pub fits_taken : {S I : Type 0} (tree : List (Option (Caller S I))) (group : GroupView S I) (groups : List (GroupView S I)) (place : ℕ) (taken : GroupView S I) → place < length groups → taken ≡ get_or groups place taken → FitsAmong tree group groups → key_of taken ≡ key_of group → shapes_of tree taken ≡ shapes_of tree group
fits_taken tree group [] place taken l e h k = absurd (omega (arith, l))
fits_taken tree group (other ∷ groups) zero taken l e h k = (subst (λ g. key_of g ≡ key_of group → shapes_of tree g ≡ shapes_of tree group) (sym e) h.0) k
fits_taken tree group (other ∷ groups) (suc place) taken l e h k = fits_taken tree group groups place taken (omega (arith, l)) e h.1 k

pub has_key_taken : {S I : Type 0} (key : List KeyPart) (groups : List (GroupView S I)) (place : ℕ) (taken : GroupView S I) → taken ≡ get_or groups place taken → HasKeyAt groups place key → key_of taken ≡ key
has_key_taken key [] place taken e h = absurd h
has_key_taken key (group ∷ groups) zero taken e h = ap key_of e ∙ h
has_key_taken key (group ∷ groups) (suc place) taken e h = has_key_taken key groups place taken e h

pub has_key_below : {S I : Type 0} (key : List KeyPart) (groups : List (GroupView S I)) (place : ℕ) → HasKeyAt groups place key → place < length groups
has_key_below key [] place h = absurd h
has_key_below key (group ∷ groups) zero h = omega arith
has_key_below key (group ∷ groups) (suc place) h = let l = has_key_below key groups place h in omega (arith, l)

-- the other groups, and what stands in the one that was taken out
pub record IsTaken {S I : Type 0} (sets : Sets I) (tree : List (Option (Caller S I))) (groups : List (GroupView S I)) (taken : GroupView S I) (rest : List (GroupView S I)) : Type 0 where
  pub beside : StandsBeside sets tree taken rest
  pub others : AreGroups sets tree rest
  pub inside : (c : List Bool) → sets.test (path_of taken) c ≡ true → standing_at sets tree groups c ≡ Some (group_at sets tree taken c)
  pub outside : (c : List Bool) → sets.test (path_of taken) c ≡ false → standing_at sets tree groups c ≡ standing_at sets tree rest c

pub is_taken : {S I : Type 0} (sets : Sets I) (tree : List (Option (Caller S I))) (groups : List (GroupView S I)) (place : ℕ) (taken : GroupView S I) → place < length groups → taken ≡ get_or groups place taken → AreGroups sets tree groups → IsTaken sets tree groups taken (remove groups place)
is_taken sets tree [] place taken l e a = absurd (omega (arith, l))
is_taken {S = S} {I = I} sets tree (group ∷ groups) zero taken l e a =
    let P : GroupView S I → Type 0 = λ g. IsTaken sets tree (group ∷ groups) g groups in
    subst P (sym e) (record {
      beside = a.0;
      others = a.1;
      inside = λ c t. rw t refl;
      outside = λ c t. rw t refl;
    })
is_taken sets tree (group ∷ groups) (suc place) taken l e a =
    let rest = is_taken sets tree groups place taken (omega (arith, l)) e a.1 in
    let apart = apart_taken sets (path_of group) groups place taken (omega (arith, l)) e a.0.apart in
    let fresh = fresh_taken (key_of group) groups place taken (omega (arith, l)) e a.0.fresh in
    let other = AreDisjoint-sym sets (path_of group) (path_of taken) apart.0 in
    record {
      beside = record {
        is_group = rest.beside.is_group;
        nonempty = rest.beside.nonempty;
        apart = (other, rest.beside.apart);
        fresh = ((λ q. fresh.0 (sym q)), rest.beside.fresh);
      };
      others = (record { is_group = a.0.is_group; nonempty = a.0.nonempty; apart = apart.1; fresh = fresh.1 }, rest.others);
      inside = λ c t. rw (other.apart c t) (rest.inside c t);
      outside = λ c t. ap (λ r. if sets.test (path_of group) c then Some (group_at sets tree group c) else r) (rest.outside c t);
    }

-- ---- appending a group

pub apart_pushed : {S I : Type 0} (sets : Sets I) (set : I) (groups : List (GroupView S I)) (group : GroupView S I) → AreApart sets set groups → AreDisjoint sets set (path_of group) → AreApart sets set (groups ++ group ∷ [])
apart_pushed sets set [] group h d = (d, tt)
apart_pushed sets set (other ∷ others) group h d = (h.0, apart_pushed sets set others group h.1 d)

pub fresh_pushed : {S I : Type 0} (key : List KeyPart) (groups : List (GroupView S I)) (group : GroupView S I) → IsFresh key groups → key_of group ≢ key → IsFresh key (groups ++ group ∷ [])
fresh_pushed key [] group h n = (n, tt)
fresh_pushed key (other ∷ others) group h n = (h.0, fresh_pushed key others group h.1 n)

pub AreGroups-pushed : {S I : Type 0} (sets : Sets I) (tree : List (Option (Caller S I))) (groups : List (GroupView S I)) (group : GroupView S I) → AreGroups sets tree groups → StandsBeside sets tree group groups → AreGroups sets tree (groups ++ group ∷ [])
AreGroups-pushed sets tree [] group a b = (b, tt)
AreGroups-pushed sets tree (other ∷ others) group a b = (
  record {
    is_group = a.0.is_group;
    nonempty = a.0.nonempty;
    apart = apart_pushed sets (path_of other) others group a.0.apart (AreDisjoint-sym sets (path_of group) (path_of other) b.apart.0);
    fresh = fresh_pushed (key_of other) others group a.0.fresh (λ q. b.fresh.0 (sym q));
  },
  AreGroups-pushed sets tree others group a.1 (record { is_group = b.is_group; nonempty = b.nonempty; apart = b.apart.1; fresh = b.fresh.1 }),
)

pub standing_at-pushed : {S I : Type 0} (sets : Sets I) (tree : List (Option (Caller S I))) (groups : List (GroupView S I)) (group : GroupView S I) → AreApart sets (path_of group) groups → (c : List Bool) → standing_at sets tree (groups ++ group ∷ []) c ≡ (if sets.test (path_of group) c then Some (group_at sets tree group c) else standing_at sets tree groups c)
standing_at-pushed sets tree [] group h c = refl
standing_at-pushed {S = S} {I = I} sets tree (other ∷ others) group h c = by_case (sets.test (path_of group) c) refl (standing_at-pushed sets tree others group h.1 c)
  where
    by_case : (t : Bool) → sets.test (path_of group) c ≡ t → standing_at sets tree (others ++ group ∷ []) c ≡ (if sets.test (path_of group) c then Some (group_at sets tree group c) else standing_at sets tree others c) → standing_at sets tree (other ∷ others ++ group ∷ []) c ≡ (if sets.test (path_of group) c then Some (group_at sets tree group c) else standing_at sets tree (other ∷ others) c)
    by_case true t r = rw (h.0.apart c t, r, t) refl
    by_case false t r = rw (r, t) refl

-- ---- shapes

both : (x y z : Bool) → (x && y) ≡ true → (y ≡ true → z ≡ true) → (x && z) ≡ true
both true y z h f = f h
both false y z h f = cc h

pub shaped_taken : {S I : Type 0} (test : List Shape → Bool) (tree : List (Option (Caller S I))) (groups : List (GroupView S I)) (place : ℕ) → are_shaped test tree groups ≡ true → are_shaped test tree (remove groups place) ≡ true
shaped_taken test tree [] zero h = refl
shaped_taken test tree [] (suc place) h = refl
shaped_taken test tree (group ∷ groups) zero h = and_right (test (shapes_of tree group)) (are_shaped test tree groups) h
  where
    and_right : (x y : Bool) → (x && y) ≡ true → y ≡ true
    and_right true y h = h
    and_right false y h = cc h
shaped_taken test tree (group ∷ groups) (suc place) h = both (test (shapes_of tree group)) _ _ h (shaped_taken test tree groups place)

-- ---- what a group's placing makes

pub placed_never : {S I : Type 0} (sets : Sets I) (tree : List (Option (Caller S I))) (groups : List (GroupView S I)) (group : GroupView S I) → IsLawful sets → path_of group ≡ sets.never → AreGroups sets tree groups → IsPlaced sets sets tree tree groups group groups
placed_never {S = S} {I = I} sets tree groups group lawful e a = record {
  are_groups = a;
  standing = λ c. rw (ap (λ i. sets.test i c) e ∙ lawful.never_test c) refl;
  shapes = λ test t h. h;
}

shaped_pushed : {S I : Type 0} (test : List Shape → Bool) (tree : List (Option (Caller S I))) (groups : List (GroupView S I)) (group : GroupView S I) → are_shaped test tree groups ≡ true → test (shapes_of tree group) ≡ true → are_shaped test tree (groups ++ group ∷ []) ≡ true
shaped_pushed test tree [] group h t = rw t refl
shaped_pushed test tree (other ∷ others) group h t = both (test (shapes_of tree other)) _ _ h (λ q. shaped_pushed test tree others group q t)

pub placed_pushed : {S I : Type 0} (sets : Sets I) (tree : List (Option (Caller S I))) (groups : List (GroupView S I)) (group : GroupView S I) → AreGroups sets tree groups → IsGroupIn sets tree group → AreApart sets (path_of group) groups → path_of group ≢ sets.never → IsFresh (key_of group) groups → IsPlaced sets sets tree tree groups group (groups ++ group ∷ [])
placed_pushed sets tree groups group a v p n f = record {
  are_groups = AreGroups-pushed sets tree groups group a (record { is_group = v; nonempty = n; apart = p; fresh = f });
  standing = standing_at-pushed sets tree groups group p;
  shapes = λ test t h. shaped_pushed test tree groups group h t;
}

-- a key is told by the shapes of the frames
pub key_of-shapes : {S I : Type 0} (sets : Sets I) (tree : List (Option (Caller S I))) (group : GroupView S I) → IsGroupIn sets tree group → key_of group ≡ reverse (map (λ s. s.part) (shapes_of tree group))
key_of-shapes {S = S} {I = I} sets tree group v = ap (λ ps. reverse (part_of group.top ∷ ps)) (sym (IsGroupIn-parts sets tree group v) ∙ parts (callers_of tree (length group.below) group.caller))
  where
    parts : (frames : List (Frame S I)) → map part_of frames ≡ map (λ s. s.part) (map shape_of frames)
    parts [] = refl
    parts (frame ∷ frames) = ap (λ ps. part_of frame ∷ ps) (parts frames)

-- sets apart from both of two sets are apart from their union
apart_union : {S I : Type 0} {s0 s1 : Sets I} (tree : List (Option (Caller S I))) → Extends s0 s1 → (a b joined : I) → IsSet s1 joined (λ c. s0.test a c || s0.test b c) → (groups : List (GroupView S I)) → AreGroups s0 tree groups → AreApart s0 a groups → AreApart s0 b groups → AreApart s1 joined groups
apart_union tree e a b joined j [] g h k = tt
apart_union {s0 = s0} tree e a b joined j (group ∷ groups) g h k = (
  record { apart = λ c t. e.test (path_of group) c (path_known s0 tree group g.0.is_group) ∙ either (s0.test a c) refl (sym (j.test c) ∙ t) },
  apart_union tree e a b joined j groups g.1 h.1 k.1,
)
  where
    either : {c : List Bool} (x : Bool) → s0.test a c ≡ x → (x || s0.test b c) ≡ true → s0.test (path_of group) c ≡ false
    either {c = c} true q t = h.0.apart c q
    either {c = c} false q t = k.0.apart c t

union_inside : {I : Type 0} {s0 s1 : Sets I} (a b joined : I) → IsLawful s1 → Extends s0 s1 → IsLawful s0 → s0.is_known a ≡ true → IsSet s1 joined (λ c. s0.test a c || s0.test b c) → a ≢ s0.never → joined ≢ s1.never
union_inside {s0 = s0} {s1 = s1} a b joined l1 e l0 k j n q = n (l0.equal_sets a s0.never k l0.never_known (λ c. off (s0.test a c) (s0.test b c) (sym (j.test c) ∙ ap (λ i. s1.test i c) q ∙ l1.never_test c) ∙ sym (l0.never_test c)))
  where
    off : (x y : Bool) → (x || y) ≡ false → x ≡ false
    off true y h = h
    off false y h = refl

-- what stands at a configuration after a join
standing_joined : {S I : Type 0} {s0 s1 : Sets I} {t0 t1 : List (Option (Caller S I))} (groups : List (GroupView S I)) (group other joined : GroupView S I) (rest : List (GroupView S I)) → Extends s0 s1 → Keeps t0 t1 → IsTaken s0 t0 groups other rest → IsSet s1 (path_of joined) (λ c. s0.test (path_of other) c || s0.test (path_of group) c) → IsGroupOf s1 t1 (side_at s0 (path_of other) (group_at s0 t0 other) (group_at s0 t0 group)) joined → AreDisjoint s0 (path_of other) (path_of group) → (c : List Bool) (x y : Bool) → s0.test (path_of other) c ≡ x → s0.test (path_of group) c ≡ y → (if s1.test (path_of joined) c then Some (group_at s1 t1 joined c) else standing_at s1 t1 rest c) ≡ (if s0.test (path_of group) c then Some (group_at s0 t0 group c) else standing_at s0 t0 groups c)
standing_joined {s0 = s0} {s1 = s1} {t0 = t0} {t1 = t1} groups group other joined rest e k out u j d c true y q r =
    let there : s1.test (path_of joined) c ≡ true = u.test c ∙ ap (λ b. b || s0.test (path_of group) c) q in
    let value = group_at-of s1 t1 (side_at s0 (path_of other) (group_at s0 t0 other) (group_at s0 t0 group)) joined c j there in
    let side : group_at s1 t1 joined c ≡ group_at s0 t0 other c = value ∙ ap (λ b. if b then group_at s0 t0 other c else group_at s0 t0 group c) q in
    rw (there, d.apart c q, side) (sym (out.inside c q))
standing_joined {s0 = s0} {s1 = s1} {t0 = t0} {t1 = t1} groups group other joined rest e k out u j d c false true q r =
    let there : s1.test (path_of joined) c ≡ true = u.test c ∙ ap (λ b. b || s0.test (path_of group) c) q ∙ r in
    let value = group_at-of s1 t1 (side_at s0 (path_of other) (group_at s0 t0 other) (group_at s0 t0 group)) joined c j there in
    let side : group_at s1 t1 joined c ≡ group_at s0 t0 group c = value ∙ ap (λ b. if b then group_at s0 t0 other c else group_at s0 t0 group c) q in
    rw (there, r, side) refl
standing_joined {s0 = s0} {s1 = s1} {t0 = t0} {t1 = t1} groups group other joined rest e k out u j d c false false q r =
    let there : s1.test (path_of joined) c ≡ false = u.test c ∙ ap (λ b. b || s0.test (path_of group) c) q ∙ r in
    rw (there, r) (standing_at-later e k rest out.others c ∙ sym (out.outside c q))

shapes_of-later : {S I : Type 0} {s0 s1 : Sets I} {t0 t1 : List (Option (Caller S I))} → Extends s0 s1 → Keeps t0 t1 → (group : GroupView S I) → IsGroupIn s0 t0 group → shapes_of t1 group ≡ shapes_of t0 group
shapes_of-later {s0 = s0} {t0 = t0} e k group v = ap (λ frames. shape_of group.top ∷ map shape_of frames) (callers_of-kept k (length group.below) group.caller (AreCallers-nodes s0 t0 (path_of group) (length group.below) group.caller (IsGroupIn-callers s0 t0 group v)))

shaped_later : {S I : Type 0} {s0 s1 : Sets I} {t0 t1 : List (Option (Caller S I))} → Extends s0 s1 → Keeps t0 t1 → (test : List Shape → Bool) (groups : List (GroupView S I)) → AreGroups s0 t0 groups → are_shaped test t0 groups ≡ true → are_shaped test t1 groups ≡ true
shaped_later e k test [] a h = refl
shaped_later {t0 = t0} e k test (group ∷ groups) a h = rw (shapes_of-later e k group a.0.is_group) (both (test (shapes_of t0 group)) _ _ h (shaped_later e k test groups a.1))

shaped_at : {S I : Type 0} (test : List Shape → Bool) (tree : List (Option (Caller S I))) (groups : List (GroupView S I)) (place : ℕ) (group : GroupView S I) → place < length groups → group ≡ get_or groups place group → are_shaped test tree groups ≡ true → test (shapes_of tree group) ≡ true
shaped_at test tree [] place group l e h = absurd (omega (arith, l))
shaped_at test tree (other ∷ others) zero group l e h = ap (λ g. test (shapes_of tree g)) e ∙ first (test (shapes_of tree other)) (are_shaped test tree others) h
  where
    first : (x y : Bool) → (x && y) ≡ true → x ≡ true
    first true y h = refl
    first false y h = h
shaped_at test tree (other ∷ others) (suc place) group l e h = shaped_at test tree others place group (omega (arith, l)) e (second (test (shapes_of tree other)) (are_shaped test tree others) h)
  where
    second : (x y : Bool) → (x && y) ≡ true → y ≡ true
    second true y h = h
    second false y h = cc h

pub placed_joined : {S I : Type 0} {s0 s1 : Sets I} {t0 t1 : List (Option (Caller S I))} → IsLawful s0 → IsLawful s1 → Extends s0 s1 → Keeps t0 t1 → (groups : List (GroupView S I)) (group : GroupView S I) (place : ℕ) (other joined : GroupView S I) → other ≡ get_or groups place other → AreGroups s0 t0 groups → IsGroupIn s0 t0 group → AreApart s0 (path_of group) groups → HasKeyAt groups place (key_of group) → IsSet s1 (path_of joined) (λ c. s0.test (path_of other) c || s0.test (path_of group) c) → shapes_of t1 joined ≡ shapes_of t0 other → IsGroupOf s1 t1 (side_at s0 (path_of other) (group_at s0 t0 other) (group_at s0 t0 group)) joined → IsPlaced s0 s1 t0 t1 groups group (remove groups place ++ joined ∷ [])
placed_joined {S = S} {I = I} {s0 = s0} {s1 = s1} {t0 = t0} {t1 = t1} l0 l1 e k groups group place other joined o a v p h u m j =
    let below = has_key_below (key_of group) groups place h in
    let out = is_taken s0 t0 groups place other below o a in
    let rest = remove groups place in
    let away = apart_taken s0 (path_of group) groups place other below o p in
    let is_joined = IsGroupIn-of s1 t1 (side_at s0 (path_of other) (group_at s0 t0 other) (group_at s0 t0 group)) joined j in
    let same_key : key_of joined ≡ key_of other = key_of-shapes s1 t1 joined is_joined ∙ ap (λ ss. reverse (map (λ s. s.part) ss)) m ∙ sym (key_of-shapes s0 t0 other out.beside.is_group) in
    let others = AreGroups-later e k rest out.others in
    let apart = apart_union t0 e (path_of other) (path_of group) (path_of joined) u rest out.others out.beside.apart away.1 in
    record {
      are_groups = AreGroups-pushed s1 t1 rest joined others (record {
        is_group = is_joined;
        nonempty = union_inside (path_of other) (path_of group) (path_of joined) l1 e l0 (path_known s0 t0 other out.beside.is_group) u out.beside.nonempty;
        apart = apart;
        fresh = rw same_key out.beside.fresh;
      });
      standing = λ c. standing_at-pushed s1 t1 rest joined apart c ∙ standing_joined groups group other joined rest e k out u j (AreDisjoint-sym s0 (path_of group) (path_of other) away.0) c (s0.test (path_of other) c) (s0.test (path_of group) c) refl refl;
      shapes = λ test t s. shaped_pushed test t1 rest joined (shaped_later e k test rest out.others (shaped_taken test t0 groups place s)) (ap test m ∙ shaped_at test t0 groups place other below o s);
    }
