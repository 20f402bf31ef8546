-- What joins of caller frames make.
use Rattle.std.proofs.Common.{◌≡◌, ℕ, ◌<◌, ◌-◌, ◌^◌, arith, Bool, true, false, List, ◌∷◌, refl, sym, ◌∙◌, ap, subst, zero, suc, length, map}
use Rattle.std.specs.Prelude.{Option, Some, None, ◌&&◌, ◌||◌, if◌then◌else◌}
use Rattle.vx_space.specs.Sets.{Sets, Extends, IsSet, IsLawful}
use Rattle.vx_space.proofs.Spaces.{Extends-trans, IsSet-extends}
use Rattle.vx_cond.specs.Cond.{AreDisjoint}
use Rattle.vx_frame.specs.declared.frame.Frame.{Frame}
use Rattle.vx_frame.specs.Frame.{PlainFrame, Shape, IsFrame, IsFrameOf, frame_at, scope_of, shape_of, side_at}
use Rattle.vx_frame.proofs.FrameLaws.{IsFrame-extends, IsFrame-of, frame_at-of, frame_at-extends}
use Rattle.vx_group.specs.declared.callers.Caller.{Caller}
use Rattle.vx_group.specs.Callers.{node_at, callers_of, IsCallerFrame, AreCallers, Keeps, IsAdded, frames_at, IsFrameInside, IsFrameJoined, AreJoined}
use Rattle.vx_group.proofs.CallerLaws.{AreNodes-kept, callers_of-node, callers_of-kept, AreCallers-nodes, AreCallers-kept, frames_at-extends}

both_true : (a b : Bool) → a ≡ true → b ≡ true → (a && b) ≡ true
both_true a b p q = rw (p, q) refl

or_first : (a b : Bool) → a ≡ true → (a || b) ≡ true
or_first a b p = rw p refl

or_second : (a b : Bool) → b ≡ true → (a || b) ≡ true
or_second true b p = refl
or_second false b p = p

or_cases : (a b : Bool) → (a || b) ≡ true → (x : Type 0) → (a ≡ true → x) → (b ≡ true → x) → x
or_cases true b h x f g = f refl
or_cases false b h x f g = g h

and_true : (a b : Bool) → (b ≡ true → a ≡ true) → (a && b) ≡ b
and_true true b h = refl
and_true false true h = h refl
and_true false false h = refl

-- what `restrict` makes of a frame whose scope holds the path
pub IsFrameInside-restricted : {S I : Type 0} {s0 s1 : Sets I} → IsLawful s1 → (path : I) (frame inner : Frame S I) → IsCallerFrame s0 path frame → s0.is_known path ≡ true → Extends s0 s1 → IsSet s1 (scope_of inner) (λ c. s0.test (scope_of frame) c && s0.test path c) → shape_of inner ≡ shape_of frame → IsFrameOf s1 (frame_at s0 frame) inner → IsFrameInside s0 s1 path frame inner
IsFrameInside-restricted {s0 = s0} {s1 = s1} lawful path frame inner h k e s shape f = record {
  scope = lawful.equal_sets (scope_of inner) path s.known (e.known path k) (λ c. s.test c ∙ and_true (s0.test (scope_of frame) c) (s0.test path c) (h.holds.inside c) ∙ sym (e.test path c k));
  shape = shape;
  is_frame = f;
}

-- what `join` makes of two such frames
pub IsFrameJoined-made : {S I : Type 0} {s0 s1 s2 s3 : Sets I} (a b : I) (first second left right made : Frame S I) → AreDisjoint s0 a b → s0.is_known a ≡ true → s0.is_known b ≡ true → IsFrame s0 second → Extends s0 s1 → Extends s1 s2 → Extends s2 s3 → IsFrameInside s0 s1 a first left → IsFrameInside s1 s2 b second right → IsSet s3 (scope_of made) (λ c. s2.test (scope_of left) c || s2.test (scope_of right) c) → shape_of made ≡ shape_of left → IsFrameOf s3 (side_at s2 (scope_of left) (frame_at s2 left) (frame_at s2 right)) made → IsFrameJoined s0 s3 a b first second made
IsFrameJoined-made {S = S} {I = I} {s0 = s0} {s1 = s1} {s2 = s2} {s3 = s3} a b first second left right made d ka kb w e f g l r s shape m =
    let e02 = Extends-trans e f in
    let left_test : (c : List Bool) → s2.test (scope_of left) c ≡ s0.test a c = λ c. ap (λ i. s2.test i c) l.scope ∙ e02.test a c ka in
    let right_test : (c : List Bool) → s2.test (scope_of right) c ≡ s0.test b c = λ c. ap (λ i. s2.test i c) r.scope ∙ e02.test b c kb in
    let made_set : IsSet s3 (scope_of made) (λ c. s0.test a c || s0.test b c) = record { known = s.known; test = λ c. s.test c ∙ rw (left_test c, right_test c) refl } in
    let left_frame : (c : List Bool) → s0.test a c ≡ true → frame_at s2 left c ≡ frame_at s0 first c = λ c t. frame_at-extends f left (IsFrame-of s1 _ left l.is_frame) c ∙ frame_at-of s1 _ left c l.is_frame (ap (λ i. s1.test i c) l.scope ∙ e.test a c ka ∙ t) in
    let right_frame : (c : List Bool) → s0.test b c ≡ true → frame_at s2 right c ≡ frame_at s0 second c = λ c t. frame_at-of s2 _ right c r.is_frame (right_test c ∙ t) ∙ frame_at-extends e second w c in
    record {
      is_frame = IsFrame-of s3 _ made m;
      scope = made_set;
      shape = shape ∙ l.shape;
      at_first = λ c t.
          frame_at-of s3 _ made c m (made_set.test c ∙ or_first (s0.test a c) (s0.test b c) t)
          ∙ pick_first (s2.test (scope_of left) c) (frame_at s2 left c) (frame_at s2 right c) (left_test c ∙ t)
          ∙ left_frame c t;
      at_second = λ c t.
          frame_at-of s3 _ made c m (made_set.test c ∙ or_second (s0.test a c) (s0.test b c) t)
          ∙ pick_second (s2.test (scope_of left) c) (frame_at s2 left c) (frame_at s2 right c) (left_test c ∙ other c t)
          ∙ right_frame c t;
    }
  where
    pick_first : (t : Bool) (p q : PlainFrame) → t ≡ true → (if t then p else q) ≡ p
    pick_first t p q h = rw h refl

    pick_second : (t : Bool) (p q : PlainFrame) → t ≡ false → (if t then p else q) ≡ q
    pick_second t p q h = rw h refl

    other : (c : List Bool) → s0.test b c ≡ true → s0.test a c ≡ false
    other c t = cases (s0.test a c) (d.apart c)
      where
        cases : (v : Bool) → (v ≡ true → s0.test b c ≡ false) → v ≡ false
        cases true h = cc (h refl, t)
        cases false h = refl

-- one caller of two paths serves each path inside their union
AreCallers-union : {S I : Type 0} (sets : Sets I) (tree : List (Option (Caller S I))) (a b path : I) → ((c : List Bool) → sets.test path c ≡ true → (sets.test a c || sets.test b c) ≡ true) → (n : ℕ) (caller : Option ℕ) → AreCallers sets tree a n caller → AreCallers sets tree b n caller → AreCallers sets tree path n caller
AreCallers-union sets tree a b path i zero caller h k = h
AreCallers-union {S = S} {I = I} sets tree a b path i (suc n) caller h k =
    let same : k.0 ≡ h.0 = cc (h.1, k.1) in
    let P : Caller S I → Type 0 = λ node. IsCallerFrame sets b node.frame × AreCallers sets tree b n node.caller in
    let there = subst P same (k.2, k.3) in (
      h.0,
      h.1,
      record {
        is_frame = h.2.is_frame;
        holds = record { inside = λ c t. or_cases (sets.test a c) (sets.test b c) (i c t) (sets.test (scope_of h.0.frame) c ≡ true) (h.2.holds.inside c) (there.0.holds.inside c) };
        few = h.2.few;
      },
      AreCallers-union sets tree a b path i n h.0.caller h.3 there.1,
    )

-- a caller that both have stays
pub AreJoined-same : {S I : Type 0} (sets : Sets I) (tree : List (Option (Caller S I))) (n : ℕ) (a b : I) (first second : Option ℕ) → first ≡ second → AreCallers sets tree a n first → AreCallers sets tree b n second → AreJoined sets sets tree tree n a first b second first
AreJoined-same {S = S} {I = I} sets tree n a b first second e h k =
    let P : Option ℕ → Type 0 = λ q. AreJoined sets sets tree tree n a first b q first in
    let there : AreCallers sets tree b n first = let Q : Option ℕ → Type 0 = λ q. AreCallers sets tree b n q in subst Q (sym e) k in
    subst P e (record {
      nodes = AreCallers-nodes sets tree a n first h;
      callers = λ path i. AreCallers-union sets tree a b path i n first h there;
      shapes = refl;
      at_first = λ c t. refl;
      at_second = λ c t. refl;
    })

-- callers that are no two numbers are one
pub same_callers : {S I : Type 0} (sets : Sets I) (tree : List (Option (Caller S I))) (n : ℕ) (a b : I) (first second : Option ℕ) → AreCallers sets tree a n first → AreCallers sets tree b n second → ((x y : ℕ) → first ≡ Some x → second ≡ Some y → x ≡ y) → first ≡ second
same_callers sets tree n a b None None h k f = refl
same_callers sets tree zero a b None (Some y) h k f = sym k
same_callers sets tree (suc n) a b None (Some y) h k f = cc (h.1)
same_callers sets tree zero a b (Some x) None h k f = h
same_callers sets tree (suc n) a b (Some x) None h k f = cc (k.1)
same_callers sets tree n a b (Some x) (Some y) h k f = ap Some (f x y refl refl)

-- two callers become a new node over their own callers, which were joined
pub AreJoined-node : {S I : Type 0} {s0 s1 s2 : Sets I} {t0 t1 t2 : List (Option (Caller S I))} (n : ℕ) (a b : I) (m k number : ℕ) (x y : Caller S I) (frame : Frame S I) (caller : Option ℕ) → s0.is_known a ≡ true → s0.is_known b ≡ true → AreCallers s0 t0 a (suc n) (Some m) → AreCallers s0 t0 b (suc n) (Some k) → node_at t0 m ≡ Some x → node_at t0 k ≡ Some y → Extends s0 s1 → Extends s1 s2 → IsFrameJoined s0 s1 a b x.frame y.frame frame → Keeps t0 t1 → AreJoined s1 s2 t0 t1 n a x.caller b y.caller caller → IsAdded t1 t2 number (record { frame = frame; caller = caller }) → AreJoined s0 s2 t0 t2 (suc n) a (Some m) b (Some k) (Some number)
AreJoined-node {S = S} {I = I} {s0 = s0} {s1 = s1} {s2 = s2} {t0 = t0} {t1 = t1} {t2 = t2} n a b m k number x y frame caller ka kb h j ex ey e f made g rest added =
    let node : Caller S I = record { frame = frame; caller = caller } in
    let same_x : h.0 ≡ x = cc (h.1, ex) in
    let same_y : j.0 ≡ y = cc (j.1, ey) in
    let X : Caller S I → Type 0 = λ q. IsCallerFrame s0 a q.frame × AreCallers s0 t0 a n q.caller in
    let Y : Caller S I → Type 0 = λ q. IsCallerFrame s0 b q.frame × AreCallers s0 t0 b n q.caller in
    let at_x = subst X same_x (h.2, h.3) in
    let at_y = subst Y same_y (j.2, j.3) in
    let few : length frame.stack.conds < 2 ^ 32 = let P : ℕ → Type 0 = λ q. q < 2 ^ 32 in subst P (sym (ap (λ (q : Shape). q.part.depth) made.shape)) at_x.0.few in
    let scope_set = IsSet-extends f (scope_of frame) _ made.scope in
    let kept = callers_of-kept added.keeps n caller rest.nodes in
    let stack_made = callers_of-node t2 n (Some number) node added.added in
    let stack_x = callers_of-node t0 n (Some m) x ex in
    let stack_y = callers_of-node t0 n (Some k) y ey in
    record {
      nodes = (node, added.added, AreNodes-kept added.keeps n caller rest.nodes);
      callers = λ path i. (
        node,
        added.added,
        record {
          is_frame = IsFrame-extends f frame made.is_frame;
          holds = record { inside = λ c t. scope_set.test c ∙ i c t };
          few = few;
        },
        AreCallers-kept added.keeps s2 path n caller (rest.callers path (λ c t. (λ v. e.test a c ka v || e.test b c kb v) ∙ i c t)),
      );
      shapes = ap (map shape_of) stack_made ∙ (λ v. made.shape v ∷ (ap (map shape_of) kept ∙ rest.shapes) v) ∙ sym (ap (map shape_of) stack_x);
      at_first = λ c t.
          ap (λ fs. frames_at s2 fs c) stack_made
          ∙ (λ v. (frame_at-extends f frame made.is_frame c ∙ made.at_first c t) v ∷ (ap (λ fs. frames_at s2 fs c) kept ∙ rest.at_first c (e.test a c ka ∙ t) ∙ frames_at-extends e t0 a n x.caller at_x.1 c) v)
          ∙ sym (ap (λ fs. frames_at s0 fs c) stack_x);
      at_second = λ c t.
          ap (λ fs. frames_at s2 fs c) stack_made
          ∙ (λ v. (frame_at-extends f frame made.is_frame c ∙ made.at_second c t) v ∷ (ap (λ fs. frames_at s2 fs c) kept ∙ rest.at_second c (e.test b c kb ∙ t) ∙ frames_at-extends e t0 b n y.caller at_y.1 c) v)
          ∙ sym (ap (λ fs. frames_at s0 fs c) stack_y);
    }

-- what stands below the node of a number
pub step_down : {S I : Type 0} (sets : Sets I) (tree : List (Option (Caller S I))) (path : I) (depth m : ℕ) (x : Caller S I) → AreCallers sets tree path depth (Some m) → node_at tree m ≡ Some x → (0 < depth) × IsCallerFrame sets path x.frame × AreCallers sets tree path (depth - 1) x.caller
step_down sets tree path zero m x h e = cc h
step_down {S = S} {I = I} sets tree path (suc n) m x h e =
    let less : suc n - 1 ≡ n = omega arith in
    let same : h.0 ≡ x = cc (h.1, e) in
    let P : Caller S I → Type 0 = λ q. IsCallerFrame sets path q.frame × AreCallers sets tree path n q.caller in
    let there = subst P same (h.2, h.3) in
    (omega arith, there.0, (let Q : ℕ → Type 0 = λ d. AreCallers sets tree path d x.caller in subst Q (sym less) there.1))

pub step_shapes : {S I : Type 0} (tree : List (Option (Caller S I))) (depth m k : ℕ) (x y : Caller S I) → 0 < depth → node_at tree m ≡ Some x → node_at tree k ≡ Some y → map shape_of (callers_of tree depth (Some m)) ≡ map shape_of (callers_of tree depth (Some k)) → (shape_of x.frame ≡ shape_of y.frame) × (map shape_of (callers_of tree (depth - 1) x.caller) ≡ map shape_of (callers_of tree (depth - 1) y.caller))
step_shapes tree zero m k x y l ex ey h = absurd (omega (arith, l))
step_shapes {S = S} {I = I} tree (suc n) m k x y l ex ey h =
    let less : suc n - 1 ≡ n = omega arith in
    let both = sym (ap (map shape_of) (callers_of-node tree n (Some m) x ex)) ∙ h ∙ ap (map shape_of) (callers_of-node tree n (Some k) y ey) in
    (first_of_both _ _ _ _ both, (let Q : ℕ → Type 0 = λ d. map shape_of (callers_of tree d x.caller) ≡ map shape_of (callers_of tree d y.caller) in subst Q (sym less) (rest_of_both _ _ _ _ both)))
  where
    first_of_both : (p q : Shape) (ps qs : List Shape) → p ∷ ps ≡ q ∷ qs → p ≡ q
    first_of_both p q ps qs e = cc

    rest_of_both : (p q : Shape) (ps qs : List Shape) → p ∷ ps ≡ q ∷ qs → ps ≡ qs
    rest_of_both p q ps qs e = cc

-- the same as `AreJoined-node`, told by the depth
pub AreJoined-step : {S I : Type 0} {s0 s1 s2 : Sets I} {t0 t1 t2 : List (Option (Caller S I))} (depth : ℕ) (a b : I) (m k number : ℕ) (x y : Caller S I) (frame : Frame S I) (caller : Option ℕ) → s0.is_known a ≡ true → s0.is_known b ≡ true → AreCallers s0 t0 a depth (Some m) → AreCallers s0 t0 b depth (Some k) → node_at t0 m ≡ Some x → node_at t0 k ≡ Some y → Extends s0 s1 → Extends s1 s2 → IsFrameJoined s0 s1 a b x.frame y.frame frame → Keeps t0 t1 → AreJoined s1 s2 t0 t1 (depth - 1) a x.caller b y.caller caller → IsAdded t1 t2 number (record { frame = frame; caller = caller }) → AreJoined s0 s2 t0 t2 depth a (Some m) b (Some k) (Some number)
AreJoined-step zero a b m k number x y frame caller ka kb h j ex ey e f made g rest added = cc h
AreJoined-step {S = S} {I = I} {s0 = s0} {s1 = s1} {s2 = s2} {t0 = t0} {t1 = t1} {t2 = t2} (suc n) a b m k number x y frame caller ka kb h j ex ey e f made g rest added =
    let less : suc n - 1 ≡ n = omega arith in
    let Q : ℕ → Type 0 = λ d. AreJoined s1 s2 t0 t1 d a x.caller b y.caller caller in
    AreJoined-node n a b m k number x y frame caller ka kb h j ex ey e f made g (subst Q less rest) added
