-- A group that is divided by the answers to a question, and the outcomes of its parts, one after the other.
use Rattle.std.proofs.Common.{◌≡◌, ℕ, ◌+◌, ◌<◌, ◌≤◌, zero, suc, Bool, true, false, List, [], ◌∷◌, ◌++◌, refl, sym, ◌∙◌, ap, subst, arith, take, get_or, length}
use Rattle.std.proofs.lemmas.List.{take_all}
use Rattle.std.specs.Prelude.{Option, Some, None, is_some, ◌&&◌, ◌||◌, not, if◌then◌else◌}
use Rattle.std.specs.declared.cmp.Ordering.{Ordering}
use Rattle.vx_space.specs.Sets.{Sets, Extends}
use Rattle.vx_space.proofs.Spaces.{Extends-refl, Extends-trans}
use Rattle.vx_cond.specs.declared.cond.Leaf.{Leaf}
use Rattle.vx_cond.specs.Leaves.{AreLeaves, value_at}
use Rattle.vx_cond.specs.Cond.{Conditional, IsCond}
use Rattle.vx_cond.proofs.LeafLoops.{leaf_here, next_leaf}
use Rattle.vx_group.specs.declared.callers.Caller.{Caller}
use Rattle.vx_group.specs.Group.{GroupView, IsGroup, IsPartOf, path_of}
use Rattle.vx_group.proofs.GroupLaws.{IsGroup-path_known, IsPartOf-extends}
use Rattle.vx_heap.specs.Heap.{HeapView, IsHeap}
use Rattle.vx_java.specs.Machine.{State}
use Rattle.vx_java.specs.Machine.{Outcome as PlainOutcome}
use Rattle.vx_link.specs.declared.program.Program.{Program}
use Rattle.vx_outcome.specs.declared.outcome.Outcome.{Outcome}
use Rattle.vx_group_states.specs.Parting.{IsLeft}
use Rattle.vx_group_states.specs.Sites.{Cover, HasPast}
use Rattle.vx_group_states.specs.declared.site.Site.{Site}
use Rattle.vx_group_states.proofs.EndingLaws.{HasPast-part}
use Rattle.vx_group_states.specs.Stands.{CameTo, StandsIn, state_at}
use Rattle.vx_heap.proofs.HeapLaws.{IsHeap-extends}
use Rattle.vx_group_states.proofs.StateLaws.{Continues-part, StandsIn-part, both_first, state_at-part}
use Rattle.vx_group_states.proofs.OutcomeStates.{CameTo-append, CameTo-extends, CameTo-none, CameTo-same, CameTo-through}

pub Cover-answers : {K S I : Type 0} (cmp : K → K → Ordering) (sets : Sets I) (path : I) (cond : Conditional K S I) → IsCond cmp sets cond → cond.scope ≡ path → Cover sets path cond.leaves
unfolding IsCond
Cover-answers cmp sets path cond v e = record { at = λ c. v.covers c ∙ ap (λ i. sets.test i c) e }

pub AreLeaves-of : {K S I : Type 0} (cmp : K → K → Ordering) (sets : Sets I) (cond : Conditional K S I) → IsCond cmp sets cond → AreLeaves cmp sets cond.leaves
unfolding IsCond
AreLeaves-of cmp sets cond v = v.are_leaves

-- the value where a leaf's condition holds
pub leaf_value : {K S I : Type 0} (cmp : K → K → Ordering) (sets : Sets I) (xs : List (Leaf K S I)) (i : ℕ) (x : Leaf K S I) (c : List Bool) → AreLeaves cmp sets xs → i < length xs → x ≡ get_or xs i x → sets.test x.condition c ≡ true → value_at sets xs c ≡ Some x.value
leaf_value cmp sets [] i x c h l e t = absurd (omega arith)
leaf_value cmp sets (y ∷ ys) zero x c h l e t = first (sets.test y.condition c) y.value (value_at sets ys c) x.value (ap (λ v. sets.test v.condition c) (sym e) ∙ t) (ap (λ v. v.value) e)
  where
    first : {T : Type 0} (b : Bool) (v : T) (r : Option T) (w : T) → b ≡ true → w ≡ v → (if b then Some v else r) ≡ Some w
    first b v r w h e = rw (h, e) refl
leaf_value cmp sets (y ∷ ys) (suc i) x c h l e t = later (sets.test y.condition c) y.value (value_at sets ys c) x.value (leaf_value cmp sets ys i x c h.1 (omega arith) e t) (λ u. leaf_here sets ys i x c (omega arith) e t (h.0.apart.none c u))
  where
    later : {T : Type 0} (b : Bool) (v : T) (r : Option T) (w : T) → r ≡ Some w → (b ≡ true → ⊥) → (if b then Some v else r) ≡ Some w
    later true v r w h f = absurd (f refl)
    later false v r w h f = h

-- what the loop keeps: the rest of the group, and the outcomes of the parts so far, over each heap that has what the answers name
pub record IsGathering {K S I : Type 0} (p : Program) (start sets : Sets I) (group : GroupView S I) (Q : HeapView S I → Type 0) (says : HeapView S I → List Bool → State → PlainOutcome) (xs : List (Leaf K S I)) (i : ℕ) (rest : GroupView S I) (outcomes : List (Outcome S I)) : Type 0 where
  pub extends : Extends start sets
  pub rest_is : IsPartOf start sets (λ c. start.test (path_of group) c && not (is_some (value_at start (take i xs) c))) group rest
  pub came : (heap : HeapView S I) (tree : List (Option (Caller S I))) → Q heap → IsHeap start heap → StandsIn p start heap tree group → CameTo p start sets heap tree group (λ c. says heap c (state_at start heap tree group c)) (λ c. is_some (value_at start (take i xs) c)) outcomes

and_true : (a : Bool) → a ≡ (a && true)
and_true true = refl
and_true false = refl

pub IsGathering-rest : {K S I : Type 0} (p : Program) (start sets : Sets I) (group : GroupView S I) (Q : HeapView S I → Type 0) (says : HeapView S I → List Bool → State → PlainOutcome) (xs : List (Leaf K S I)) (i : ℕ) (rest : GroupView S I) (outcomes : List (Outcome S I)) → IsGathering p start sets group Q says xs i rest outcomes → IsGroup sets rest
unfolding IsPartOf
IsGathering-rest p start sets group Q says xs i rest outcomes g = g.rest_is.is_group

pub IsPartOf-group : {S I : Type 0} (old new : Sets I) (set : List Bool → Bool) (group part : GroupView S I) → IsPartOf old new set group part → IsGroup new part
unfolding IsPartOf
IsPartOf-group old new set group part p = p.is_group

pub IsGathering-past : {K S I : Type 0} (site : Site) (p : Program) (start sets : Sets I) (group : GroupView S I) (Q : HeapView S I → Type 0) (says : HeapView S I → List Bool → State → PlainOutcome) (xs : List (Leaf K S I)) (i : ℕ) (rest : GroupView S I) (outcomes : List (Outcome S I)) → IsGathering p start sets group Q says xs i rest outcomes → HasPast site group → HasPast site rest
IsGathering-past site p start sets group Q says xs i rest outcomes g h = HasPast-part site start sets _ group rest g.rest_is h

pub IsGathering-start : {K S I : Type 0} (p : Program) (sets : Sets I) (group : GroupView S I) (Q : HeapView S I → Type 0) (says : HeapView S I → List Bool → State → PlainOutcome) (xs : List (Leaf K S I)) → IsGroup sets group → IsGathering p sets sets group Q says xs 0 group []
unfolding IsPartOf
IsGathering-start p sets group Q says xs v = record {
  extends = Extends-refl sets;
  rest_is = record { is_group = v; path = record { known = IsGroup-path_known sets group v; test = λ c. and_true (sets.test (path_of group) c) }; below = refl; caller = refl; shape = refl; at = λ c t. refl };
  came = λ heap tree q h s. CameTo-none p sets sets heap tree group (λ c. says heap c (state_at sets heap tree group c)) (λ c. false) (λ c. refl);
}

some_of : {T : Type 0} (o : Option T) → (o ≡ None → ⊥) → is_some o ≡ true
some_of None f = absurd (f refl)
some_of (Some v) f = refl

absorbed : (p v d : Bool) → (d ≡ true → (p ≡ true) × (v ≡ false)) → ((p && not v) && d) ≡ d
absorbed p v true f = rw ((f refl).0, (f refl).1) refl
absorbed true true false f = refl
absorbed true false false f = refl
absorbed false v false f = refl

lessened : {T : Type 0} (p d : Bool) (o : Option T) (v : T) → ((p && not (is_some o)) && not d) ≡ (p && not (is_some (if d then Some v else o)))
lessened true true None v = refl
lessened true true (Some w) v = refl
lessened true false None v = refl
lessened true false (Some w) v = refl
lessened false d o v = refl

pub widened : {T : Type 0} (d : Bool) (o : Option T) (v : T) → (is_some o || d) ≡ is_some (if d then Some v else o)
widened true None v = refl
widened true (Some w) v = refl
widened false None v = refl
widened false (Some w) v = refl

-- a leaf's condition is inside what the leaves cover
pub leaf_inside : {K S I : Type 0} (sets : Sets I) (path : I) (xs : List (Leaf K S I)) (i : ℕ) (x : Leaf K S I) → Cover sets path xs → i < length xs → x ≡ get_or xs i x → (c : List Bool) → sets.test x.condition c ≡ true → sets.test path c ≡ true
leaf_inside sets path xs i x inside l e c t = sym (inside.at c) ∙ some_of (value_at sets xs c) (leaf_here sets xs i x c l e t)

-- a part of a part, for a set that says the same
part_of_part : {S I : Type 0} (s0 s1 s2 : Sets I) (set inner other : List Bool → Bool) (group rest part : GroupView S I) → IsPartOf s0 s1 set group rest → IsPartOf s1 s2 inner rest part → ((c : List Bool) → inner c ≡ true → s1.test (path_of rest) c ≡ true) → ((c : List Bool) → inner c ≡ other c) → IsPartOf s0 s2 other group part
unfolding IsPartOf
part_of_part s0 s1 s2 set inner other group rest part r p inside same = record {
  is_group = p.is_group;
  path = record { known = p.path.known; test = λ c. p.path.test c ∙ same c };
  below = p.below ∙ r.below;
  caller = p.caller ∙ r.caller;
  shape = p.shape ∙ r.shape;
  at = λ c t. p.at c t ∙ r.at c (inside c (sym (p.path.test c) ∙ t));
}

pub part_path : {S I : Type 0} (s0 s1 : Sets I) (set : List Bool → Bool) (group part : GroupView S I) → IsPartOf s0 s1 set group part → (c : List Bool) → s1.test (path_of part) c ≡ set c
unfolding IsPartOf
part_path s0 s1 set group part p = p.path.test

-- the outcomes of a part, told of the whole group
pub CameTo-part : {S I : Type 0} (p : Program) {s0 s1 : Sets I} (s2 : Sets I) (heap : HeapView S I) (tree : List (Option (Caller S I))) (group part : GroupView S I) (set : List Bool → Bool) (says says_there : List Bool → State → PlainOutcome) (outcomes : List (Outcome S I)) → Extends s0 s1 → IsHeap s0 heap → StandsIn p s0 heap tree group → ((c : List Bool) → set c ≡ true → s0.test (path_of group) c ≡ true) → IsPartOf s0 s1 set group part → ((c : List Bool) → set c ≡ true → (s : State) → says_there c s ≡ says c s) → CameTo p s1 s2 heap tree part (λ c. says_there c (state_at s1 heap tree part c)) (s1.test (path_of part)) outcomes → CameTo p s0 s2 heap tree group (λ c. says c (state_at s0 heap tree group c)) set outcomes
CameTo-part p {s0 = s0} {s1 = s1} s2 heap tree group part set says says_there outcomes e h s inside q law y =
    let state = state_at-part p tree e heap h set group part s q in
    CameTo-through p s0 s1 s2 heap tree group part (λ c. says_there c (state_at s1 heap tree part c)) (λ c. says c (state_at s0 heap tree group c)) set outcomes (Continues-part p tree e heap h set group part inside s q) (part_path s0 s1 set group part q) (λ c t. ap (says_there c) (state c t) ∙ law c t (state_at s0 heap tree group c)) y

-- a part of the rest is one of the whole group
pub IsGathering-inner : {K S I : Type 0} (cmp : K → K → Ordering) (p : Program) {s0 s1 : Sets I} (s2 : Sets I) (group : GroupView S I) (Q : HeapView S I → Type 0) (says : HeapView S I → List Bool → State → PlainOutcome) (xs : List (Leaf K S I)) (i : ℕ) (x : Leaf K S I) (rest inner : GroupView S I) (outcomes : List (Outcome S I)) → AreLeaves cmp s0 xs → Cover s0 (path_of group) xs → i < length xs → x ≡ get_or xs i x → IsGathering p s0 s1 group Q says xs i rest outcomes → IsPartOf s1 s2 (λ c. s1.test (path_of rest) c && s1.test x.condition c) rest inner → IsPartOf s0 s2 (s0.test x.condition) group inner
IsGathering-inner cmp p {s0 = s0} {s1 = s1} s2 group Q says xs i x rest inner outcomes leaves inside l e g a =
    let next = next_leaf cmp s0 xs i x leaves l e in
    let before : List Bool → Bool = λ c. is_some (value_at s0 (take i xs) c) in
    let path : (c : List Bool) → s1.test (path_of rest) c ≡ (s0.test (path_of group) c && not (before c)) = part_path s0 s1 _ group rest g.rest_is in
    let condition : (c : List Bool) → s1.test x.condition c ≡ s0.test x.condition c = λ c. g.extends.test x.condition c next.known in
    let here : (c : List Bool) → s0.test x.condition c ≡ true → (s0.test (path_of group) c ≡ true) × (before c ≡ false) = λ c t. (leaf_inside s0 (path_of group) xs i x inside l e c t, ap is_some (next.before.none c t)) in
    let same : (c : List Bool) → (s1.test (path_of rest) c && s1.test x.condition c) ≡ s0.test x.condition c = λ c. (λ j. path c j && condition c j) ∙ absorbed (s0.test (path_of group) c) (before c) (s0.test x.condition c) (here c) in
    part_of_part s0 s1 s2 _ _ (s0.test x.condition) group rest inner g.rest_is a (λ c t. both_first (s1.test (path_of rest) c) (s1.test x.condition c) t) same

pub IsGathering-step : {K S I : Type 0} (cmp : K → K → Ordering) (p : Program) {s0 s1 s2 s3 : Sets I} (group : GroupView S I) (Q : HeapView S I → Type 0) (says says_there : HeapView S I → List Bool → State → PlainOutcome) (xs : List (Leaf K S I)) (i : ℕ) (x : Leaf K S I) (rest inner outer : GroupView S I) (outcomes made : List (Outcome S I)) → AreLeaves cmp s0 xs → Cover s0 (path_of group) xs → i < length xs → x ≡ get_or xs i x → ((heap : HeapView S I) → IsHeap s0 heap → (c : List Bool) → s0.test x.condition c ≡ true → (s : State) → says_there heap c s ≡ says heap c s) → IsGathering p s0 s1 group Q says xs i rest outcomes → Extends s1 s2 → IsPartOf s1 s2 (λ c. s1.test (path_of rest) c && s1.test x.condition c) rest inner → IsPartOf s1 s2 (λ c. s1.test (path_of rest) c && not (s1.test x.condition c)) rest outer → Extends s2 s3 → ((heap : HeapView S I) (tree : List (Option (Caller S I))) → Q heap → IsHeap s0 heap → IsHeap s2 heap → StandsIn p s2 heap tree inner → CameTo p s2 s3 heap tree inner (λ c. says_there heap c (state_at s2 heap tree inner c)) (s2.test (path_of inner)) made) → IsGathering p s0 s3 group Q says xs (i + 1) outer (outcomes ++ made)
IsGathering-step {K = K} {S = S} {I = I} cmp p {s0 = s0} {s1 = s1} {s2 = s2} {s3 = s3} group Q says says_there xs i x rest inner outer outcomes made leaves inside l e law g f a b k part =
    let next = next_leaf cmp s0 xs i x leaves l e in
    let before : List Bool → Bool = λ c. is_some (value_at s0 (take i xs) c) in
    let here : (c : List Bool) → s0.test x.condition c ≡ true → (s0.test (path_of group) c ≡ true) × (before c ≡ false) = λ c t. (sym (inside.at c) ∙ some_of (value_at s0 xs c) (leaf_here s0 xs i x c l e t), ap is_some (next.before.none c t)) in
    let path : (c : List Bool) → s1.test (path_of rest) c ≡ (s0.test (path_of group) c && not (before c)) = part_path s0 s1 _ group rest g.rest_is in
    let condition : (c : List Bool) → s1.test x.condition c ≡ s0.test x.condition c = λ c. g.extends.test x.condition c next.known in
    let outer_same : (c : List Bool) → (s1.test (path_of rest) c && not (s1.test x.condition c)) ≡ (s0.test (path_of group) c && not (is_some (value_at s0 (take (i + 1) xs) c))) = λ c. (λ j. path c j && not (condition c j)) ∙ lessened (s0.test (path_of group) c) (s0.test x.condition c) (value_at s0 (take i xs) c) x.value ∙ ap (λ o. s0.test (path_of group) c && not (is_some o)) (sym (next.more c)) in
    let taken = IsGathering-inner cmp p s2 group Q says xs i x rest inner outcomes leaves inside l e g a in
    let left = part_of_part s0 s1 s2 _ _ (λ c. s0.test (path_of group) c && not (is_some (value_at s0 (take (i + 1) xs) c))) group rest outer g.rest_is b (λ c t. both_first (s1.test (path_of rest) c) (not (s1.test x.condition c)) t) outer_same in
    let to2 = Extends-trans g.extends f in
    record {
      extends = Extends-trans to2 k;
      rest_is = IsPartOf-extends s0 k _ group outer left;
      came = λ heap tree q h s.
          let later = IsHeap-extends to2 heap h in
          let there = StandsIn-part p tree to2 heap h (s0.test x.condition) group inner (λ c t. (here c t).0) s taken in
          let one = CameTo-part p s3 heap tree group inner (s0.test x.condition) (says heap) (says_there heap) made to2 h s (λ c t. (here c t).0) taken (λ c t. law heap h c t) (part heap tree q h later there) in
          let all = CameTo-extends p s0 tree (Extends-trans f k) heap (IsHeap-extends g.extends heap h) group _ before outcomes (g.came heap tree q h s) in
          CameTo-same p s0 s3 heap tree group _ _ (λ c. before c || s0.test x.condition c) (λ c. is_some (value_at s0 (take (i + 1) xs) c)) (outcomes ++ made) (λ c. widened (s0.test x.condition c) (value_at s0 (take i xs) c) x.value ∙ ap is_some (sym (next.more c))) (λ c t. refl) (CameTo-append p s0 s3 heap tree group _ before (s0.test x.condition) outcomes made (apart before here) all one);
    }
  where
    apart : (before : List Bool → Bool) → ((c : List Bool) → s0.test x.condition c ≡ true → (s0.test (path_of group) c ≡ true) × (before c ≡ false)) → (c : List Bool) → before c ≡ true → s0.test x.condition c ≡ false
    apart before here c t = not_both (before c) (s0.test x.condition c) (λ d. (here c d).1) t
      where
        not_both : (a b : Bool) → (b ≡ true → a ≡ false) → a ≡ true → b ≡ false
        not_both a true f h = cc (f refl, h)
        not_both a false f h = refl

pub IsGathering-end : {K S I : Type 0} (p : Program) {s0 s1 : Sets I} (group : GroupView S I) (Q : HeapView S I → Type 0) (says : HeapView S I → List Bool → State → PlainOutcome) (xs : List (Leaf K S I)) (i : ℕ) (rest : GroupView S I) (outcomes : List (Outcome S I)) → Cover s0 (path_of group) xs → IsGathering p s0 s1 group Q says xs i rest outcomes → length xs ≤ i → (heap : HeapView S I) → Q heap → (tree : List (Option (Caller S I))) → IsHeap s0 heap → StandsIn p s0 heap tree group → CameTo p s0 s1 heap tree group (λ c. says heap c (state_at s0 heap tree group c)) (s0.test (path_of group)) outcomes
IsGathering-end p {s0 = s0} {s1 = s1} group Q says xs i rest outcomes inside g l heap q tree h s =
    CameTo-same p s0 s1 heap tree group _ _ (λ c. is_some (value_at s0 (take i xs) c)) (s0.test (path_of group)) outcomes (λ c. ap (λ ys. is_some (value_at s0 ys c)) (take_all i xs l) ∙ inside.at c) (λ c t. refl) (g.came heap tree q h s)

-- what is left where some is
pub left_some : {S I : Type 0} (s1 s2 : Sets I) (rest : GroupView S I) (condition : I) (left : Option (GroupView S I)) (others : GroupView S I) → left ≡ Some others → IsLeft s1 s2 rest condition left → IsPartOf s1 s2 (λ c. s1.test (path_of rest) c && not (s1.test condition c)) rest others
left_some {S = S} {I = I} s1 s2 rest condition left others e h = let P : Option (GroupView S I) → Type 0 = λ o. IsLeft s1 s2 rest condition o in subst P e h

pub left_none : {S I : Type 0} (s1 s2 : Sets I) (rest : GroupView S I) (condition : I) (left : Option (GroupView S I)) → left ≡ None → IsLeft s1 s2 rest condition left → path_of rest ≡ condition
left_none {S = S} {I = I} s1 s2 rest condition left e h = let P : Option (GroupView S I) → Type 0 = λ o. IsLeft s1 s2 rest condition o in subst P e h

-- the first leaves have a value only where all have one
taken_some : {K S I : Type 0} (sets : Sets I) (xs : List (Leaf K S I)) (i : ℕ) (c : List Bool) → is_some (value_at sets (take i xs) c) ≡ true → is_some (value_at sets xs c) ≡ true
taken_some sets [] zero c h = h
taken_some sets [] (suc i) c h = h
taken_some sets (x ∷ xs) zero c h = cc h
taken_some sets (x ∷ xs) (suc i) c h = cases (sets.test x.condition c) x.value (value_at sets (take i xs) c) (value_at sets xs c) (taken_some sets xs i c) h
  where
    cases : {T : Type 0} (b : Bool) (v : T) (r q : Option T) → (is_some r ≡ true → is_some q ≡ true) → is_some (if b then Some v else r) ≡ true → is_some (if b then Some v else q) ≡ true
    cases true v r q f m = refl
    cases false v r q f m = f m

-- the outcomes of the last part, where what is left is all of a leaf's condition
pub IsGathering-last : {K S I : Type 0} (cmp : K → K → Ordering) (p : Program) {s0 s1 s2 s3 : Sets I} (group : GroupView S I) (Q : HeapView S I → Type 0) (says says_there : HeapView S I → List Bool → State → PlainOutcome) (xs : List (Leaf K S I)) (i : ℕ) (x : Leaf K S I) (rest inner : GroupView S I) (outcomes made : List (Outcome S I)) → AreLeaves cmp s0 xs → Cover s0 (path_of group) xs → i < length xs → x ≡ get_or xs i x → ((heap : HeapView S I) → IsHeap s0 heap → (c : List Bool) → s0.test x.condition c ≡ true → (s : State) → says_there heap c s ≡ says heap c s) → IsGathering p s0 s1 group Q says xs i rest outcomes → path_of rest ≡ x.condition → Extends s1 s2 → IsPartOf s1 s2 (λ c. s1.test (path_of rest) c && s1.test x.condition c) rest inner → Extends s2 s3 → ((heap : HeapView S I) (tree : List (Option (Caller S I))) → Q heap → IsHeap s0 heap → IsHeap s2 heap → StandsIn p s2 heap tree inner → CameTo p s2 s3 heap tree inner (λ c. says_there heap c (state_at s2 heap tree inner c)) (s2.test (path_of inner)) made) → (heap : HeapView S I) → Q heap → (tree : List (Option (Caller S I))) → IsHeap s0 heap → StandsIn p s0 heap tree group → CameTo p s0 s3 heap tree group (λ c. says heap c (state_at s0 heap tree group c)) (s0.test (path_of group)) (outcomes ++ made)
IsGathering-last {K = K} {S = S} {I = I} cmp p {s0 = s0} {s1 = s1} {s2 = s2} {s3 = s3} group Q says says_there xs i x rest inner outcomes made leaves inside l e law g whole f a k part heap q tree h s =
    let next = next_leaf cmp s0 xs i x leaves l e in
    let before : List Bool → Bool = λ c. is_some (value_at s0 (take i xs) c) in
    let here : (c : List Bool) → s0.test x.condition c ≡ true → (s0.test (path_of group) c ≡ true) × (before c ≡ false) = λ c t. (leaf_inside s0 (path_of group) xs i x inside l e c t, ap is_some (next.before.none c t)) in
    let rest_of : (c : List Bool) → s0.test x.condition c ≡ (s0.test (path_of group) c && not (before c)) = λ c. sym (g.extends.test x.condition c next.known) ∙ ap (λ j. s1.test j c) (sym whole) ∙ part_path s0 s1 _ group rest g.rest_is c in
    let taken = IsGathering-inner cmp p s2 group Q says xs i x rest inner outcomes leaves inside l e g a in
    let to2 = Extends-trans g.extends f in
    let there = StandsIn-part p tree to2 heap h (s0.test x.condition) group inner (λ c t. (here c t).0) s taken in
    let one = CameTo-part p s3 heap tree group inner (s0.test x.condition) (says heap) (says_there heap) made to2 h s (λ c t. (here c t).0) taken (λ c t. law heap h c t) (part heap tree q h (IsHeap-extends to2 heap h) there) in
    let all = CameTo-extends p s0 tree (Extends-trans f k) heap (IsHeap-extends g.extends heap h) group _ before outcomes (g.came heap tree q h s) in
    CameTo-same p s0 s3 heap tree group _ _ (λ c. before c || s0.test x.condition c) (s0.test (path_of group)) (outcomes ++ made) (λ c. both (before c) (s0.test x.condition c) (s0.test (path_of group) c) (rest_of c) (λ t. sym (inside.at c) ∙ taken_some s0 xs i c t)) (λ c t. refl) (CameTo-append p s0 s3 heap tree group _ before (s0.test x.condition) outcomes made (λ c t. not_both (before c) (s0.test x.condition c) (λ d. (here c d).1) t) all one)
  where
    both : (a d b : Bool) → d ≡ (b && not a) → (a ≡ true → b ≡ true) → (a || d) ≡ b
    both true d b h f = sym (f refl)
    both false d true h f = h
    both false d false h f = h

    not_both : (a b : Bool) → (b ≡ true → a ≡ false) → a ≡ true → b ≡ false
    not_both a true f h = cc (f refl, h)
    not_both a false f h = refl

-- a group is its own part in its path
pub IsPartOf-whole : {S I : Type 0} (sets : Sets I) (group : GroupView S I) (condition : I) → IsGroup sets group → path_of group ≡ condition → IsPartOf sets sets (λ c. sets.test (path_of group) c && sets.test condition c) group group
unfolding IsPartOf
IsPartOf-whole sets group condition v e = record { is_group = v; path = record { known = IsGroup-path_known sets group v; test = λ c. twice (sets.test (path_of group) c) ∙ ap (λ j. sets.test (path_of group) c && sets.test j c) e }; below = refl; caller = refl; shape = refl; at = λ c t. refl }
  where
    twice : (a : Bool) → a ≡ (a && a)
    twice true = refl
    twice false = refl
