-- A group that is divided by the answers to a question, where each part may push frames: the tree grows from part to part, and the outcomes so far stay outcomes.
use Rattle.std.proofs.Common.{◌≡◌, ℕ, ◌+◌, ◌<◌, ◌≤◌, Bool, true, false, List, [], ◌++◌, refl, sym, ◌∙◌, ap, get_or, length, take}
use Rattle.std.proofs.lemmas.List.{take_all}
use Rattle.std.specs.Prelude.{Option, is_some, ◌&&◌, ◌||◌, not}
use Rattle.std.specs.declared.cmp.Ordering.{Ordering}
use Rattle.vx_space.specs.Sets.{Sets, Extends}
use Rattle.vx_space.proofs.Spaces.{Extends-refl, Extends-trans}
use Rattle.vx_cond.specs.declared.cond.Leaf.{Leaf}
use Rattle.vx_cond.specs.Leaves.{AreLeaves, value_at}
use Rattle.vx_cond.proofs.LeafLoops.{next_leaf}
use Rattle.vx_group.specs.declared.callers.Caller.{Caller}
use Rattle.vx_group.specs.Callers.{Keeps}
use Rattle.vx_group.specs.Group.{GroupView, IsGroup, IsGroupIn, IsPartOf, path_of}
use Rattle.vx_group.proofs.CallerLaws.{Keeps-refl, Keeps-trans}
use Rattle.vx_heap.specs.Heap.{HeapView, IsHeap}
use Rattle.vx_heap.proofs.HeapLaws.{IsHeap-extends, globals_at-extends}
use Rattle.vx_java.specs.Machine.{State}
use Rattle.vx_java.specs.Machine.{Outcome as PlainOutcome}
use Rattle.vx_link.specs.declared.program.Program.{Program}
use Rattle.vx_outcome.specs.declared.outcome.Outcome.{Outcome}
use Rattle.vx_group_states.specs.Sites.{Cover}
use Rattle.vx_group_states.specs.Stands.{CameTo, StandsIn, state_at}
use Rattle.vx_group_states.proofs.Gathering.{IsGathering, IsGathering-inner, IsGathering-start, IsGathering-step, leaf_inside, part_path, widened}
use Rattle.vx_group_states.proofs.GrownStates.{CameTo-grown, Grows-refl, StandsIn-grown, state_at-grown}
use Rattle.vx_group_states.proofs.OutcomeStates.{CameTo-append, CameTo-none, CameTo-same, CameTo-through}
use Rattle.vx_group_states.proofs.StateLaws.{Continues-part, StandsIn-part, state_at-part}
use Rattle.vx_frames.proofs.GivingLaws.{IsGroupIn-part}
use Rattle.vx_frames.specs.Giving.{GivesIn}

-- what the loop keeps: the rest of the group (its gathering has no outcomes to tell of), the nodes of the tree, and the outcomes of the parts so far, over each heap over which the group stood
pub record IsGrowing {K S I : Type 0} (p : Program) (start sets : Sets I) (tree later : List (Option (Caller S I))) (group : GroupView S I) (says : HeapView S I → List Bool → State → PlainOutcome) (xs : List (Leaf K S I)) (i : ℕ) (rest : GroupView S I) (outcomes : List (Outcome S I)) : Type 0 where
  pub gathers : IsGathering p start sets group (λ _. ⊥) says xs i rest outcomes
  pub keeps : Keeps tree later
  pub came : (heap : HeapView S I) → IsHeap start heap → StandsIn p start heap tree group → CameTo p start sets heap later group (λ c. says heap c (state_at start heap tree group c)) (λ c. is_some (value_at start (take i xs) c)) outcomes

pub IsGrowing-start : {K S I : Type 0} (p : Program) (sets : Sets I) (tree : List (Option (Caller S I))) (group : GroupView S I) (says : HeapView S I → List Bool → State → PlainOutcome) (xs : List (Leaf K S I)) → IsGroup sets group → IsGrowing p sets sets tree tree group says xs 0 group []
IsGrowing-start p sets tree group says xs v = record {
  gathers = IsGathering-start p sets group (λ _. ⊥) says xs v;
  keeps = Keeps-refl tree;
  came = λ heap h s. CameTo-none p sets sets heap tree group _ (λ c. is_some (value_at sets (take 0 xs) c)) (λ c. refl);
}

not_both : (a b : Bool) → (b ≡ true → a ≡ false) → a ≡ true → b ≡ false
not_both a true f h = cc (f refl, h)
not_both a false f h = refl

-- one part more
pub IsGrowing-step : {K S I : Type 0} (cmp : K → K → Ordering) (p : Program) {s0 s1 s2 s3 : Sets I} (tree t1 t2 : List (Option (Caller S I))) (group : GroupView S I) (says says_there : HeapView S I → List Bool → State → PlainOutcome) (xs : List (Leaf K S I)) (i : ℕ) (x : Leaf K S I) (rest inner outer : GroupView S I) (outcomes made : List (Outcome S I)) → AreLeaves cmp s0 xs → Cover s0 (path_of group) xs → i < length xs → x ≡ get_or xs i x → ((heap : HeapView S I) → IsHeap s0 heap → (c : List Bool) → s0.test x.condition c ≡ true → (s : State) → says_there heap c s ≡ says heap c s) → IsGrowing p s0 s1 tree t1 group says xs i rest outcomes → Extends s1 s2 → IsPartOf s1 s2 (λ c. s1.test (path_of rest) c && s1.test x.condition c) rest inner → IsPartOf s1 s2 (λ c. s1.test (path_of rest) c && not (s1.test x.condition c)) rest outer → Extends s2 s3 → Keeps t1 t2 → ((heap : HeapView S I) → GivesIn p says_there s2 s3 t1 t2 inner made heap) → IsGrowing p s0 s3 tree t2 group says xs (i + 1) outer (outcomes ++ made)
IsGrowing-step {K = K} {S = S} {I = I} cmp p {s0 = s0} {s1 = s1} {s2 = s2} {s3 = s3} tree t1 t2 group says says_there xs i x rest inner outer outcomes made leaves inside l e law g f a b k more part =
    let next = next_leaf cmp s0 xs i x leaves l e in
    let before : List Bool → Bool = λ c. is_some (value_at s0 (take i xs) c) in
    let taken = IsGathering-inner cmp p s2 group (λ _. ⊥) says xs i x rest inner outcomes leaves inside l e g.gathers a in
    let within : (c : List Bool) → s0.test x.condition c ≡ true → s0.test (path_of group) c ≡ true = λ c t. leaf_inside s0 (path_of group) xs i x inside l e c t in
    let to2 = Extends-trans g.gathers.extends f in
    record {
      gathers = IsGathering-step cmp p group (λ _. ⊥) says says_there xs i x rest inner outer outcomes made leaves inside l e law g.gathers f a b k (λ heap tree q h v s. absurd q);
      keeps = Keeps-trans g.keeps more;
      came = λ heap h s.
          let h1 = IsHeap-extends g.gathers.extends heap h in
          let h2 = IsHeap-extends to2 heap h in
          let there = StandsIn-part p tree to2 heap h (s0.test x.condition) group inner within s taken in
          let stands = StandsIn-grown p (Extends-refl s2) g.keeps heap heap h2 (Grows-refl heap) inner there in
          let path : (c : List Bool) → s2.test (path_of inner) c ≡ s0.test x.condition c = part_path s0 s2 (s0.test x.condition) group inner taken in
          let same : (c : List Bool) → s0.test x.condition c ≡ true → state_at s2 heap t1 inner c ≡ state_at s0 heap tree group c = λ c t. state_at-grown p (Extends-refl s2) g.keeps heap heap h2 (Grows-refl heap) inner there c (path c ∙ t) refl ∙ state_at-part p tree to2 heap h (s0.test x.condition) group inner s taken c t in
          let one = CameTo-through p s0 s2 s3 heap t2 group inner (λ c. says_there heap c (state_at s2 heap t1 inner c)) (λ c. says heap c (state_at s0 heap tree group c)) (s0.test x.condition) made (Continues-part p tree to2 heap h (s0.test x.condition) group inner within s taken) path (λ c t. ap (says_there heap c) (same c t) ∙ law heap h c t (state_at s0 heap tree group c)) (part heap h2 stands) in
          let all = CameTo-grown p (Extends-trans f k) more heap heap h1 (Grows-refl heap) s0 group (λ c. says heap c (state_at s0 heap tree group c)) before outcomes (λ c t. globals_at-extends (Extends-trans f k) heap h1 c) (g.came heap h s) in
          CameTo-same p s0 s3 heap t2 group _ _ (λ c. before c || s0.test x.condition c) (λ c. is_some (value_at s0 (take (i + 1) xs) c)) (outcomes ++ made) (λ c. widened (s0.test x.condition c) (value_at s0 (take i xs) c) x.value ∙ ap is_some (sym (next.more c))) (λ c t. refl) (CameTo-append p s0 s3 heap t2 group _ before (s0.test x.condition) outcomes made (λ c t. not_both (before c) (s0.test x.condition c) (λ d. ap is_some (next.before.none c d)) t) all one);
    }

-- the part in the condition of one leaf stands in the tree so far
pub IsGrowing-part : {K S I : Type 0} (cmp : K → K → Ordering) (p : Program) {s0 s1 s2 : Sets I} (tree later : List (Option (Caller S I))) (group : GroupView S I) (says : HeapView S I → List Bool → State → PlainOutcome) (xs : List (Leaf K S I)) (i : ℕ) (x : Leaf K S I) (rest part : GroupView S I) (outcomes : List (Outcome S I)) → AreLeaves cmp s0 xs → Cover s0 (path_of group) xs → i < length xs → x ≡ get_or xs i x → IsGroupIn s0 tree group → IsGrowing p s0 s1 tree later group says xs i rest outcomes → Extends s1 s2 → IsPartOf s1 s2 (λ c. s1.test (path_of rest) c && s1.test x.condition c) rest part → IsGroupIn s2 later part
IsGrowing-part cmp p {s0 = s0} {s2 = s2} tree later group says xs i x rest part outcomes leaves cover l e v g f a =
    IsGroupIn-part (Extends-trans g.gathers.extends f) g.keeps (s0.test x.condition) group part (leaf_inside s0 (path_of group) xs i x cover l e) v (IsGathering-inner cmp p s2 group _ says xs i x rest part outcomes leaves cover l e g.gathers a)

pub IsGrowing-end : {K S I : Type 0} (p : Program) {s0 s1 : Sets I} (tree later : List (Option (Caller S I))) (group : GroupView S I) (says : HeapView S I → List Bool → State → PlainOutcome) (xs : List (Leaf K S I)) (i : ℕ) (rest : GroupView S I) (outcomes : List (Outcome S I)) → Cover s0 (path_of group) xs → IsGrowing p s0 s1 tree later group says xs i rest outcomes → length xs ≤ i → (heap : HeapView S I) → GivesIn p says s0 s1 tree later group outcomes heap
IsGrowing-end p {s0 = s0} {s1 = s1} tree later group says xs i rest outcomes inside g l heap h s =
    CameTo-same p s0 s1 heap later group _ _ (λ c. is_some (value_at s0 (take i xs) c)) (s0.test (path_of group)) outcomes (λ c. ap (λ ys. is_some (value_at s0 ys c)) (take_all i xs l) ∙ inside.at c) (λ c t. refl) (g.came heap h s)
