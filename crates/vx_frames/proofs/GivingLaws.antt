-- What comes of a group over one tree: from calls that hold over every tree, over an earlier space, by the parts of the group, and to an attempt whose heap stays.
use Rattle.std.proofs.Common.{◌≡◌, Bool, true, false, List, ◌++◌, ◌&&◌, ◌||◌, refl, sym, ◌∙◌, ap, subst}
use Rattle.std.specs.Prelude.{Option, not}
use Rattle.vx_space.specs.Sets.{Sets, Extends}
use Rattle.vx_space.proofs.Spaces.{Extends-refl}
use Rattle.vx_group.specs.declared.callers.Caller.{Caller}
use Rattle.vx_group.specs.Callers.{Keeps}
use Rattle.vx_group.specs.Group.{GroupView, IsGroupIn, IsPartOf, path_of}
use Rattle.vx_group.proofs.GroupLaws.{IsGroup-path_known, IsGroupIn-group, IsGroupIn-later, IsGroupIn-of, IsGroupOf-part}
use Rattle.vx_heap.specs.Heap.{HeapView, IsHeap}
use Rattle.vx_heap.proofs.HeapLaws.{IsHeap-extends, globals_at-extends}
use Rattle.vx_java.specs.Machine.{State}
use Rattle.vx_java.specs.Machine.{Outcome as PlainOutcome}
use Rattle.vx_link.specs.declared.program.Program.{Program}
use Rattle.vx_outcome.specs.declared.outcome.Outcome.{Outcome}
use Rattle.vx_group_states.specs.Sites.{GivesAt}
use Rattle.vx_group_states.specs.Stands.{Attempts, CameTo, StandsIn, state_at}
use Rattle.vx_group_states.proofs.Gathering.{part_path}
use Rattle.vx_group_states.proofs.GrownStates.{CameTo-grown, Grows-refl}
use Rattle.vx_group_states.proofs.OutcomeStates.{CameTo-append, CameTo-same, CameTo-through}
use Rattle.vx_group_states.proofs.StateLaws.{Continues-part, Continues-same, StandsIn-extends, StandsIn-part, both_first, both_second, state_at-extends, state_at-part}
use Rattle.vx_frames.specs.Giving.{GivesIn}

-- a call that needs no tree, beside a tree that stays
pub GivesIn-at : {S I : Type 0} (p : Program) (says : HeapView S I → List Bool → State → PlainOutcome) (old new : Sets I) (tree later : List (Option (Caller S I))) (group : GroupView S I) (outcomes : List (Outcome S I)) (heap : HeapView S I) → later ≡ tree → GivesAt p says old new group outcomes heap → GivesIn p says old new tree later group outcomes heap
GivesIn-at {S = S} {I = I} p says old new tree later group outcomes heap same gives =
    let P : List (Option (Caller S I)) → Type 0 = λ t. GivesIn p says old new tree t group outcomes heap in
    subst P (sym same) (λ h s. gives tree h s)

-- an attempt whose heap stays
pub Attempts-gives : {S I : Type 0} (p : Program) (says : State → PlainOutcome) {old new : Sets I} (tree later : List (Option (Caller S I))) (group : GroupView S I) (outcomes : List (Outcome S I)) (heap : HeapView S I) → Extends old new → IsHeap old heap → StandsIn p old heap tree group → Keeps tree later → GivesIn p (λ _ _. says) old new tree later group outcomes heap → Attempts p says old new heap heap tree later group outcomes
Attempts-gives p says tree later group outcomes heap e v s keeps gives = record {
  is_heap = IsHeap-extends e heap v;
  grows = Grows-refl heap;
  keeps = keeps;
  came = gives v s;
  outside = λ c t. globals_at-extends e heap v c;
}

-- ---- groups

-- a part of a group that stands in a tree stands in a later one
pub IsGroupIn-part : {S I : Type 0} {s0 s1 : Sets I} {tree later : List (Option (Caller S I))} → Extends s0 s1 → Keeps tree later → (set : List Bool → Bool) (group part : GroupView S I) → ((c : List Bool) → set c ≡ true → s0.test (path_of group) c ≡ true) → IsGroupIn s0 tree group → IsPartOf s0 s1 set group part → IsGroupIn s1 later part
IsGroupIn-part {s0 = s0} {s1 = s1} {tree = tree} e k set group part inside v q = IsGroupIn-later (Extends-refl s1) k part (IsGroupIn-of s1 tree _ part (IsGroupOf-part tree e set group part inside v q))

-- ---- one of two sets

halves : (a b : Bool) → ((a && b) || (a && not b)) ≡ a
halves true true = refl
halves true false = refl
halves false b = refl

apart : (a b : Bool) → (a && b) ≡ true → (a && not b) ≡ false
apart true true h = refl
apart true false h = cc
apart false b h = refl

not_true : (b : Bool) → not b ≡ true → b ≡ false
not_true true h = cc
not_true false h = refl

-- ---- outcomes

module _ {S I : Type 0} (p : Program) {s0 s1 : Sets I} (tree later : List (Option (Caller S I))) (group : GroupView S I) (heap : HeapView S I) (e : Extends s0 s1) (h : IsHeap s0 heap) (s : StandsIn p s0 heap tree group) where
  -- those of a part, told of the whole group within the set of the part
  pub part-came : (s2 : Sets I) (set : List Bool → Bool) (part : GroupView S I) (says there : HeapView S I → List Bool → State → PlainOutcome) (outcomes : List (Outcome S I)) → ((c : List Bool) → set c ≡ true → s0.test (path_of group) c ≡ true) → IsPartOf s0 s1 set group part → ((c : List Bool) → set c ≡ true → (st : State) → there heap c st ≡ says heap c st) → GivesIn p there s1 s2 tree later part outcomes heap → CameTo p s0 s2 heap later group (λ c. says heap c (state_at s0 heap tree group c)) set outcomes
  part-came s2 set part says there outcomes inside q law gives =
      CameTo-through {before = heap} {earlier = tree} p s0 s1 s2 heap later group part (λ c. there heap c (state_at s1 heap tree part c)) (λ c. says heap c (state_at s0 heap tree group c)) set outcomes (Continues-part p tree e heap h set group part inside s q) (part_path s0 s1 set group part q) (λ c t. ap (there heap c) (state_at-part p tree e heap h set group part s q c t) ∙ law c t (state_at s0 heap tree group c)) (gives (IsHeap-extends e heap h) (StandsIn-part p tree e heap h set group part inside s q))

  -- those over the tree, told over the later one
  pub later-came : {s2 : Sets I} → Extends s1 s2 → Keeps tree later → (what : List Bool → PlainOutcome) (set : List Bool → Bool) (outcomes : List (Outcome S I)) → CameTo p s0 s1 heap tree group what set outcomes → CameTo p s0 s2 heap later group what set outcomes
  later-came f k what set outcomes came =
      let h1 = IsHeap-extends e heap h in
      CameTo-grown p f k heap heap h1 (Grows-refl heap) s0 group what set outcomes (λ c t. globals_at-extends f heap h1 c) came

  -- those of two sets that are the path
  pub both-came : (s2 : Sets I) (within : List Bool → Bool) (what : List Bool → PlainOutcome) (xs ys : List (Outcome S I)) → CameTo p s0 s2 heap later group what (λ c. s0.test (path_of group) c && within c) xs → CameTo p s0 s2 heap later group what (λ c. s0.test (path_of group) c && not (within c)) ys → CameTo p s0 s2 heap later group what (s0.test (path_of group)) (xs ++ ys)
  both-came s2 within what xs ys x y =
      let path = s0.test (path_of group) in
      let a : List Bool → Bool = λ c. path c && within c in
      let b : List Bool → Bool = λ c. path c && not (within c) in
      CameTo-same p s0 s2 heap later group what what (λ c. a c || b c) path (xs ++ ys) (λ c. halves (path c) (within c)) (λ c t. refl) (CameTo-append p s0 s2 heap later group what a b xs ys (λ c t. apart (path c) (within c) t) x y)

-- ---- groups that are divided

-- over an earlier space, by a function that comes to the same there
pub GivesIn-before : {S I : Type 0} (p : Program) {s0 s1 : Sets I} (s2 : Sets I) (tree later : List (Option (Caller S I))) (group : GroupView S I) (heap : HeapView S I) (there says : HeapView S I → List Bool → State → PlainOutcome) (outcomes : List (Outcome S I)) → Extends s0 s1 → (IsHeap s0 heap → StandsIn p s0 heap tree group → (c : List Bool) → s0.test (path_of group) c ≡ true → there heap c (state_at s0 heap tree group c) ≡ says heap c (state_at s0 heap tree group c)) → GivesIn p there s1 s2 tree later group outcomes heap → GivesIn p says s0 s2 tree later group outcomes heap
GivesIn-before p {s0 = s0} {s1 = s1} s2 tree later group heap there says outcomes e law gives h s =
    let known = IsGroup-path_known s0 group (IsGroupIn-group s0 tree group s.is_group) in
    CameTo-through {before = heap} {earlier = tree} p s0 s1 s2 heap later group group (λ c. there heap c (state_at s1 heap tree group c)) (λ c. says heap c (state_at s0 heap tree group c)) (s0.test (path_of group)) outcomes (Continues-same p tree e heap h group s) (λ c. e.test (path_of group) c known) (λ c t. ap (there heap c) (state_at-extends tree e heap h group s.is_group c) ∙ law h s c t) (gives (IsHeap-extends e heap h) (StandsIn-extends p tree e heap h group s))

-- a group that is split: the part inside may push frames, and then come the outcomes of the part outside
pub GivesIn-split : {S I : Type 0} (p : Program) {s0 s1 s2 : Sets I} (tree later : List (Option (Caller S I))) (within : List Bool → Bool) (group inner outer : GroupView S I) (says inside outside : HeapView S I → List Bool → State → PlainOutcome) (xs ys : List (Outcome S I)) (heap : HeapView S I) → Extends s0 s1 → Extends s1 s2 → Keeps tree later → IsPartOf s0 s1 (λ c. s0.test (path_of group) c && within c) group inner → IsPartOf s0 s1 (λ c. s0.test (path_of group) c && not (within c)) group outer → ((c : List Bool) → within c ≡ true → (s : State) → inside heap c s ≡ says heap c s) → ((c : List Bool) → within c ≡ false → (s : State) → outside heap c s ≡ says heap c s) → GivesIn p inside s1 s2 tree later inner xs heap → GivesAt p outside s1 s1 outer ys heap → GivesIn p says s0 s2 tree later group (xs ++ ys) heap
GivesIn-split p {s0 = s0} {s1 = s1} {s2 = s2} tree later within group inner outer says inside outside xs ys heap e f k a b first second x y h s =
    let path = s0.test (path_of group) in
    let rest : List Bool → Bool = λ c. path c && not (within c) in
    let what : List Bool → PlainOutcome = λ c. says heap c (state_at s0 heap tree group c) in
    let ended = part-came p tree tree group heap e h s s1 rest outer says outside ys (λ c t. both_first (path c) (not (within c)) t) b (λ c t. second c (not_true (within c) (both_second (path c) (not (within c)) t))) (y tree) in
    both-came p tree later group heap e h s s2 within what xs ys
    (part-came p tree later group heap e h s s2 (λ c. path c && within c) inner says inside xs (λ c t. both_first (path c) (within c) t) a (λ c t. first c (both_second (path c) (within c) t)) x)
    (later-came p tree later group heap e h s f k what rest ys ended)
