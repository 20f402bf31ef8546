-- A group that is split in two, and the outcomes of its parts.
use Rattle.std.proofs.Common.{◌≡◌, Bool, true, false, List, [], ◌∷◌, ◌++◌, ◌&&◌, ◌||◌, refl, sym, ◌∙◌, ap, subst}
use Rattle.std.specs.Prelude.{not}
use Rattle.vx_group.specs.Group.{GroupView, IsPartOf, path_of}
use Rattle.vx_heap.specs.Heap.{HeapView}
use Rattle.vx_heap.proofs.HeapLaws.{IsHeap-extends}
use Rattle.vx_java.specs.Machine.{Begin, State}
use Rattle.vx_java.specs.Machine.{Outcome as PlainOutcome}
use Rattle.vx_link.specs.declared.program.Program.{Program}
use Rattle.vx_outcome.specs.declared.outcome.Outcome.{Outcome}
use Rattle.vx_outcome.specs.declared.outcome.Outcome.TheVariants as shared
use Rattle.vx_space.specs.Sets.{Extends, IsLawful, Sets}
use Rattle.vx_space.proofs.Spaces.{Extends-refl}
use Rattle.vx_group_states.specs.Sites.{Gives, GivesAt}
use Rattle.vx_group_states.specs.Stands.{CameTo, state_at}
use Rattle.vx_group_states.proofs.Gathering.{CameTo-part}
use Rattle.vx_group_states.proofs.OutcomeStates.{CameTo-append, CameTo-extends, CameTo-none, CameTo-one, CameTo-same}
use Rattle.vx_group_states.proofs.StateLaws.{Continues-same, StandsIn-part, both_first, both_second}
use Rattle.vx_value.specs.declared.ids.ClassId.{ClassId}
use Rattle.vx_ready.specs.Initialising.{GivesWithin}

-- no configurations come to nothing
pub none-gives : {S I : Type 0} (p : Program) {sets : Sets I} → IsLawful sets → (says : State → PlainOutcome) (group : GroupView S I) (path : I) (outcomes : List (Outcome S I)) → path ≡ path_of group → path ≡ sets.never → outcomes ≡ [] → Gives p says sets sets group outcomes
none-gives {S = S} {I = I} p {sets = sets} lawful says group path outcomes e n made heap tree h s =
    let P : List (Outcome S I) → Type 0 = λ xs. CameTo p sets sets heap tree group (λ c. says (state_at sets heap tree group c)) (sets.test (path_of group)) xs in
    subst P (sym made) (CameTo-none p sets sets heap tree group _ (sets.test (path_of group)) (λ c. ap (λ i. sets.test i c) (sym e ∙ n) ∙ lawful.never_test c))

pub begun-gives : {S I : Type 0} (p : Program) (sets : Sets I) (group : GroupView S I) (class : ClassId) (start outcomes : List (Outcome S I)) → start ≡ [] → outcomes ≡ start ++ shared.Begin group class ∷ [] → Gives p (λ s. Begin class.0 s) sets sets group outcomes
begun-gives {S = S} {I = I} p sets group class start outcomes none made heap tree h s =
    let P : List (Outcome S I) → Type 0 = λ xs. CameTo p sets sets heap tree group (λ c. Begin class.0 (state_at sets heap tree group c)) (sets.test (path_of group)) xs in
    subst P (sym (made ∙ (λ i. none i ++ shared.Begin group class ∷ []))) (CameTo-one p sets sets heap tree group _ (sets.test (path_of group)) (shared.Begin group class) (Continues-same p tree (Extends-refl sets) heap h group s) (λ c. refl) (λ c t. refl))

-- over a later space
pub GivesAt-later : {S I : Type 0} (p : Program) (s0 : Sets I) {s1 s2 : Sets I} (says : HeapView S I → List Bool → State → PlainOutcome) (group : GroupView S I) (outcomes : List (Outcome S I)) (heap : HeapView S I) → Extends s0 s1 → Extends s1 s2 → GivesAt p says s0 s1 group outcomes heap → GivesAt p says s0 s2 group outcomes heap
GivesAt-later p s0 says group outcomes heap e f gives tree h s = CameTo-extends p s0 tree f heap (IsHeap-extends e heap h) group _ (s0.test (path_of group)) outcomes (gives tree h s)

pub not_true : (b : Bool) → not b ≡ true → b ≡ false
not_true true h = cc
not_true false h = refl

apart : (a b : Bool) → (a && b) ≡ true → (a && not b) ≡ false
apart true true h = refl
apart true false h = cc
apart false b h = refl

together : (a b : Bool) → ((a && b) || (a && not b)) ≡ a
together true true = refl
together true false = refl
together false b = refl

-- the outcomes of one part, told of the whole group within the set of the part
pub GivesWithin-part : {S I : Type 0} (p : Program) {s0 s1 s2 : Sets I} (set : List Bool → Bool) (group part : GroupView S I) (says there : HeapView S I → List Bool → State → PlainOutcome) (outcomes : List (Outcome S I)) (heap : HeapView S I) → Extends s0 s1 → ((c : List Bool) → set c ≡ true → s0.test (path_of group) c ≡ true) → IsPartOf s0 s1 set group part → ((c : List Bool) → set c ≡ true → (s : State) → there heap c s ≡ says heap c s) → GivesAt p there s1 s2 part outcomes heap → GivesWithin p says set s0 s2 group outcomes heap
GivesWithin-part p {s0 = s0} {s1 = s1} {s2 = s2} set group part says there outcomes heap e inside q law gives tree h s =
    CameTo-part p s2 heap tree group part set (says heap) (there heap) outcomes e h s inside q law (gives tree (IsHeap-extends e heap h) (StandsIn-part p tree e heap h set group part inside s q))

-- the outcomes of two sets of configurations that are the path
pub GivesAt-both : {S I : Type 0} (p : Program) (s0 s1 : Sets I) (within : List Bool → Bool) (group : GroupView S I) (says : HeapView S I → List Bool → State → PlainOutcome) (xs ys : List (Outcome S I)) (heap : HeapView S I) → GivesWithin p says (λ c. s0.test (path_of group) c && within c) s0 s1 group xs heap → GivesWithin p says (λ c. s0.test (path_of group) c && not (within c)) s0 s1 group ys heap → GivesAt p says s0 s1 group (xs ++ ys) heap
GivesAt-both p s0 s1 within group says xs ys heap inner outer tree h s =
    let what : List Bool → PlainOutcome = λ c. says heap c (state_at s0 heap tree group c) in
    let a : List Bool → Bool = λ c. s0.test (path_of group) c && within c in
    let b : List Bool → Bool = λ c. s0.test (path_of group) c && not (within c) in
    CameTo-same p s0 s1 heap tree group what what (λ c. a c || b c) (s0.test (path_of group)) (xs ++ ys) (λ c. together (s0.test (path_of group) c) (within c)) (λ c t. refl) (CameTo-append p s0 s1 heap tree group what a b xs ys (λ c t. apart (s0.test (path_of group) c) (within c) t) (inner tree h s) (outer tree h s))

-- a group that is split, the outcomes of the part inside first
pub split-gives : {S I : Type 0} (p : Program) {s0 s1 s2 : Sets I} (within : List Bool → Bool) (group inner outer : GroupView S I) (says inside outside : HeapView S I → List Bool → State → PlainOutcome) (xs ys : List (Outcome S I)) (heap : HeapView S I) → Extends s0 s1 → IsPartOf s0 s1 (λ c. s0.test (path_of group) c && within c) group inner → IsPartOf s0 s1 (λ c. s0.test (path_of group) c && not (within c)) group outer → ((c : List Bool) → within c ≡ true → (s : State) → inside heap c s ≡ says heap c s) → ((c : List Bool) → within c ≡ false → (s : State) → outside heap c s ≡ says heap c s) → GivesAt p inside s1 s2 inner xs heap → GivesAt p outside s1 s2 outer ys heap → GivesAt p says s0 s2 group (xs ++ ys) heap
split-gives p {s0 = s0} {s1 = s1} {s2 = s2} within group inner outer says inside outside xs ys heap e a b f g x y =
    GivesAt-both p s0 s2 within group says xs ys heap
    (GivesWithin-part p _ group inner says inside xs heap e (λ c t. both_first (s0.test (path_of group) c) (within c) t) a (λ c t. f c (both_second (s0.test (path_of group) c) (within c) t)) x)
    (GivesWithin-part p _ group outer says outside ys heap e (λ c t. both_first (s0.test (path_of group) c) (not (within c)) t) b (λ c t. g c (not_true (within c) (both_second (s0.test (path_of group) c) (not (within c)) t))) y)
