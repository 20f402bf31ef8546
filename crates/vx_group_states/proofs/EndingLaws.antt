-- Groups that come to one outcome as a whole, and what they come to told of an earlier space.
use Rattle.std.proofs.Common.{◌≡◌, ℕ, ◌+◌, ◌<◌, ◌^◌, Bool, true, List, [], ◌∷◌, ◌++◌, refl, sym, ◌∙◌, ap, subst}
use Rattle.std.specs.Prelude.{Option}
use Rattle.vx_space.specs.Sets.{Sets, Extends}
use Rattle.vx_space.proofs.Spaces.{Extends-refl}
use Rattle.vx_frame.specs.Frame.{Shape, frame_at}
use Rattle.vx_frame.proofs.FrameLaws.{IsFrame-one_scope, IsFrame-stack}
use Rattle.vx_group.specs.declared.callers.Caller.{Caller}
use Rattle.vx_group.specs.Group.{GroupView, IsPartOf, path_of}
use Rattle.vx_group.proofs.GroupLaws.{IsGroupIn-group, IsGroup-one_scope, IsGroup-path_known, IsGroup-top}
use Rattle.vx_heap.specs.Heap.{HeapView, IsHeap}
use Rattle.vx_java.specs.Machine.{State, at_position, illegal_in, place_at}
use Rattle.vx_java.specs.Machine.{Outcome as PlainOutcome, Ended, Go}
use Rattle.vx_link.specs.declared.program.Program.{Program}
use Rattle.vx_outcome.specs.declared.outcome.Outcome.{Outcome}
use Rattle.vx_outcome.specs.declared.outcome.Outcome.TheVariants as shared
use Rattle.vx_value.specs.declared.end.End.TheVariants.{Illegal}
use Rattle.vx_group_states.specs.Stands.{CameTo, StandsIn, state_at}
use Rattle.vx_group_states.specs.Sites.{Gives, GivesAt, HasPast}
use Rattle.vx_group_states.specs.declared.site.Site.{Site}
use Rattle.vx_heap.proofs.HeapLaws.{IsHeap-extends}
use Rattle.vx_group_states.proofs.StateLaws.{Continues-moved, Continues-same, StandsIn-extends, operands_held, state_at-extends, state_at-moved}
use Rattle.vx_group_states.proofs.OutcomeStates.{CameTo-one, CameTo-through}

pub illegal-gives : {S I : Type 0} (p : Program) (sets : Sets I) (group : GroupView S I) (condition : I) (place : List ℕ) (start items : List (Outcome S I)) → condition ≡ path_of group → place ≡ place_at p group.top.method.0 group.top.position → start ≡ [] → items ≡ start ++ shared.Ended condition (Illegal place) ∷ [] → Gives p (illegal_in p) sets sets group items
illegal-gives {S = S} {I = I} p sets group condition place start items same e none made heap tree h s =
    let what : List Bool → PlainOutcome = λ c. illegal_in p (state_at sets heap tree group c) in
    let P : List (Outcome S I) → Type 0 = λ xs. CameTo p sets sets heap tree group what (sets.test (path_of group)) xs in
    let end : items ≡ shared.Ended (path_of group) (Illegal place) ∷ [] = made ∙ (λ i. none i ++ shared.Ended (same i) (Illegal place) ∷ []) in
    subst P (sym end) (CameTo-one p sets sets heap tree group what (sets.test (path_of group)) (shared.Ended (path_of group) (Illegal place)) (IsGroup-path_known sets group (IsGroupIn-group sets tree group s.is_group)) (λ c. refl) (λ c t. ap (λ text. Ended (Illegal text)) e))

-- a group that goes to a position as it stands
pub moved-gives : {S I : Type 0} (p : Program) (sets : Sets I) (group : GroupView S I) (position : ℕ) (items : List (Outcome S I)) → items ≡ shared.Go (record group { top = record (group.top) { position = position } }) ∷ [] → Gives p (λ s. Go (at_position s position s.top.operands)) sets sets group items
moved-gives {S = S} {I = I} p sets group position items made heap tree h s =
    let alone = IsGroupIn-group sets tree group s.is_group in
    let top = IsGroup-top sets group alone in
    let what : List Bool → PlainOutcome = λ c. Go (at_position (state_at sets heap tree group c) position (state_at sets heap tree group c).top.operands) in
    let P : List (Outcome S I) → Type 0 = λ xs. CameTo p sets sets heap tree group what (sets.test (path_of group)) xs in
    let continues = Continues-moved p tree (Extends-refl sets) heap h group group.top.stack position (λ c. (frame_at sets group.top c).operands) s (IsFrame-stack sets group.top top) (IsFrame-one_scope sets group.top top ∙ IsGroup-one_scope sets group alone) (λ c t. refl) (operands_held p sets heap tree group s) in
    subst P (sym made) (CameTo-one p sets sets heap tree group what (sets.test (path_of group)) (shared.Go (record group { top = record (group.top) { position = position } })) continues (λ c. refl) (λ c t. ap Go (state_at-moved p tree (Extends-refl sets) heap h group group.top.stack position s c (frame_at sets group.top c).operands refl)))

-- told of an earlier space
pub GivesAt-before : {S I : Type 0} (p : Program) {s0 s1 : Sets I} (s2 : Sets I) (group : GroupView S I) (heap : HeapView S I) (there says : HeapView S I → List Bool → State → PlainOutcome) (outcomes : List (Outcome S I)) → Extends s0 s1 → ((tree : List (Option (Caller S I))) → IsHeap s0 heap → StandsIn p s0 heap tree group → (c : List Bool) → s0.test (path_of group) c ≡ true → there heap c (state_at s0 heap tree group c) ≡ says heap c (state_at s0 heap tree group c)) → GivesAt p there s1 s2 group outcomes heap → GivesAt p says s0 s2 group outcomes heap
GivesAt-before p {s0 = s0} {s1 = s1} s2 group heap there says outcomes e law gives tree h s =
    let later = StandsIn-extends p tree e heap h group s in
    let known = IsGroup-path_known s0 group (IsGroupIn-group s0 tree group s.is_group) in
    CameTo-through p s0 s1 s2 heap tree group group (λ c. there heap c (state_at s1 heap tree group c)) (λ c. says heap c (state_at s0 heap tree group c)) (s0.test (path_of group)) outcomes (Continues-same p tree e heap h group s) (λ c. e.test (path_of group) c known) (λ c t. ap (there heap c) (state_at-extends tree e heap h group s.is_group c) ∙ law tree h s c t) (gives tree (IsHeap-extends e heap h) later)

-- a part stands at the same instruction
pub HasPast-part : {S I : Type 0} (site : Site) (old new : Sets I) (set : List Bool → Bool) (group part : GroupView S I) → IsPartOf old new set group part → HasPast site group → HasPast site part
unfolding IsPartOf
HasPast-part site old new set group part q h = let P : ℕ → Type 0 = λ n. n + site.size < 2 ^ 32 in subst P (sym (ap (λ (s : Shape). s.part.position) q.shape)) h
