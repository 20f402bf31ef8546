-- The part of a group that goes on, beside the outcomes of those that stop.
use Rattle.std.proofs.Common.{◌≡◌, ◌+◌, Bool, true, false, List, ◌++◌, ◌&&◌, ◌||◌, refl, ap, length}
use Rattle.std.specs.Prelude.{if◌then◌else◌, not}
use Rattle.vx_frame.specs.Frame.{Shape}
use Rattle.vx_frame.proofs.FrameLaws.{frame_at-extends}
use Rattle.vx_group.specs.Group.{GroupView, IsGroup, IsPartOf, path_of}
use Rattle.vx_group.proofs.GroupLaws.{IsGroup-top}
use Rattle.vx_heap.specs.Heap.{HeapView}
use Rattle.vx_heap.proofs.HeapLaws.{IsHeap-extends}
use Rattle.vx_java.specs.Machine.{State, go}
use Rattle.vx_java.specs.Machine.{Outcome as PlainOutcome}
use Rattle.vx_link.specs.declared.program.Program.{Program}
use Rattle.vx_outcome.specs.declared.outcome.Outcome.{Outcome}
use Rattle.vx_outcome.specs.declared.outcome.Outcome.TheVariants as shared
use Rattle.vx_space.specs.Sets.{Extends, Sets}
use Rattle.vx_group_states.specs.Answering.{operands_at}
use Rattle.vx_group_states.specs.Sites.{GivesAt}
use Rattle.vx_group_states.specs.Stands.{CameTo, state_at}
use Rattle.vx_group_states.proofs.OutcomeStates.{CameTo-append, CameTo-extends, CameTo-same}
use Rattle.vx_group_states.proofs.StateLaws.{both_first, both_second}
use Rattle.vx_ready.specs.Initialising.{GivesWithin}
use Rattle.vx_ready.proofs.Splitting.{GivesWithin-part}

-- the operands of a group over a later space
pub operands_later : {S I : Type 0} {s0 s1 : Sets I} → Extends s0 s1 → (group : GroupView S I) → IsGroup s0 group → (c : List Bool) → operands_at s1 group.top.stack c ≡ operands_at s0 group.top.stack c
operands_later e group v c = λ i. (frame_at-extends e group.top (IsGroup-top _ group v) c i).operands

-- ---- those that go on behind those that stop

if_yes : {T : Type 0} (b : Bool) (x y : T) → b ≡ true → x ≡ (if b then x else y)
if_yes b x y h = rw h refl

if_no : {T : Type 0} (b : Bool) (x y : T) → (a : Bool) → (a && not b) ≡ true → y ≡ (if b then x else y)
if_no true x y true h = cc
if_no true x y false h = cc
if_no false x y a h = refl

either : (a b : Bool) → ((a && not b) || (a && b)) ≡ a
either true true = refl
either true false = refl
either false b = refl

apart : (a b : Bool) → (a && not b) ≡ true → (a && b) ≡ false
apart true true h = cc
apart true false h = refl
apart false b h = refl

pub going-gives : {S I : Type 0} (p : Program) {s0 s1 s2 : Sets I} (proceeds : List Bool → Bool) (group going : GroupView S I) (stops goes : HeapView S I → List Bool → State → PlainOutcome) (others made : List (Outcome S I)) (heap : HeapView S I) → Extends s0 s1 → IsPartOf s0 s1 (λ c. s0.test (path_of group) c && proceeds c) group going → GivesWithin p stops (λ c. s0.test (path_of group) c && not (proceeds c)) s0 s1 group others heap → Extends s1 s2 → GivesAt p goes s1 s2 going made heap → GivesAt p (λ h c s. if proceeds c then goes h c s else stops h c s) s0 s2 group (others ++ made) heap
going-gives {S = S} {I = I} p {s0 = s0} {s1 = s1} {s2 = s2} proceeds group going stops goes others made heap e q stopped f went tree h s =
    let path = s0.test (path_of group) in
    let a : List Bool → Bool = λ c. path c && not (proceeds c) in
    let b : List Bool → Bool = λ c. path c && proceeds c in
    let says : HeapView S I → List Bool → State → PlainOutcome = λ h c s. if proceeds c then goes h c s else stops h c s in
    let what : List Bool → PlainOutcome = λ c. says heap c (state_at s0 heap tree group c) in
    let later = IsHeap-extends e heap h in
    let xs = CameTo-extends p s0 tree f heap later group what a others (CameTo-same p s0 s1 heap tree group (λ c. stops heap c (state_at s0 heap tree group c)) what a a others (λ c. refl) (λ c t. if_no (proceeds c) (goes heap c (state_at s0 heap tree group c)) (stops heap c (state_at s0 heap tree group c)) (path c) t) (stopped tree h s)) in
    let ys = GivesWithin-part p b group going says goes made heap e (λ c t. both_first (path c) (proceeds c) t) q (λ c t s. if_yes (proceeds c) (goes heap c s) (stops heap c s) (both_second (path c) (proceeds c) t)) went tree h s in
    CameTo-same p s0 s2 heap tree group what what (λ c. a c || b c) path (others ++ made) (λ c. either (path c) (proceeds c)) (λ c t. refl) (CameTo-append p s0 s2 heap tree group what a b others made (λ c t. apart (path c) (proceeds c) t) xs ys)

-- a part has as many operands as the group
pub part_operands : {S I : Type 0} (s0 s1 : Sets I) (set : List Bool → Bool) (group part : GroupView S I) → IsPartOf s0 s1 set group part → length part.top.stack.conds ≡ length group.top.stack.conds
unfolding IsPartOf
part_operands s0 s1 set group part q = ap (λ (s : Shape). s.part.depth) q.shape
