-- The runs of a group that proceed, behind those that stop, over a tree that may grow.
use Rattle.std.proofs.Common.{◌≡◌, Bool, true, false, List, ◌++◌, ◌&&◌, refl}
use Rattle.std.specs.Prelude.{Option, if◌then◌else◌, not}
use Rattle.vx_frames.specs.Giving.{GivesIn}
use Rattle.vx_frames.proofs.GivingLaws.{both-came, later-came, part-came}
use Rattle.vx_group.specs.declared.callers.Caller.{Caller}
use Rattle.vx_group.specs.Callers.{Keeps}
use Rattle.vx_group.specs.Group.{GroupView, IsPartOf, path_of}
use Rattle.vx_group_states.specs.Stands.{state_at}
use Rattle.vx_group_states.proofs.OutcomeStates.{CameTo-same}
use Rattle.vx_group_states.proofs.StateLaws.{both_first, both_second}
use Rattle.vx_heap.specs.Heap.{HeapView}
use Rattle.vx_java.specs.Machine.{State}
use Rattle.vx_java.specs.Machine.{Outcome as PlainOutcome}
use Rattle.vx_link.specs.declared.program.Program.{Program}
use Rattle.vx_outcome.specs.declared.outcome.Outcome.{Outcome}
use Rattle.vx_ready.specs.Initialising.{GivesWithin}
use Rattle.vx_ready.proofs.Splitting.{not_true}
use Rattle.vx_space.specs.Sets.{Extends, Sets}
use Rattle.vx_space.proofs.Spaces.{Extends-refl}

not_twice : (a b : Bool) → (a && b) ≡ (a && not (not b))
not_twice a true = refl
not_twice a false = refl

only_first : (a b : Bool) → (a && b) ≡ false → (a && not b) ≡ a
only_first true true h = cc
only_first true false h = refl
only_first false b h = refl

if_yes : {T : Type 0} (b : Bool) (x y : T) → b ≡ true → x ≡ (if b then x else y)
if_yes b x y h = rw h refl

if_no : {T : Type 0} (b : Bool) (x y : T) → b ≡ false → y ≡ (if b then x else y)
if_no b x y h = rw h refl

-- those that go on, behind those that stop
pub GivesIn-going : {S I : Type 0} (p : Program) {s0 s1 : Sets I} (tree later : List (Option (Caller S I))) (proceeds : List Bool → Bool) (group going : GroupView S I) (stops : HeapView S I → List Bool → State → PlainOutcome) (goes : State → PlainOutcome) (others made : List (Outcome S I)) (heap : HeapView S I) → Extends s0 s1 → Keeps tree later → IsPartOf s0 s1 (λ c. s0.test (path_of group) c && proceeds c) group going → GivesWithin p stops (λ c. s0.test (path_of group) c && not (proceeds c)) s0 s1 group others heap → GivesIn p (λ _ _. goes) s1 s1 tree later going made heap → GivesIn p (λ h c s. if proceeds c then goes s else stops h c s) s0 s1 tree later group (others ++ made) heap
GivesIn-going {S = S} {I = I} p {s0 = s0} {s1 = s1} tree later proceeds group going stops goes others made heap e k q stopped went h s =
    let path = s0.test (path_of group) in
    let says : HeapView S I → List Bool → State → PlainOutcome = λ h c st. if proceeds c then goes st else stops h c st in
    let state = state_at s0 heap tree group in
    let what : List Bool → PlainOutcome = λ c. says heap c (state c) in
    let rest : List Bool → Bool = λ c. path c && not (proceeds c) in
    let xs = CameTo-same p s0 s1 heap tree group (λ c. stops heap c (state c)) what rest rest others (λ c. refl) (λ c t. if_no (proceeds c) (goes (state c)) (stops heap c (state c)) (not_true (proceeds c) (both_second (path c) (not (proceeds c)) t))) (stopped tree h s) in
    let ys = part-came p tree later group heap e h s s1 (λ c. path c && proceeds c) going says (λ _ _. goes) made (λ c t. both_first (path c) (proceeds c) t) q (λ c t st. if_yes (proceeds c) (goes st) (stops heap c st) (both_second (path c) (proceeds c) t)) went in
    both-came p tree later group heap e h s s1 (λ c. not (proceeds c)) what others made
    (later-came p tree later group heap e h s (Extends-refl s1) k what rest others xs)
    (CameTo-same p s0 s1 heap later group what what (λ c. path c && proceeds c) (λ c. path c && not (not (proceeds c))) made (λ c. not_twice (path c) (proceeds c)) (λ c t. refl) ys)

-- all stop
pub GivesIn-stopped : {S I : Type 0} (p : Program) (s0 s1 : Sets I) (tree : List (Option (Caller S I))) (proceeds : List Bool → Bool) (group : GroupView S I) (stops : HeapView S I → List Bool → State → PlainOutcome) (goes : State → PlainOutcome) (others : List (Outcome S I)) (heap : HeapView S I) → ((c : List Bool) → (s0.test (path_of group) c && proceeds c) ≡ false) → GivesWithin p stops (λ c. s0.test (path_of group) c && not (proceeds c)) s0 s1 group others heap → GivesIn p (λ h c s. if proceeds c then goes s else stops h c s) s0 s1 tree tree group others heap
GivesIn-stopped p s0 s1 tree proceeds group stops goes others heap none stopped h s =
    let path = s0.test (path_of group) in
    let state = state_at s0 heap tree group in
    let rest : List Bool → Bool = λ c. path c && not (proceeds c) in
    CameTo-same p s0 s1 heap tree group (λ c. stops heap c (state c)) (λ c. if proceeds c then goes (state c) else stops heap c (state c)) rest path others (λ c. only_first (path c) (proceeds c) (none c)) (λ c t. if_no (proceeds c) (goes (state c)) (stops heap c (state c)) (not_true (proceeds c) (both_second (path c) (not (proceeds c)) t))) (stopped tree h s)
