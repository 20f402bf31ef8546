-- The tree that a sweep leaves: the groups that stood in the tree stand in it, and its ids are known.
use Rattle.std.proofs.Common.{◌≡◌, ℕ, ◌<◌, Bool, List, [], ◌∷◌, refl, sym, ◌∙◌, ap, subst, length, get_or, map, zero, suc, arith}
use Rattle.std.specs.Prelude.{Contains, ◌&&◌, Option, Some, None, if◌then◌else◌, option_map}
use Rattle.std.specs.List.{list_all}
use Rattle.vx_space.specs.Sets.{Sets, AreKnown}
use Rattle.vx_frame.specs.Frame.{IsFrame, Shape, frame_ids, part_of, shape_of}
use Rattle.vx_group.specs.declared.callers.Caller.{Caller}
use Rattle.vx_group.specs.Callers.{AreCallers, callers_of, frames_at, node_at, tree_ids}
use Rattle.vx_group.specs.Group.{GroupView, IsGroupIn, PlainGroup, attempts_at, group_at, path_of, stack_of}
use Rattle.vx_group.specs.Sweep.{IsSwept, Reaches, StandIn, first, further}
use Rattle.vx_group.proofs.CallerLaws.{AreCallers-nodes, callers_of-node}
use Rattle.vx_group.proofs.GroupLaws.{IsGroupIn-callers}
use Rattle.vx_heap.specs.Heap.{HeapView}
use Rattle.vx_heap.proofs.Known.{AreKnown-append}
use Rattle.vx_link.specs.declared.program.Program.{Program}
use Rattle.vx_sched.specs.Groups as sched
use Rattle.vx_group_states.specs.Stands.{is_shaped}
use Rattle.vx_standing.specs.Waiting.{AreWaiting, IsGood, waiting_at}
use Rattle.vx_standing.proofs.Keeping.{frame_known}
use Rattle.vx_standing.proofs.Waiting.{run_by, waiting_at-standing}

-- ---- what a caller reaches

reaches_down : {S I : Type 0} (tree : List (Option (Caller S I))) (m : ℕ) (node : Caller S I) → node_at tree m ≡ Some node → (n : ℕ) → Reaches tree node.caller n → Reaches tree (Some m) n
reaches_down tree m node h n (first _ e) = further m node n (first m refl) h e
reaches_down tree m node h n (further k next _ r q e) = further k next n (reaches_down tree m node h k r) q e

-- the later tree has each node that a caller reaches
abbrev pub KeepsReached : {S I : Type 0} → (old new : List (Option (Caller S I))) → Option ℕ → Type 0
KeepsReached old new caller = (n : ℕ) → Reaches old caller n → node_at new n ≡ node_at old n

below_kept : {S I : Type 0} (old new : List (Option (Caller S I))) (m : ℕ) (node : Caller S I) → node_at old m ≡ Some node → KeepsReached old new (Some m) → KeepsReached old new node.caller
below_kept old new m node h k = λ n r. k n (reaches_down old m node h n r)

callers_swept : {S I : Type 0} (sets : Sets I) (old new : List (Option (Caller S I))) (path : I) (depth : ℕ) (caller : Option ℕ) → KeepsReached old new caller → AreCallers sets old path depth caller → AreCallers sets new path depth caller
callers_swept sets old new path zero caller k h = h
callers_swept sets old new path (suc depth) None k h = cc (h.1)
callers_swept sets old new path (suc depth) (Some m) k h = (h.0, k m (first m refl) ∙ h.1, h.2, callers_swept sets old new path depth h.0.caller (below_kept old new m h.0 h.1 k) h.3)

frames_swept : {S I : Type 0} (sets : Sets I) (old new : List (Option (Caller S I))) (path : I) (depth : ℕ) (caller : Option ℕ) → KeepsReached old new caller → AreCallers sets old path depth caller → callers_of new depth caller ≡ callers_of old depth caller
frames_swept sets old new path zero caller k h = refl
frames_swept sets old new path (suc depth) None k h = cc (h.1)
frames_swept sets old new path (suc depth) (Some m) k h =
    callers_of-node new depth (Some m) h.0 (k m (first m refl) ∙ h.1)
    ∙ ap (λ fs. h.0.frame ∷ fs) (frames_swept sets old new path depth h.0.caller (below_kept old new m h.0 h.1 k) h.3)
    ∙ sym (callers_of-node old depth (Some m) h.0 h.1)

-- ---- a group

IsGroupIn-swept : {S I : Type 0} (sets : Sets I) (old new : List (Option (Caller S I))) (group : GroupView S I) → KeepsReached old new group.caller → IsGroupIn sets old group → IsGroupIn sets new group
unfolding IsGroupIn
IsGroupIn-swept sets old new group k v = record {
  is_group = v.is_group;
  callers = callers_swept sets old new (path_of group) (length group.below) group.caller k v.callers;
  parts = ap (map part_of) (frames_swept sets old new (path_of group) (length group.below) group.caller k v.callers) ∙ v.parts;
}

stack_swept : {S I : Type 0} (sets : Sets I) (old new : List (Option (Caller S I))) (group : GroupView S I) → KeepsReached old new group.caller → IsGroupIn sets old group → stack_of new group ≡ stack_of old group
stack_swept sets old new group k v =
    let callers = frames_swept sets old new (path_of group) (length group.below) group.caller k (IsGroupIn-callers sets old group v) in
    λ i. group.top ∷ callers i

group_swept : {S I : Type 0} (sets : Sets I) (old new : List (Option (Caller S I))) (group : GroupView S I) → KeepsReached old new group.caller → IsGroupIn sets old group → (c : List Bool) → group_at sets new group c ≡ group_at sets old group c
group_swept sets old new group k v c =
    let stack = stack_swept sets old new group k v in
    λ i. record { frames = frames_at sets (stack i) c; attempts = attempts_at sets group c }

-- ---- the groups of a list

-- the later tree has each node that some group reaches
abbrev pub AllKept : {S I : Type 0} → (old new : List (Option (Caller S I))) → List (GroupView S I) → Type 0
AllKept old new [] = Unit {0}
AllKept old new (group ∷ groups) = KeepsReached old new group.caller × AllKept old new groups

pub all_reached : {S I : Type 0} (old new : List (Option (Caller S I))) (groups : List (GroupView S I)) → IsSwept old new groups → AllKept old new groups
all_reached {S = S} {I = I} old new groups w = each groups (λ k g l e. (k, l, e))
  where
    each : (some : List (GroupView S I)) → ((k : ℕ) (g : GroupView S I) → k < length some → get_or some k g ≡ g → Contains groups g) → AllKept old new some
    each [] h = tt
    each (g ∷ some) h = (λ n r. w.kept n (record { group = g; among = h 0 g (omega arith) refl; reaches = r }), each some (λ k x l e. h (suc k) x (omega (arith, l)) e))

AreGroups-swept : {S I : Type 0} (sets : Sets I) (old new : List (Option (Caller S I))) (groups : List (GroupView S I)) → AllKept old new groups → sched.AreGroups sets old groups → sched.AreGroups sets new groups
AreGroups-swept sets old new [] k a = tt
AreGroups-swept sets old new (group ∷ groups) k a = (
  record {
    is_group = IsGroupIn-swept sets old new group k.0 a.0.is_group;
    nonempty = a.0.nonempty;
    apart = a.0.apart;
    fresh = a.0.fresh;
  },
  AreGroups-swept sets old new groups k.1 a.1,
)

shaped_swept : {S I : Type 0} (test : List Shape → Bool) (sets : Sets I) (old new : List (Option (Caller S I))) (groups : List (GroupView S I)) → AllKept old new groups → sched.AreGroups sets old groups → sched.are_shaped test new groups ≡ sched.are_shaped test old groups
shaped_swept test sets old new [] k a = refl
shaped_swept test sets old new (group ∷ groups) k a =
    let stack = stack_swept sets old new group k.0 a.0.is_group in
    let rest = shaped_swept test sets old new groups k.1 a.1 in
    λ i. test (map shape_of (stack i)) && rest i

standing_swept : {S I : Type 0} (sets : Sets I) (old new : List (Option (Caller S I))) (groups : List (GroupView S I)) → AllKept old new groups → sched.AreGroups sets old groups → (c : List Bool) → sched.standing_at sets new groups c ≡ sched.standing_at sets old groups c
standing_swept sets old new [] k a c = refl
standing_swept sets old new (group ∷ groups) k a c =
    let here = group_swept sets old new group k.0 a.0.is_group c in
    let rest = standing_swept sets old new groups k.1 a.1 c in
    λ i. if sets.test (path_of group) c then Some (here i) else rest i

pub waiting_at-swept : {S I : Type 0} (sets : Sets I) (heap : HeapView S I) (old new : List (Option (Caller S I))) (groups : List (GroupView S I)) → AllKept old new groups → sched.AreGroups sets old groups → (c : List Bool) → waiting_at sets heap new groups c ≡ waiting_at sets heap old groups c
waiting_at-swept sets heap old new groups k a c =
    waiting_at-standing sets heap new groups c
    ∙ ap (λ o. option_map (run_by sets heap c) o) (standing_swept sets old new groups k a c)
    ∙ sym (waiting_at-standing sets heap old groups c)

pub AreWaiting-swept : {S I : Type 0} (p : Program) (sets : Sets I) (heap : HeapView S I) (old new : List (Option (Caller S I))) (limit : ℕ) (groups : List (GroupView S I)) → AllKept old new groups → AreWaiting p sets heap old limit groups → AreWaiting p sets heap new limit groups
AreWaiting-swept p sets heap old new limit groups k w = record {
  are_groups = AreGroups-swept sets old new groups k w.are_groups;
  shaped = shaped_swept (list_all (is_shaped p)) sets old new groups k w.are_groups ∙ w.shaped;
  good = λ c. let P : Option PlainGroup → Type 0 = λ o. IsGood sets heap limit c o in
      subst P (sym (standing_swept sets old new groups k w.are_groups c)) (w.good c);
}

-- ---- the nodes

pub nodes_of : {S I : Type 0} (sets : Sets I) (tree : List (Option (Caller S I))) (groups : List (GroupView S I)) → sched.AreGroups sets tree groups → StandIn tree groups
nodes_of sets tree [] a = tt
nodes_of sets tree (group ∷ groups) a = (AreCallers-nodes sets tree (path_of group) (length group.below) group.caller (IsGroupIn-callers sets tree group a.0.is_group), nodes_of sets tree groups a.1)

one_node : {S I : Type 0} (o : Option (Caller S I)) (x y : Caller S I) → o ≡ Some x → o ≡ Some y → x ≡ y
one_node o x y h k = cc (h, k)

-- the frames from a node that is reached down
callers_from : {S I : Type 0} (sets : Sets I) (tree : List (Option (Caller S I))) (path : I) (depth : ℕ) (caller : Option ℕ) → AreCallers sets tree path depth caller → (n : ℕ) → Reaches tree caller n → (left : ℕ) × AreCallers sets tree path left (Some n)
callers_from sets tree path depth caller h n (first _ e) = (depth, let P : Option ℕ → Type 0 = λ o. AreCallers sets tree path depth o in subst P e h)
callers_from {S = S} {I = I} sets tree path depth caller h n (further k node _ r e f) =
    let above = callers_from sets tree path depth caller h k r in
    down above.0 above.1
  where
    down : (left : ℕ) → AreCallers sets tree path left (Some k) → (less : ℕ) × AreCallers sets tree path less (Some n)
    down zero a = cc a
    down (suc left) a =
        let P : Option ℕ → Type 0 = λ o. AreCallers sets tree path left o in
        (left, subst P (ap (λ (x : Caller S I). x.caller) (one_node (node_at tree k) a.0 node a.1 e) ∙ f) a.3)

frame_reached : {S I : Type 0} (sets : Sets I) (tree : List (Option (Caller S I))) (path : I) (depth : ℕ) (caller : Option ℕ) → AreCallers sets tree path depth caller → (n : ℕ) → Reaches tree caller n → (node : Caller S I) → node_at tree n ≡ Some node → IsFrame sets node.frame
frame_reached {S = S} {I = I} sets tree path depth caller h n r node e =
    let from = callers_from sets tree path depth caller h n r in
    here from.0 from.1
  where
    here : (left : ℕ) → AreCallers sets tree path left (Some n) → IsFrame sets node.frame
    here zero a = cc a
    here (suc left) a = subst (λ (x : Caller S I). IsFrame sets x.frame) (one_node (node_at tree n) a.0 node a.1 e) a.2.is_frame

group_among : {S I : Type 0} (sets : Sets I) (tree : List (Option (Caller S I))) (groups : List (GroupView S I)) (k : ℕ) (group : GroupView S I) → sched.AreGroups sets tree groups → k < length groups → get_or groups k group ≡ group → IsGroupIn sets tree group
group_among sets tree [] k group a l e = absurd (omega (arith, l))
group_among {S = S} {I = I} sets tree (g ∷ groups) zero group a l e = subst (λ (x : GroupView S I). IsGroupIn sets tree x) e a.0.is_group
group_among sets tree (g ∷ groups) (suc k) group a l e = group_among sets tree groups k group a.1 (omega (arith, l)) e

nodes_known : {S I : Type 0} (sets : Sets I) (tree : List (Option (Caller S I))) → ((n : ℕ) (node : Caller S I) → node_at tree n ≡ Some node → AreKnown sets (frame_ids node.frame)) → AreKnown sets (tree_ids tree)
nodes_known sets [] h = tt
nodes_known sets (None ∷ tree) h = nodes_known sets tree (λ n node e. h (suc n) node e)
nodes_known sets (Some node ∷ tree) h = AreKnown-append sets (frame_ids node.frame) (tree_ids tree) (h 0 node refl) (nodes_known sets tree (λ n x e. h (suc n) x e))

pub swept_known : {S I : Type 0} (sets : Sets I) (old new : List (Option (Caller S I))) (groups : List (GroupView S I)) → sched.AreGroups sets old groups → IsSwept old new groups → AreKnown sets (tree_ids new)
swept_known sets old new groups a w = nodes_known sets new (λ n node e.
    let there = w.dropped n node e in
    let r = there.0 in
    let callers = IsGroupIn-callers sets old r.group (group_among sets old groups r.among.0 r.group a r.among.1 r.among.2) in
    frame_known sets node.frame (frame_reached sets old (path_of r.group) (length r.group.below) r.group.caller callers n r.reaches node there.1))
