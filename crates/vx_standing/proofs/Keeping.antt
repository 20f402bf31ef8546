-- A state over a later space in which its ids are kept: it is a state still, and the same stands in it.
use Rattle.std.proofs.Common.{◌≡◌, ℕ, Bool, true, false, List, [], ◌∷◌, ◌++◌, refl, sym, ◌∙◌, ap, subst, map}
use Rattle.std.specs.Prelude.{◌&&◌, Option, Some, None, if◌then◌else◌, is_some, option_map, sum}
use Rattle.std.specs.List.{flat_map}
use Rattle.std.specs.Ordering.{nat_cmp}
use Rattle.std.specs.declared.cmp.Ordering.{Ordering}
use Rattle.vx_space.specs.Sets.{Sets, AreKept, AreKnown}
use Rattle.vx_cond.specs.Cond.{cond_ids}
use Rattle.vx_cond.specs.Row.{row_ids}
use Rattle.vx_cond.specs.Keeping.{AreKept-append_left, AreKept-append_right}
use Rattle.vx_cond.specs.Leaves.{AreLeaves, value_at}
use Rattle.vx_cond.proofs.RowLaws.{AreLeaves-kept}
use Rattle.vx_frame.specs.declared.frame.Frame.{Frame}
use Rattle.vx_frame.specs.Frame.{IsFrame, PlainFrame, frame_ids}
use Rattle.vx_frame.proofs.FrameLaws.{IsFrame-locals, IsFrame-stack}
use Rattle.vx_group.specs.declared.callers.Caller.{Caller}
use Rattle.vx_group.specs.Callers.{tree_ids}
use Rattle.vx_group.specs.Group.{GroupView, IsGroupIn, PlainGroup, group_at, group_ids, path_of}
use Rattle.vx_group.proofs.GroupLaws.{IsGroupIn-group, IsGroupIn-of, IsGroup-attempts, IsGroup-top, group_at-of}
use Rattle.vx_group_laws.proofs.KeepLaws.{IsGroupOf-kept}
use Rattle.vx_heap.specs.Heap.{HeapView, heap_ids, is_held, value_of}
use Rattle.vx_heap.specs.Keeping.{globals_at-kept, value_of-kept}
use Rattle.vx_heap.proofs.HeapLaws.{IsHeap-kept, heap_known, is_held-kept}
use Rattle.vx_heap.proofs.Known.{AreKnown-append, cond_known, row_known}
use Rattle.vx_findings.specs.Shared.{leaves_of}
use Rattle.vx_findings.specs.declared.piece.Piece.{Piece}
use Rattle.vx_findings.specs.declared.shared.Shared.{Shared}
use Rattle.vx_java.specs.Report.{bytes_of}
use Rattle.vx_link.specs.declared.program.Program.{Program}
use Rattle.vx_sched.specs.Groups as sched
use Rattle.vx_group_states.specs.Stands.{frame_held, plain_frame, state_of}
use Rattle.vx_value.specs.Ends.{compare_ends}
use Rattle.vx_value.specs.Slot.{slot_cmp}
use Rattle.vx_standing.specs.Waiting.{AreWaiting, IsGood, waiting_at}
use Rattle.vx_standing.specs.State.{IsState, IsTreeKnown, StateView, attempts_left, configurations, group_of, left_of, output_at, shared_ids, standing_at, state_ids}
use Rattle.vx_standing.proofs.Running.{AreRunning-waiting, AreWaiting-running, left_by, left_of-by, standing_at-by, standing_by}
use Rattle.vx_standing.proofs.Counting.{attempts_in-same}
use Rattle.vx_standing.proofs.Waiting.{no_frame, run_by, state_by, waiting_at-standing}
use Rattle.vx_group_states.proofs.StateLaws.{map_same, all_same}

-- ---- the parts of the ids

pub record AreStateKept {S I : Type 0} (old new : Sets I) (st : StateView S I) : Type 0 where
  pub heap : AreKept old new (heap_ids st.heap)
  pub groups : AreKept old new (flat_map group_ids st.groups)
  pub tree : AreKept old new (tree_ids st.tree)
  pub found : AreKept old new (shared_ids st.found)
  pub ends : AreKept old new (shared_ids st.ends)
  pub spent : AreKept old new (shared_ids st.spent)

pub state_kept : {S I : Type 0} (old new : Sets I) (st : StateView S I) → AreKept old new (state_ids st) → AreStateKept old new st
state_kept old new st k =
    let after1 = AreKept-append_right old new (heap_ids st.heap) (flat_map group_ids st.groups ++ (tree_ids st.tree ++ (shared_ids st.found ++ (shared_ids st.ends ++ shared_ids st.spent)))) k in
    let after2 = AreKept-append_right old new (flat_map group_ids st.groups) (tree_ids st.tree ++ (shared_ids st.found ++ (shared_ids st.ends ++ shared_ids st.spent))) after1 in
    let after3 = AreKept-append_right old new (tree_ids st.tree) (shared_ids st.found ++ (shared_ids st.ends ++ shared_ids st.spent)) after2 in
    let after4 = AreKept-append_right old new (shared_ids st.found) (shared_ids st.ends ++ shared_ids st.spent) after3 in
    record {
      heap = AreKept-append_left old new (heap_ids st.heap) (flat_map group_ids st.groups ++ (tree_ids st.tree ++ (shared_ids st.found ++ (shared_ids st.ends ++ shared_ids st.spent)))) k;
      groups = AreKept-append_left old new (flat_map group_ids st.groups) (tree_ids st.tree ++ (shared_ids st.found ++ (shared_ids st.ends ++ shared_ids st.spent))) after1;
      tree = AreKept-append_left old new (tree_ids st.tree) (shared_ids st.found ++ (shared_ids st.ends ++ shared_ids st.spent)) after2;
      found = AreKept-append_left old new (shared_ids st.found) (shared_ids st.ends ++ shared_ids st.spent) after3;
      ends = AreKept-append_left old new (shared_ids st.ends) (shared_ids st.spent) after4;
      spent = AreKept-append_right old new (shared_ids st.ends) (shared_ids st.spent) after4;
    }

pub AreKnown-kept : {I : Type 0} (old new : Sets I) (ids : List I) → AreKept old new ids → AreKnown new ids
AreKnown-kept old new [] k = tt
AreKnown-kept old new (id ∷ ids) k = (k.0.known, AreKnown-kept old new ids k.1)

ids_of_leaves : {V S I : Type 0} (xs : List (Shared V S I)) → map (λ leaf. leaf.condition) (leaves_of xs) ≡ shared_ids xs
ids_of_leaves [] = refl
ids_of_leaves (x ∷ xs) = ap (λ ids. x.condition ∷ ids) (ids_of_leaves xs)

-- ---- the ids of a state are known

pub frame_known : {S I : Type 0} (sets : Sets I) (frame : Frame S I) → IsFrame sets frame → AreKnown sets (frame_ids frame)
frame_known sets frame v = AreKnown-append sets (row_ids frame.locals) (row_ids frame.stack) (row_known slot_cmp sets frame.locals (IsFrame-locals sets frame v)) (row_known slot_cmp sets frame.stack (IsFrame-stack sets frame v))

group_known : {S I : Type 0} (sets : Sets I) (tree : List (Option (Caller S I))) (group : GroupView S I) → IsGroupIn sets tree group → AreKnown sets (group_ids group)
group_known sets tree group v =
    let is_group = IsGroupIn-group sets tree group v in
    AreKnown-append sets (cond_ids group.attempts) (frame_ids group.top) (cond_known nat_cmp sets group.attempts (IsGroup-attempts sets group is_group)) (frame_known sets group.top (IsGroup-top sets group is_group))

pub groups_known : {S I : Type 0} (sets : Sets I) (tree : List (Option (Caller S I))) (groups : List (GroupView S I)) → sched.AreGroups sets tree groups → AreKnown sets (flat_map group_ids groups)
groups_known sets tree [] a = tt
groups_known sets tree (group ∷ groups) a = AreKnown-append sets (group_ids group) (flat_map group_ids groups) (group_known sets tree group a.0.is_group) (groups_known sets tree groups a.1)

pub findings_known : {V S I : Type 0} (cmp : V → V → Ordering) (sets : Sets I) (xs : List (Shared V S I)) → AreLeaves cmp sets (leaves_of xs) → AreKnown sets (shared_ids xs)
findings_known cmp sets [] h = tt
findings_known cmp sets (x ∷ xs) h = (h.0.known, findings_known cmp sets xs h.1)

pub state_known : {S I : Type 0} (p : Program) (sets : Sets I) (allowed : I) (st : StateView S I) → IsState p sets allowed st → IsTreeKnown sets st → AreKnown sets (state_ids st)
state_known p sets allowed st h tree =
    AreKnown-append sets (heap_ids st.heap) (flat_map group_ids st.groups ++ (tree_ids st.tree ++ (shared_ids st.found ++ (shared_ids st.ends ++ shared_ids st.spent)))) (heap_known sets st.heap h.is_heap)
    (AreKnown-append sets (flat_map group_ids st.groups) (tree_ids st.tree ++ (shared_ids st.found ++ (shared_ids st.ends ++ shared_ids st.spent))) (groups_known sets st.tree st.groups h.groups)
    (AreKnown-append sets (tree_ids st.tree) (shared_ids st.found ++ (shared_ids st.ends ++ shared_ids st.spent)) tree
    (AreKnown-append sets (shared_ids st.found) (shared_ids st.ends ++ shared_ids st.spent) h.found
    (AreKnown-append sets (shared_ids st.ends) (shared_ids st.spent) (findings_known compare_ends sets st.ends h.ends) (findings_known nat_cmp sets st.spent h.spent)))))

-- ---- groups

path_kept : {S I : Type 0} (old new : Sets I) (group : GroupView S I) → AreKept old new (group_ids group) → (c : List Bool) → new.test (path_of group) c ≡ old.test (path_of group) c
path_kept old new group k c = k.0.test c

apart_kept : {S I : Type 0} (old new : Sets I) (set : I) → ((c : List Bool) → new.test set c ≡ old.test set c) → (groups : List (GroupView S I)) → AreKept old new (flat_map group_ids groups) → sched.AreApart old set groups → sched.AreApart new set groups
apart_kept old new set e [] k a = tt
apart_kept old new set e (group ∷ groups) k a =
    let here = AreKept-append_left old new (group_ids group) (flat_map group_ids groups) k in
    (record { apart = λ c t. path_kept old new group here c ∙ a.0.apart c (sym (e c) ∙ t) }, apart_kept old new set e groups (AreKept-append_right old new (group_ids group) (flat_map group_ids groups) k) a.1)

AreGroups-kept : {S I : Type 0} (old new : Sets I) → new.never ≡ old.never → (tree : List (Option (Caller S I))) → AreKept old new (tree_ids tree) → (groups : List (GroupView S I)) → AreKept old new (flat_map group_ids groups) → sched.AreGroups old tree groups → sched.AreGroups new tree groups
AreGroups-kept old new e tree t [] k a = tt
AreGroups-kept old new e tree t (group ∷ groups) k a =
    let here = AreKept-append_left old new (group_ids group) (flat_map group_ids groups) k in
    let rest = AreKept-append_right old new (group_ids group) (flat_map group_ids groups) k in (
      record {
        is_group = IsGroupIn-of new tree (group_at old tree group) group (IsGroupOf-kept old new tree group e here t a.0.is_group);
        nonempty = λ q. a.0.nonempty (q ∙ e);
        apart = apart_kept old new (path_of group) (path_kept old new group here) groups rest a.0.apart;
        fresh = a.0.fresh;
      },
      AreGroups-kept old new e tree t groups rest a.1,
    )

standing_kept : {S I : Type 0} (old new : Sets I) → new.never ≡ old.never → (tree : List (Option (Caller S I))) → AreKept old new (tree_ids tree) → (groups : List (GroupView S I)) → AreKept old new (flat_map group_ids groups) → sched.AreGroups old tree groups → (c : List Bool) → sched.standing_at new tree groups c ≡ sched.standing_at old tree groups c
standing_kept old new e tree t [] k a c = refl
standing_kept {S = S} {I = I} old new e tree t (group ∷ groups) k a c =
    let here = AreKept-append_left old new (group_ids group) (flat_map group_ids groups) k in
    let rest = AreKept-append_right old new (group_ids group) (flat_map group_ids groups) k in
    cases (new.test (path_of group) c) (old.test (path_of group) c) (path_kept old new group here c) (group_at-of new tree (group_at old tree group) group c (IsGroupOf-kept old new tree group e here t a.0.is_group)) (standing_kept old new e tree t groups rest a.1 c)
  where
    cases : (a b : Bool) → a ≡ b → (a ≡ true → group_at new tree group c ≡ group_at old tree group c) → sched.standing_at new tree groups c ≡ sched.standing_at old tree groups c → (if a then Some (group_at new tree group c) else sched.standing_at new tree groups c) ≡ (if b then Some (group_at old tree group c) else sched.standing_at old tree groups c)
    cases true true q h r = ap Some (h refl)
    cases true false q h r = cc q
    cases false true q h r = cc q
    cases false false q h r = r

-- ---- what waits

plain_frame-kept : {S I : Type 0} (old new : Sets I) (heap : HeapView S I) → AreKept old new (heap_ids heap) → (c : List Bool) (f : PlainFrame) → plain_frame new heap c f ≡ plain_frame old heap c f
plain_frame-kept old new heap k c f =
    let values = map_same (value_of new heap c) (value_of old heap c) (value_of-kept old new heap c k) in
    λ i. record { kind = f.kind; method = f.method; position = f.position; locals = values f.locals i; operands = values f.operands i }

frame_held-kept : {S I : Type 0} (old new : Sets I) (heap : HeapView S I) → AreKept old new (heap_ids heap) → (c : List Bool) (f : PlainFrame) → frame_held new heap c f ≡ frame_held old heap c f
frame_held-kept old new heap k c f =
    let held = all_same (is_held new heap c) (is_held old heap c) (is_held-kept old new heap c k) in
    λ i. held f.locals i && held f.operands i

state_by-kept : {S I : Type 0} (old new : Sets I) (heap : HeapView S I) → AreKept old new (heap_ids heap) → (c : List Bool) (fs : List PlainFrame) → state_by new heap c fs ≡ state_by old heap c fs
state_by-kept old new heap k c [] = λ i. state_of (globals_at-kept old new heap c k i) (plain_frame-kept old new heap k c no_frame i) []
state_by-kept old new heap k c (f ∷ fs) = λ i. state_of (globals_at-kept old new heap c k i) (plain_frame-kept old new heap k c f i) (map_same (plain_frame new heap c) (plain_frame old heap c) (plain_frame-kept old new heap k c) fs i)

pub waiting_at-kept : {S I : Type 0} (old new : Sets I) → new.never ≡ old.never → (st : StateView S I) → AreStateKept old new st → sched.AreGroups old st.tree st.groups → (c : List Bool) → waiting_at new st.heap st.tree st.groups c ≡ waiting_at old st.heap st.tree st.groups c
waiting_at-kept old new e st k a c =
    waiting_at-standing new st.heap st.tree st.groups c
    ∙ ap (λ o. option_map (run_by new st.heap c) o) (standing_kept old new e st.tree k.tree st.groups k.groups a c)
    ∙ cases (sched.standing_at old st.tree st.groups c)
    ∙ sym (waiting_at-standing old st.heap st.tree st.groups c)
  where
    cases : (o : Option PlainGroup) → option_map (run_by new st.heap c) o ≡ option_map (run_by old st.heap c) o
    cases None = refl
    cases (Some g) = λ i. Some (record { state = state_by-kept old new st.heap k.heap c g.frames i; attempts = g.attempts })

IsGood-kept : {S I : Type 0} (old new : Sets I) (heap : HeapView S I) → AreKept old new (heap_ids heap) → (limit : ℕ) (c : List Bool) (o : Option PlainGroup) → IsGood old heap limit c o → IsGood new heap limit c o
IsGood-kept old new heap k limit c None h = tt
IsGood-kept old new heap k limit c (Some g) h = record {
  runs = k.0.test c ∙ h.runs;
  held = all_same (frame_held new heap c) (frame_held old heap c) (frame_held-kept old new heap k c) g.frames ∙ h.held;
  left = h.left;
}

AreWaiting-kept : {S I : Type 0} (p : Program) (old new : Sets I) → new.never ≡ old.never → (st : StateView S I) → AreStateKept old new st → AreWaiting p old st.heap st.tree st.limit st.groups → AreWaiting p new st.heap st.tree st.limit st.groups
AreWaiting-kept p old new e st k w = record {
  are_groups = AreGroups-kept old new e st.tree k.tree st.groups k.groups w.are_groups;
  shaped = w.shaped;
  good = λ c. let P : Option PlainGroup → Type 0 = λ o. IsGood new st.heap st.limit c o in
      subst P (sym (standing_kept old new e st.tree k.tree st.groups k.groups w.are_groups c)) (IsGood-kept old new st.heap k.heap st.limit c (sched.standing_at old st.tree st.groups c) (w.good c));
}

-- ---- what was found

pub output_kept : {S I : Type 0} (old new : Sets I) (xs : List (Shared Piece S I)) (c : List Bool) → AreKept old new (shared_ids xs) → output_at new xs c ≡ output_at old xs c
output_kept old new [] c k = refl
output_kept old new (x ∷ xs) c k =
    ap (λ b. if b then bytes_of (x.value.stream, x.value.text) ++ output_at new xs c else output_at new xs c) (k.0.test c)
    ∙ ap (λ o. if old.test x.condition c then bytes_of (x.value.stream, x.value.text) ++ o else o) (output_kept old new xs c k.1)

pub values_kept : {V S I : Type 0} (old new : Sets I) (xs : List (Shared V S I)) (c : List Bool) → AreKept old new (shared_ids xs) → value_at new (leaves_of xs) c ≡ value_at old (leaves_of xs) c
values_kept old new [] c k = refl
values_kept old new (x ∷ xs) c k =
    ap (λ b. if b then Some x.value else value_at new (leaves_of xs) c) (k.0.test c)
    ∙ ap (λ o. if old.test x.condition c then Some x.value else o) (values_kept old new xs c k.1)

leaves_kept : {V S I : Type 0} (cmp : V → V → Ordering) (old new : Sets I) → new.never ≡ old.never → (xs : List (Shared V S I)) → AreKept old new (shared_ids xs) → AreLeaves cmp old (leaves_of xs) → AreLeaves cmp new (leaves_of xs)
leaves_kept cmp old new e xs k h = AreLeaves-kept cmp old new e (leaves_of xs) (rw (ids_of_leaves xs) k) h

pub standing_at-kept : {S I : Type 0} (old new : Sets I) → new.never ≡ old.never → (st : StateView S I) → AreStateKept old new st → sched.AreGroups old st.tree st.groups → (c : List Bool) → standing_at new st c ≡ standing_at old st c
standing_at-kept old new e st k a c =
    let waits = waiting_at-kept old new e st k a c in
    let output = output_kept old new st.found c k.found in
    let ends = values_kept old new st.ends c k.ends in
    let spent = values_kept old new st.spent c k.spent in
    standing_at-by new st c ∙ (λ i. standing_by (waits i) (output i) (ends i) (spent i)) ∙ sym (standing_at-by old st c)

group_of-kept : {S I : Type 0} (old new : Sets I) (groups : List (GroupView S I)) (c : List Bool) → AreKept old new (flat_map group_ids groups) → group_of new groups c ≡ group_of old groups c
group_of-kept old new [] c k = refl
group_of-kept old new (group ∷ groups) c k =
    ap (λ b. if b then Some group else group_of new groups c) (path_kept old new group (AreKept-append_left old new (group_ids group) (flat_map group_ids groups) k) c)
    ∙ ap (λ o. if old.test (path_of group) c then Some group else o) (group_of-kept old new groups c (AreKept-append_right old new (group_ids group) (flat_map group_ids groups) k))

-- ---- the state

left_kept : {S I : Type 0} (old new : Sets I) → new.never ≡ old.never → new.options ≡ old.options → (st : StateView S I) → AreStateKept old new st → sched.AreGroups old st.tree st.groups → attempts_left new st ≡ attempts_left old st
left_kept old new e o st k a =
    ap sum (map_same (λ c. left_of new st.limit c (group_of new st.groups c)) (λ c. left_of old st.limit c (group_of old st.groups c))
    (λ c. left_of-by new st.heap st.tree st.groups st.limit c ∙ ap (left_by st.limit) (waiting_at-kept old new e st k a c) ∙ sym (left_of-by old st.heap st.tree st.groups st.limit c)) (configurations new.options)
    ∙ ap (λ n. map (λ c. left_of old st.limit c (group_of old st.groups c)) (configurations n)) o)

pub IsState-kept : {S I : Type 0} (p : Program) (old new : Sets I) (allowed : I) (st : StateView S I) → new.never ≡ old.never → new.options ≡ old.options → AreStateKept old new st → IsState p old allowed st → IsState p new allowed st
IsState-kept p old new allowed st e o k h =
    let allowed_kept = λ (c : List Bool). ap (λ i. new.test i c) (sym h.runs) ∙ k.heap.0.test c ∙ ap (λ i. old.test i c) h.runs in
    let stands = standing_at-kept old new e st k h.groups in
    record {
      bounded = h.bounded;
      some = h.some;
      most = h.most;
      is_heap = IsHeap-kept e st.heap k.heap h.is_heap;
      is_for = h.is_for;
      runs = h.runs;
      groups = AreGroups-kept old new e st.tree k.tree st.groups k.groups h.groups;
      running = AreRunning-waiting p new st st.groups (AreWaiting-kept p old new e st k (AreWaiting-running p old st st.groups h.groups h.running));
      found = AreKnown-kept old new (shared_ids st.found) k.found;
      ends = leaves_kept compare_ends old new e st.ends k.ends h.ends;
      spent = leaves_kept nat_cmp old new e st.spent k.spent h.spent;
      everywhere = λ c t. ap is_some (stands c) ∙ h.everywhere c (sym (allowed_kept c) ∙ t);
      nowhere = λ c t. let n = h.nowhere c (sym (allowed_kept c) ∙ t) in record {
        group = group_of-kept old new st.groups c k.groups ∙ n.group;
        output = output_kept old new st.found c k.found ∙ n.output;
        end = values_kept old new st.ends c k.ends ∙ n.end;
        spent = values_kept old new st.spent c k.spent ∙ n.spent;
      };
      goes_on = λ c t. let g = h.goes_on c (ap is_some (sym (group_of-kept old new st.groups c k.groups)) ∙ t) in record {
        end = values_kept old new st.ends c k.ends ∙ g.end;
        spent = values_kept old new st.spent c k.spent ∙ g.spent;
      };
      counted = rw (left_kept old new e o st k h.groups, attempts_in-same old new allowed st.limit o allowed_kept) h.counted;
    }
