-- What waits at a configuration, and what it keeps where the space is extended.
use Rattle.std.proofs.Common.{◌≡◌, ℕ, Bool, true, false, List, [], ◌∷◌, refl, sym, ◌∙◌, ap, subst, length, map}
use Rattle.std.specs.Prelude.{◌&&◌, Option, Some, None, if◌then◌else◌, option_map}
use Rattle.vx_space.specs.Sets.{Sets, Extends}
use Rattle.vx_frame.specs.Frame.{PlainFrame, Shape, shape_of}
use Rattle.vx_group.specs.declared.callers.Caller.{Caller}
use Rattle.vx_group.specs.Callers.{Keeps}
use Rattle.vx_group.specs.Group.{GroupView, PlainGroup, group_at, path_of}
use Rattle.vx_group.proofs.CallerLaws.{AreCallers-nodes, Keeps-refl, callers_of-kept}
use Rattle.vx_group.proofs.GroupLaws.{IsGroupIn-callers}
use Rattle.vx_heap.specs.Heap.{HeapView, IsHeap, globals_at}
use Rattle.vx_heap.proofs.HeapLaws.{globals_at-extends}
use Rattle.vx_java.specs.Machine.{State}
use Rattle.vx_link.specs.declared.program.Program.{Program}
use Rattle.vx_sched.specs.Groups as sched
use Rattle.vx_sched.proofs.GroupsLaws.{AreGroups-later, standing_at-later}
use Rattle.vx_group_states.specs.Stands.{frame_held, plain_frame, state_of}
use Rattle.vx_group_states.proofs.StateLaws.{frame_held-extends, plain_frame-extends, all_same, map_same}
use Rattle.vx_value.specs.declared.key.Kind.TheVariants.{Call}
use Rattle.vx_standing.specs.Waiting.{AreWaiting, IsGood, Waiting, waiting_at, waiting_in}
use Rattle.vx_standing.specs.State.{group_of}
use Rattle.vx_heap.proofs.Written.{allowed_known}

-- ---- the plain state of plain frames

abbrev pub no_frame : PlainFrame
no_frame = record { kind = Call; method = 0; position = 0; locals = []; operands = [] }

abbrev pub state_by : {S I : Type 0} → Sets I → HeapView S I → List Bool → List PlainFrame → State
state_by sets heap c [] = state_of (globals_at sets heap c) (plain_frame sets heap c no_frame) []
state_by sets heap c (f ∷ fs) = state_of (globals_at sets heap c) (plain_frame sets heap c f) (map (plain_frame sets heap c) fs)

abbrev pub run_by : {S I : Type 0} → Sets I → HeapView S I → List Bool → PlainGroup → Waiting
run_by sets heap c g = record { state = state_by sets heap c g.frames; attempts = g.attempts }

pub waiting_at-standing : {S I : Type 0} (sets : Sets I) (heap : HeapView S I) (tree : List (Option (Caller S I))) (groups : List (GroupView S I)) (c : List Bool) → waiting_at sets heap tree groups c ≡ option_map (run_by sets heap c) (sched.standing_at sets tree groups c)
waiting_at-standing sets heap tree [] c = refl
waiting_at-standing {S = S} {I = I} sets heap tree (group ∷ groups) c = cases (sets.test (path_of group) c) (group_of sets groups c) (sched.standing_at sets tree groups c) (waiting_at-standing sets heap tree groups c)
  where
    cases : (b : Bool) (o : Option (GroupView S I)) (s : Option PlainGroup) → waiting_in sets heap tree c o ≡ option_map (run_by sets heap c) s → waiting_in sets heap tree c (if b then Some group else o) ≡ option_map (run_by sets heap c) (if b then Some (group_at sets tree group c) else s)
    cases true o s e = refl
    cases false o s e = e

-- over a later space
pub state_by-extends : {S I : Type 0} {old new : Sets I} → Extends old new → (heap : HeapView S I) → IsHeap old heap → (c : List Bool) (fs : List PlainFrame) → state_by new heap c fs ≡ state_by old heap c fs
state_by-extends e heap v c [] = λ i. state_of (globals_at-extends e heap v c i) (plain_frame-extends e heap v c no_frame i) []
state_by-extends {old = old} {new = new} e heap v c (f ∷ fs) = λ i. state_of (globals_at-extends e heap v c i) (plain_frame-extends e heap v c f i) (map_same (plain_frame new heap c) (plain_frame old heap c) (plain_frame-extends e heap v c) fs i)

pub run_by-extends : {S I : Type 0} {old new : Sets I} → Extends old new → (heap : HeapView S I) → IsHeap old heap → (c : List Bool) (o : Option PlainGroup) → option_map (run_by new heap c) o ≡ option_map (run_by old heap c) o
run_by-extends e heap v c None = refl
run_by-extends e heap v c (Some g) = λ i. Some (record { state = state_by-extends e heap v c g.frames i; attempts = g.attempts })

pub IsGood-extends : {S I : Type 0} {old new : Sets I} → Extends old new → (heap : HeapView S I) → IsHeap old heap → (limit : ℕ) (c : List Bool) (o : Option PlainGroup) → IsGood old heap limit c o → IsGood new heap limit c o
IsGood-extends e heap v limit c None h = tt
IsGood-extends {old = old} {new = new} e heap v limit c (Some g) h = record {
  runs = e.test heap.allowed c (allowed_known old heap v) ∙ h.runs;
  held = all_same (frame_held new heap c) (frame_held old heap c) (frame_held-extends e heap v c) g.frames ∙ h.held;
  left = h.left;
}

pub AreWaiting-extends : {S I : Type 0} (p : Program) {old new : Sets I} → Extends old new → (heap : HeapView S I) → IsHeap old heap → (tree : List (Option (Caller S I))) (limit : ℕ) (groups : List (GroupView S I)) → AreWaiting p old heap tree limit groups → AreWaiting p new heap tree limit groups
AreWaiting-extends p {old = old} {new = new} e heap v tree limit groups w = record {
  are_groups = AreGroups-later e (Keeps-refl tree) groups w.are_groups;
  shaped = w.shaped;
  good = λ c. let P : Option PlainGroup → Type 0 = λ o. IsGood new heap limit c o in
      subst P (sym (standing_at-later e (Keeps-refl tree) groups w.are_groups c)) (IsGood-extends e heap v limit c (sched.standing_at old tree groups c) (w.good c));
}

pub waiting_at-extends : {S I : Type 0} {old new : Sets I} → Extends old new → (heap : HeapView S I) → IsHeap old heap → (tree : List (Option (Caller S I))) (groups : List (GroupView S I)) → sched.AreGroups old tree groups → (c : List Bool) → waiting_at new heap tree groups c ≡ waiting_at old heap tree groups c
waiting_at-extends {old = old} {new = new} e heap v tree groups a c =
    waiting_at-standing new heap tree groups c
    ∙ ap (λ o. option_map (run_by new heap c) o) (standing_at-later e (Keeps-refl tree) groups a c)
    ∙ run_by-extends e heap v c (sched.standing_at old tree groups c)
    ∙ sym (waiting_at-standing old heap tree groups c)

-- the shapes of frames in a later tree
pub shaped_later : {S I : Type 0} (test : List Shape → Bool) (sets : Sets I) {t0 t1 : List (Option (Caller S I))} → Keeps t0 t1 → (groups : List (GroupView S I)) → sched.AreGroups sets t0 groups → sched.are_shaped test t1 groups ≡ sched.are_shaped test t0 groups
shaped_later test sets k [] a = refl
shaped_later test sets {t0 = t0} k (group ∷ groups) a =
    let callers = callers_of-kept k (length group.below) group.caller (AreCallers-nodes sets t0 (path_of group) (length group.below) group.caller (IsGroupIn-callers sets t0 group a.0.is_group)) in
    let rest = shaped_later test sets k groups a.1 in
    λ i. test (map shape_of (group.top ∷ callers i)) && rest i

-- ---- where nothing waits

pub none_waits : {S I : Type 0} (sets : Sets I) (heap : HeapView S I) (tree : List (Option (Caller S I))) (groups : List (GroupView S I)) (c : List Bool) → waiting_at sets heap tree groups c ≡ None → group_of sets groups c ≡ None
none_waits {S = S} {I = I} sets heap tree groups c h = cases (group_of sets groups c) h
  where
    cases : (o : Option (GroupView S I)) → waiting_in sets heap tree c o ≡ None → o ≡ None
    cases None q = refl
    cases (Some g) q = cc

pub no_group : {S I : Type 0} (sets : Sets I) (heap : HeapView S I) (tree : List (Option (Caller S I))) (groups : List (GroupView S I)) (c : List Bool) → group_of sets groups c ≡ None → waiting_at sets heap tree groups c ≡ None
no_group sets heap tree groups c h = ap (λ o. waiting_in sets heap tree c o) h

-- a set in which there is no group is apart from all
pub apart_from_groups : {S I : Type 0} (sets : Sets I) (set : I) (groups : List (GroupView S I)) → ((c : List Bool) → sets.test set c ≡ true → group_of sets groups c ≡ None) → sched.AreApart sets set groups
apart_from_groups sets set [] h = tt
apart_from_groups {S = S} {I = I} sets set (group ∷ groups) h =
    (record { apart = λ c t. first (sets.test (path_of group) c) (group_of sets groups c) (h c t) }, apart_from_groups sets set groups (λ c t. rest (sets.test (path_of group) c) (group_of sets groups c) (h c t)))
  where
    first : (b : Bool) (o : Option (GroupView S I)) → (if b then Some group else o) ≡ None → b ≡ false
    first true o q = cc
    first false o q = refl

    rest : (b : Bool) (o : Option (GroupView S I)) → (if b then Some group else o) ≡ None → o ≡ None
    rest true o q = cc
    rest false o q = q

pub groups_apart : {S I : Type 0} (sets : Sets I) (set : I) (groups : List (GroupView S I)) (c : List Bool) → sched.AreApart sets set groups → sets.test set c ≡ true → group_of sets groups c ≡ None
groups_apart sets set [] c a t = refl
groups_apart {S = S} {I = I} sets set (group ∷ groups) c a t = cases (sets.test (path_of group) c) (a.0.apart c t) (group_of sets groups c) (groups_apart sets set groups c a.1 t)
  where
    cases : (b : Bool) → b ≡ false → (o : Option (GroupView S I)) → o ≡ None → (if b then Some group else o) ≡ None
    cases true q o r = cc
    cases false q o r = r
