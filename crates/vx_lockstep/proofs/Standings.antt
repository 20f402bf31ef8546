-- What stands at a configuration of a state: the run of the one group that holds it, and the key of its plain state.
use Rattle.std.proofs.Common.{◌≡◌, ◌≢◌, ℕ, zero, suc, Bool, true, false, List, [], ◌∷◌, refl, sym, subst, ap, ◌∙◌, length, map}
use Rattle.std.proofs.lemmas.List.{length-map, length-reverse}
use Rattle.std.specs.Prelude.{None, Option, Some, if◌then◌else◌, reverse, slice_get}
use Rattle.vx_cond.specs.Cond.{cond_at}
use Rattle.vx_cond.specs.Leaves.{value_at}
use Rattle.vx_cond.specs.Row.{row_at}
use Rattle.vx_cond.specs.Slots.{or_top, slots_at}
use Rattle.vx_findings.specs.Shared.{leaves_of}
use Rattle.vx_frame.specs.Frame.{frame_at, part_of as part_of_frame}
use Rattle.vx_frame.specs.declared.frame.Frame.{Frame}
use Rattle.vx_group.proofs.GroupLaws.{IsGroup-path_known, IsGroupIn-group}
use Rattle.vx_group.specs.Callers.{callers_of, frames_at}
use Rattle.vx_group.specs.Group.{GroupView, IsGroupIn, key_of, path_of}
use Rattle.vx_group.specs.declared.callers.Caller.{Caller}
use Rattle.vx_heap.specs.Heap.{HeapView, value_of}
use Rattle.vx_java.specs.Lockstep as lockstep
use Rattle.vx_java.specs.Step.{Progress, RunResult}
use Rattle.vx_link.specs.declared.program.Program.{Program}
use Rattle.vx_standing.specs.State.{AreRunning, IsNowhere, IsRunning, Runs, StateView, came_to, come_to, group_of, output_at, progress_at, result_at, standing_at, standing_in}
use Rattle.vx_sched.specs.Groups.{AreApart, AreGroups, IsFresh}
use Rattle.vx_space.specs.Sets.{Sets}
use Rattle.vx_group_states.specs.Stands.{callers_at, plain_frame, state_at}
use Rattle.vx_value.specs.declared.key.KeyPart.{KeyPart}

-- ---- the group that holds a configuration

pub standing_of_group : {S I : Type 0} (sets : Sets I) (st : StateView S I) (c : List Bool) (group : GroupView S I) → group_of sets st.groups c ≡ Some group → standing_at sets st c ≡ Some (Runs (progress_at sets st group c))
standing_of_group sets st c group e = ap (standing_in sets st c) e

pub record IsHeldBy {S I : Type 0} (sets : Sets I) (st : StateView S I) (c : List Bool) (g : Progress) : Type 0 where
  pub group : GroupView S I
  pub held : group_of sets st.groups c ≡ Some group
  pub progress : progress_at sets st group c ≡ g

pub not_came : (o : Option RunResult) (g : Progress) → came_to o ≢ Some (Runs g)
not_came None g e = cc
not_came (Some r) g e = cc

-- a run that goes on stands in a group
pub held_by : {S I : Type 0} (sets : Sets I) (st : StateView S I) (c : List Bool) (g : Progress) → standing_at sets st c ≡ Some (Runs g) → IsHeldBy sets st c g
held_by {S = S} {I = I} sets st c g h = by (group_of sets st.groups c) refl h
  where
    by : (o : Option (GroupView S I)) → group_of sets st.groups c ≡ o → standing_in sets st c o ≡ Some (Runs g) → IsHeldBy sets st c g
    by None e f = absurd (not_came (result_at sets st.found st.ends st.spent c) g f)
    by (Some group) e f = let same : progress_at sets st group c ≡ g = cc in record { group = group; held = e; progress = same }

pub standing_nowhere : {S I : Type 0} (sets : Sets I) (st : StateView S I) (c : List Bool) → IsNowhere sets st c → standing_at sets st c ≡ None
standing_nowhere sets st c h =
    ap (standing_in sets st c) h.group
    ∙ ap (λ e. came_to (come_to (output_at sets st.found c) e (value_at sets (leaves_of st.spent) c))) h.end

-- ---- groups side by side

pub record IsGroupThere {S I : Type 0} (sets : Sets I) (tree : List (Option (Caller S I))) (group : GroupView S I) : Type 0 where
  pub is_group : IsGroupIn sets tree group
  pub known : sets.is_known (path_of group) ≡ true
  pub nonempty : path_of group ≢ sets.never

pub group_there : {S I : Type 0} (sets : Sets I) (tree : List (Option (Caller S I))) (groups : List (GroupView S I)) (place : ℕ) (group : GroupView S I) → AreGroups sets tree groups → slice_get groups place ≡ Some group → IsGroupThere sets tree group
group_there sets tree [] place group are e = cc
group_there {S = S} {I = I} sets tree (first ∷ groups) zero group are e =
    let same : first ≡ group = cc in
    let P : GroupView S I → Type 0 = λ g. IsGroupThere sets tree g in
    subst P same (record { is_group = are.0.is_group; known = IsGroup-path_known sets first (IsGroupIn-group sets tree first are.0.is_group); nonempty = are.0.nonempty })
group_there sets tree (first ∷ groups) (suc place) group are e = group_there sets tree groups place group are.1 e

pub running_there : {S I : Type 0} (p : Program) (sets : Sets I) (st : StateView S I) (groups : List (GroupView S I)) (place : ℕ) (group : GroupView S I) → AreRunning p sets st groups → slice_get groups place ≡ Some group → IsRunning p sets st group
running_there p sets st [] place group are e = cc
running_there {S = S} {I = I} p sets st (first ∷ groups) zero group are e =
    let same : first ≡ group = cc in
    let P : GroupView S I → Type 0 = λ g. IsRunning p sets st g in
    subst P same are.0
running_there p sets st (first ∷ groups) (suc place) group are e = running_there p sets st groups place group are.1 e

apart_there : {S I : Type 0} (sets : Sets I) (set : I) (groups : List (GroupView S I)) (place : ℕ) (group : GroupView S I) (c : List Bool) → AreApart sets set groups → slice_get groups place ≡ Some group → sets.test (path_of group) c ≡ true → sets.test set c ≡ false
apart_there sets set [] place group c are e h = cc
apart_there sets set (first ∷ groups) zero group c are e h = by (sets.test set c) refl
  where
    by : (b : Bool) → sets.test set c ≡ b → b ≡ false
    by false f = refl
    by true f =
        let same : first ≡ group = cc in
        let out = are.0.apart c f in
        let bad : sets.test (path_of group) c ≡ false = ap (λ g. sets.test (path_of g) c) (sym same) ∙ out in
        cc
apart_there sets set (first ∷ groups) (suc place) group c are e h = apart_there sets set groups place group c are.1 e h

-- a configuration of a group's path is held by that group
pub same_group : {S I : Type 0} (sets : Sets I) (tree : List (Option (Caller S I))) (groups : List (GroupView S I)) (place : ℕ) (group : GroupView S I) (c : List Bool) → AreGroups sets tree groups → slice_get groups place ≡ Some group → sets.test (path_of group) c ≡ true → group_of sets groups c ≡ Some group
same_group sets tree [] place group c are e h = cc
same_group sets tree (first ∷ groups) zero group c are e h =
    let same : first ≡ group = cc in
    let yes : sets.test (path_of first) c ≡ true = ap (λ g. sets.test (path_of g) c) same ∙ h in
    rw yes e
same_group sets tree (first ∷ groups) (suc place) group c are e h =
    let out = apart_there sets (path_of first) groups place group c are.0.apart e h in
    rw out (same_group sets tree groups place group c are.1 e h)

-- the group that holds a configuration has a place, and its path holds it
pub record IsPlaceOf {S I : Type 0} (sets : Sets I) (groups : List (GroupView S I)) (c : List Bool) (group : GroupView S I) : Type 0 where
  pub place : ℕ
  pub is_there : slice_get groups place ≡ Some group
  pub holds : sets.test (path_of group) c ≡ true

pub place_of : {S I : Type 0} (sets : Sets I) (groups : List (GroupView S I)) (c : List Bool) (group : GroupView S I) → group_of sets groups c ≡ Some group → IsPlaceOf sets groups c group
place_of sets [] c group e = cc
place_of {S = S} {I = I} sets (first ∷ groups) c group e = by (sets.test (path_of first) c) refl e (place_of sets groups c group)
  where
    by : (b : Bool) → sets.test (path_of first) c ≡ b → (if b then Some first else group_of sets groups c) ≡ Some group → (group_of sets groups c ≡ Some group → IsPlaceOf sets groups c group) → IsPlaceOf sets (first ∷ groups) c group
    by true f h ih =
        let same : first ≡ group = cc in
        record { place = 0; is_there = h; holds = ap (λ g. sets.test (path_of g) c) (sym same) ∙ f }
    by false f h ih = let rest = ih h in record { place = suc rest.place; is_there = rest.is_there; holds = rest.holds }

fresh_there : {S I : Type 0} (key : List KeyPart) (groups : List (GroupView S I)) (place : ℕ) (group : GroupView S I) → IsFresh key groups → slice_get groups place ≡ Some group → key_of group ≢ key
fresh_there key [] place group fresh e = cc
fresh_there key (first ∷ groups) zero group fresh e = let same : first ≡ group = cc in λ h. fresh.0 (ap key_of same ∙ h)
fresh_there key (first ∷ groups) (suc place) group fresh e = fresh_there key groups place group fresh.1 e

-- no two groups have one key
pub one_key : {S I : Type 0} (sets : Sets I) (tree : List (Option (Caller S I))) (groups : List (GroupView S I)) (i j : ℕ) (a b : GroupView S I) → AreGroups sets tree groups → slice_get groups i ≡ Some a → slice_get groups j ≡ Some b → key_of a ≡ key_of b → a ≡ b
one_key sets tree [] i j a b are e f k = cc
one_key sets tree (first ∷ groups) zero zero a b are e f k = cc
one_key sets tree (first ∷ groups) zero (suc j) a b are e f k =
    let same : first ≡ a = cc in
    absurd (fresh_there (key_of first) groups j b are.0.fresh f (sym k ∙ ap key_of (sym same)))
one_key sets tree (first ∷ groups) (suc i) zero a b are e f k =
    let same : first ≡ b = cc in
    absurd (fresh_there (key_of first) groups i a are.0.fresh e (k ∙ ap key_of (sym same)))
one_key sets tree (first ∷ groups) (suc i) (suc j) a b are e f k = one_key sets tree groups i j a b are.1 e f k

-- ---- keys

length_kept : {A B : Type 0} (f : A → B) (xs : List A) → length (map f (reverse xs)) ≡ length xs
length_kept f xs = length-map (reverse xs) f ∙ length-reverse xs

-- a plain frame has the part of its frame
part_kept : {S I : Type 0} (sets : Sets I) (heap : HeapView S I) (c : List Bool) (frame : Frame S I) → lockstep.part_of (plain_frame sets heap c (frame_at sets frame c)) ≡ part_of_frame frame
part_kept sets heap c frame =
    let depth = length_kept (value_of sets heap c) (slots_at sets frame.stack c) ∙ length-map (row_at sets frame.stack c) or_top ∙ length-map frame.stack.conds (λ cond. cond_at sets cond c) in
    λ i. record { method = frame.method; position = frame.position; depth = depth i; kind = frame.kind }

parts_kept : {S I : Type 0} (sets : Sets I) (heap : HeapView S I) (c : List Bool) (frames : List (Frame S I)) → map lockstep.part_of (map (plain_frame sets heap c) (frames_at sets frames c)) ≡ map part_of_frame frames
parts_kept sets heap c [] = refl
parts_kept sets heap c (frame ∷ frames) =
    ap (λ part. part ∷ map lockstep.part_of (map (plain_frame sets heap c) (frames_at sets frames c))) (part_kept sets heap c frame)
    ∙ ap (λ parts. part_of_frame frame ∷ parts) (parts_kept sets heap c frames)

parts_below : {S I : Type 0} (sets : Sets I) (tree : List (Option (Caller S I))) (group : GroupView S I) → IsGroupIn sets tree group → map part_of_frame (callers_of tree (length group.below) group.caller) ≡ group.below
unfolding IsGroupIn
parts_below sets tree group h = h.parts

-- the plain state at a configuration has the key of its group
pub key_kept : {S I : Type 0} (sets : Sets I) (heap : HeapView S I) (tree : List (Option (Caller S I))) (group : GroupView S I) (c : List Bool) → IsGroupIn sets tree group → lockstep.key_of (state_at sets heap tree group c) ≡ key_of group
key_kept sets heap tree group c h =
    ap (λ part. reverse (part ∷ map lockstep.part_of (callers_at sets heap tree group c))) (part_kept sets heap c group.top)
    ∙ ap (λ parts. reverse (part_of_frame group.top ∷ parts)) (parts_kept sets heap c (callers_of tree (length group.below) group.caller) ∙ parts_below sets tree group h)
