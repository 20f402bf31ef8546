-- Groups of a state as groups that wait, and what stands in a state by what waits and what was found.
use Rattle.std.proofs.Common.{◌≡◌, ℕ, Bool, true, false, List, [], ◌∷◌, refl, sym, subst}
use Rattle.std.specs.Prelude.{◌-◌, Option, Some, None, if◌then◌else◌}
use Rattle.std.specs.List.{list_all}
use Rattle.vx_space.specs.Sets.{Sets}
use Rattle.vx_cond.specs.Leaves.{value_at}
use Rattle.vx_group.specs.declared.callers.Caller.{Caller}
use Rattle.vx_group.specs.Group.{GroupView, IsGroupIn, PlainGroup, group_at, path_of, shapes_of}
use Rattle.vx_heap.specs.Heap.{HeapView}
use Rattle.vx_findings.specs.Shared.{leaves_of}
use Rattle.vx_link.specs.declared.program.Program.{Program}
use Rattle.vx_sched.specs.Groups as sched
use Rattle.vx_group_states.specs.Stands.{is_shaped}
use Rattle.vx_group_states.proofs.StateLaws.{both, both_first, both_second}
use Rattle.vx_value.specs.declared.end.End.{End}
use Rattle.vx_value.specs.declared.end.Stream.{Stream}
use Rattle.vx_standing.specs.Waiting.{AreWaiting, IsGood, IsGoodGroup, Waiting, waiting_at, waiting_in}
use Rattle.vx_standing.specs.State.{AreRunning, IsRunning, Runs, Standing, StateView, came_to, come_to, group_of, left_of, output_at, standing_at, standing_in}

-- ---- running groups wait

good_of : {S I : Type 0} (p : Program) (sets : Sets I) (st : StateView S I) (group : GroupView S I) → IsRunning p sets st group → (c : List Bool) → sets.test (path_of group) c ≡ true → IsGoodGroup sets st.heap st.limit c (group_at sets st.tree group c)
good_of p sets st group r c t = record { runs = r.stands.runs.inside c t; held = r.stands.held c t; left = r.left c t }

shapes_of_all : {S I : Type 0} (p : Program) (sets : Sets I) (st : StateView S I) (groups : List (GroupView S I)) → AreRunning p sets st groups → sched.are_shaped (list_all (is_shaped p)) st.tree groups ≡ true
shapes_of_all p sets st [] r = refl
shapes_of_all p sets st (group ∷ groups) r = both (list_all (is_shaped p) (shapes_of st.tree group)) (sched.are_shaped (list_all (is_shaped p)) st.tree groups) r.0.stands.shaped (shapes_of_all p sets st groups r.1)

goods_of : {S I : Type 0} (p : Program) (sets : Sets I) (st : StateView S I) (groups : List (GroupView S I)) → AreRunning p sets st groups → (c : List Bool) → IsGood sets st.heap st.limit c (sched.standing_at sets st.tree groups c)
goods_of p sets st [] r c = tt
goods_of {S = S} {I = I} p sets st (group ∷ groups) r c = cases (sets.test (path_of group) c) (good_of p sets st group r.0 c) (sched.standing_at sets st.tree groups c) (goods_of p sets st groups r.1 c)
  where
    cases : (b : Bool) → (b ≡ true → IsGoodGroup sets st.heap st.limit c (group_at sets st.tree group c)) → (o : Option PlainGroup) → IsGood sets st.heap st.limit c o → IsGood sets st.heap st.limit c (if b then Some (group_at sets st.tree group c) else o)
    cases true h o k = h refl
    cases false h o k = k

pub AreWaiting-running : {S I : Type 0} (p : Program) (sets : Sets I) (st : StateView S I) (groups : List (GroupView S I)) → sched.AreGroups sets st.tree groups → AreRunning p sets st groups → AreWaiting p sets st.heap st.tree st.limit groups
AreWaiting-running p sets st groups a r = record { are_groups = a; shaped = shapes_of_all p sets st groups r; good = goods_of p sets st groups r }

-- ---- and the other way round

running_of : {S I : Type 0} (p : Program) (sets : Sets I) (st : StateView S I) (group : GroupView S I) → IsGroupIn sets st.tree group → list_all (is_shaped p) (shapes_of st.tree group) ≡ true → ((c : List Bool) → sets.test (path_of group) c ≡ true → IsGoodGroup sets st.heap st.limit c (group_at sets st.tree group c)) → IsRunning p sets st group
running_of p sets st group v h g = record {
  stands = record {
    is_group = v;
    runs = record { inside = λ c t. (g c t).runs };
    held = λ c t. (g c t).held;
    shaped = h;
  };
  left = λ c t. (g c t).left;
}

-- where a group stands no later one does
pub later_none : {S I : Type 0} (sets : Sets I) (tree : List (Option (Caller S I))) (set : I) (groups : List (GroupView S I)) → sched.AreApart sets set groups → (c : List Bool) → sets.test set c ≡ true → sched.standing_at sets tree groups c ≡ None
later_none sets tree set [] a c t = refl
later_none {S = S} {I = I} sets tree set (group ∷ groups) a c t = cases (sets.test (path_of group) c) (a.0.apart c t) (later_none sets tree set groups a.1 c t)
  where
    cases : (b : Bool) → b ≡ false → sched.standing_at sets tree groups c ≡ None → (if b then Some (group_at sets tree group c) else sched.standing_at sets tree groups c) ≡ None
    cases true h r = cc h
    cases false h r = r

pub rest_good : {S I : Type 0} (sets : Sets I) (heap : HeapView S I) (tree : List (Option (Caller S I))) (limit : ℕ) (group : GroupView S I) (groups : List (GroupView S I)) → sched.AreApart sets (path_of group) groups → (c : List Bool) → IsGood sets heap limit c (if sets.test (path_of group) c then Some (group_at sets tree group c) else sched.standing_at sets tree groups c) → IsGood sets heap limit c (sched.standing_at sets tree groups c)
rest_good {S = S} {I = I} sets heap tree limit group groups a c h = cases (sets.test (path_of group) c) h (later_none sets tree (path_of group) groups a c)
  where
    cases : (b : Bool) → IsGood sets heap limit c (if b then Some (group_at sets tree group c) else sched.standing_at sets tree groups c) → (b ≡ true → sched.standing_at sets tree groups c ≡ None) → IsGood sets heap limit c (sched.standing_at sets tree groups c)
    cases true k n = let P : Option PlainGroup → Type 0 = λ o. IsGood sets heap limit c o in subst P (sym (n refl)) tt
    cases false k n = k

pub AreRunning-waiting : {S I : Type 0} (p : Program) (sets : Sets I) (st : StateView S I) (groups : List (GroupView S I)) → AreWaiting p sets st.heap st.tree st.limit groups → AreRunning p sets st groups
AreRunning-waiting p sets st [] w = tt
AreRunning-waiting {S = S} {I = I} p sets st (group ∷ groups) w = (
  running_of p sets st group w.are_groups.0.is_group (both_first (list_all (is_shaped p) (shapes_of st.tree group)) (sched.are_shaped (list_all (is_shaped p)) st.tree groups) w.shaped) (λ c t. here c (sets.test (path_of group) c) t (w.good c)),
  AreRunning-waiting p sets st groups (record {
    are_groups = w.are_groups.1;
    shaped = both_second (list_all (is_shaped p) (shapes_of st.tree group)) (sched.are_shaped (list_all (is_shaped p)) st.tree groups) w.shaped;
    good = λ c. rest_good sets st.heap st.tree st.limit group groups w.are_groups.0.apart c (w.good c);
  }),
)
  where
    here : (c : List Bool) (b : Bool) → b ≡ true → IsGood sets st.heap st.limit c (if b then Some (group_at sets st.tree group c) else sched.standing_at sets st.tree groups c) → IsGoodGroup sets st.heap st.limit c (group_at sets st.tree group c)
    here c true h k = k
    here c false h k = cc h

-- ---- what stands, by what waits and what was found

abbrev pub standing_by : Option Waiting → List (Stream × ℕ) → Option End → Option ℕ → Option Standing
standing_by None output end spent = came_to (come_to output end spent)
standing_by (Some w) output end spent = Some (Runs (record { state = w.state; output = output; attempts = w.attempts }))

pub standing_at-by : {S I : Type 0} (sets : Sets I) (st : StateView S I) (c : List Bool) → standing_at sets st c ≡ standing_by (waiting_at sets st.heap st.tree st.groups c) (output_at sets st.found c) (value_at sets (leaves_of st.ends) c) (value_at sets (leaves_of st.spent) c)
standing_at-by {S = S} {I = I} sets st c = cases (group_of sets st.groups c)
  where
    cases : (o : Option (GroupView S I)) → standing_in sets st c o ≡ standing_by (waiting_in sets st.heap st.tree c o) (output_at sets st.found c) (value_at sets (leaves_of st.ends) c) (value_at sets (leaves_of st.spent) c)
    cases None = refl
    cases (Some group) = refl

-- how many attempts are left, by what waits
abbrev pub left_by : ℕ → Option Waiting → ℕ
left_by limit None = 0
left_by limit (Some w) = limit - w.attempts

pub left_of-by : {S I : Type 0} (sets : Sets I) (heap : HeapView S I) (tree : List (Option (Caller S I))) (groups : List (GroupView S I)) (limit : ℕ) (c : List Bool) → left_of sets limit c (group_of sets groups c) ≡ left_by limit (waiting_at sets heap tree groups c)
left_of-by {S = S} {I = I} sets heap tree groups limit c = cases (group_of sets groups c)
  where
    cases : (o : Option (GroupView S I)) → left_of sets limit c o ≡ left_by limit (waiting_in sets heap tree c o)
    cases None = refl
    cases (Some group) = refl
