-- A round begins: the group that makes an attempt, and all else.
use Rattle.std.proofs.Common.{◌≡◌, ℕ, ◌<◌, Bool, true, false, List, [], ◌∷◌, refl, sym, ◌∙◌, ap, subst, zero, suc, arith}
use Rattle.std.specs.Prelude.{◌^◌, Option, Some, if◌then◌else◌, is_some, slice_get}
use Rattle.std.specs.List.{list_all, remove}
use Rattle.vx_space.specs.Sets.{Sets, Extends}
use Rattle.vx_space.proofs.Spaces.{Extends-refl}
use Rattle.vx_cond.specs.Cond.{Conditional}
use Rattle.vx_cond.specs.Leaves.{value_at}
use Rattle.vx_group.specs.declared.callers.Caller.{Caller}
use Rattle.vx_group.specs.Callers.{frames_at}
use Rattle.vx_group.specs.Group.{GroupView, IsGroup, IsGroupIn, PlainGroup, attempts_at, path_of, shapes_of, stack_of}
use Rattle.vx_group.proofs.GroupLaws.{IsGroupIn-group, IsGroupIn-same_callers, IsGroup-path_known}
use Rattle.vx_heap.specs.Heap.{HeapView, IsHeap}
use Rattle.vx_heap.proofs.HeapLaws.{IsHeap-extends}
use Rattle.vx_heap.proofs.Places.{place_of_some}
use Rattle.vx_findings.specs.Shared.{leaves_of}
use Rattle.vx_link.specs.declared.program.Program.{Program}
use Rattle.vx_sched.specs.Groups as sched
use Rattle.vx_sched.proofs.GroupsLaws.{IsTaken, is_taken, shaped_taken}
use Rattle.vx_group_states.specs.Stands.{StandsIn, frame_held, is_shaped, state_at}
use Rattle.std.proofs.lemmas.Option.{slice_get_within}
use Rattle.vx_group_states.proofs.StateLaws.{StandsIn-extends, state_at-extends}
use Rattle.vx_placing.specs.declared.round.Round.{Round}
use Rattle.vx_standing.specs.Attempted.{MayAttempt}
use Rattle.vx_standing.specs.Waiting.{AreWaiting, IsGood}
use Rattle.vx_placing.specs.Placing.{IsUnderway, IsUnwritten, IsVacant}
use Rattle.vx_standing.specs.State.{AreRunning, IsRunning, IsState, StateView, group_of}
use Rattle.vx_turns.specs.Turns.{IsBegun, IsCount, IsSpent}
use Rattle.vx_standing.proofs.Running.{AreWaiting-running, later_none}
use Rattle.vx_standing.proofs.Waiting.{groups_apart}

-- ---- the group of a place

running_at : {S I : Type 0} (p : Program) (sets : Sets I) (st : StateView S I) (groups : List (GroupView S I)) (which : ℕ) (group : GroupView S I) → AreRunning p sets st groups → slice_get groups which ≡ Some group → IsRunning p sets st group
running_at p sets st [] which group r e = cc e
running_at {S = S} {I = I} p sets st (g ∷ groups) zero group r e = subst (λ x. IsRunning p sets st x) (same g group e) r.0
  where
    same : (a b : GroupView S I) → ◌≡◌ {A = Option (GroupView S I)} (Some a) (Some b) → a ≡ b
    same a b h = cc h
running_at p sets st (g ∷ groups) (suc which) group r e = running_at p sets st groups which group r.1 e

pub chosen_running : {S I : Type 0} (p : Program) (sets : Sets I) (allowed : I) (st after : StateView S I) (which : ℕ) (round : Round S I) (group : GroupView S I) → IsState p sets allowed st → IsBegun st after which round group → IsRunning p sets st group
chosen_running p sets allowed st after which round group h b = running_at p sets st st.groups which group h.running b.chosen

pub chosen_taken : {S I : Type 0} (p : Program) (sets : Sets I) (allowed : I) (st after : StateView S I) (which : ℕ) (round : Round S I) (group : GroupView S I) → IsState p sets allowed st → IsBegun st after which round group → IsTaken sets st.tree st.groups group (remove st.groups which)
chosen_taken p sets allowed st after which round group h b = is_taken sets st.tree st.groups which group (slice_get_within st.groups which group b.chosen) (place_of_some st.groups which group (sym b.chosen)) h.groups

-- it may make an attempt more
pub may_spend : {S I : Type 0} (p : Program) (sets : Sets I) (allowed : I) (st after : StateView S I) (which : ℕ) (round : Round S I) (group : GroupView S I) → IsState p sets allowed st → IsBegun st after which round group → (c : List Bool) → sets.test (path_of group) c ≡ true → suc (attempts_at sets group c) < 2 ^ 64
may_spend p sets allowed st after which round group h b c t =
    let left = (chosen_running p sets allowed st after which round group h b).left c t in
    let most = h.most in
    omega (arith, left, most)

pub chosen_is_group : {S I : Type 0} (p : Program) (sets : Sets I) (allowed : I) (st after : StateView S I) (which : ℕ) (round : Round S I) (group : GroupView S I) → IsState p sets allowed st → IsBegun st after which round group → IsGroup sets group
chosen_is_group p sets allowed st after which round group h b = IsGroupIn-group sets st.tree group (chosen_running p sets allowed st after which round group h b).stands.is_group

-- ---- the others wait

pub rest_waits : {S I : Type 0} (p : Program) (sets : Sets I) (st : StateView S I) (which : ℕ) (group : GroupView S I) → AreWaiting p sets st.heap st.tree st.limit st.groups → IsTaken sets st.tree st.groups group (remove st.groups which) → AreWaiting p sets st.heap st.tree st.limit (remove st.groups which)
rest_waits {S = S} {I = I} p sets st which group w k = record {
  are_groups = k.others;
  shaped = shaped_taken (list_all (is_shaped p)) st.tree st.groups which w.shaped;
  good = λ c. cases c (sets.test (path_of group) c) refl (w.good c);
}
  where
    cases : (c : List Bool) (b : Bool) → sets.test (path_of group) c ≡ b → IsGood sets st.heap st.limit c (sched.standing_at sets st.tree st.groups c) → IsGood sets st.heap st.limit c (sched.standing_at sets st.tree (remove st.groups which) c)
    cases c true t g = let Q : Option PlainGroup → Type 0 = λ o. IsGood sets st.heap st.limit c o in subst Q (sym (later_none sets st.tree (path_of group) (remove st.groups which) k.beside.apart c t)) tt
    cases c false t g = let Q : Option PlainGroup → Type 0 = λ o. IsGood sets st.heap st.limit c o in subst Q (k.outside c t) g

pub begun_underway : {S I : Type 0} (p : Program) (sets : Sets I) (allowed : I) (st after : StateView S I) (which : ℕ) (round : Round S I) (group : GroupView S I) → IsState p sets allowed st → IsBegun st after which round group → IsUnderway p sets st.heap st.limit round
begun_underway p sets allowed st after which round group h b = record {
  waiting = rw (b.callers, b.groups) (rest_waits p sets st which group (AreWaiting-running p sets st st.groups h.groups h.running) (chosen_taken p sets allowed st after which round group h b));
  ends = rw b.ends h.ends;
  spent = rw b.spent h.spent;
  texts = rw b.texts tt;
}

-- ---- the group with its attempt counted

same_top : {S I : Type 0} (s0 s1 : Sets I) (group spent : GroupView S I) (attempts : Conditional ℕ S I) → IsSpent s0 s1 group spent attempts → (spent.top ≡ group.top) × (spent.below ≡ group.below) × (spent.caller ≡ group.caller)
same_top s0 s1 group spent attempts q = (ap (λ g. g.top) q.same, ap (λ g. g.below) q.same, ap (λ g. g.caller) q.same)

pub spent_stands : {S I : Type 0} (p : Program) {s0 s1 : Sets I} → Extends s0 s1 → (heap : HeapView S I) → IsHeap s0 heap → (tree : List (Option (Caller S I))) (group spent : GroupView S I) (attempts : Conditional ℕ S I) → StandsIn p s0 heap tree group → IsSpent s0 s1 group spent attempts → StandsIn p s1 heap tree spent
spent_stands {S = S} {I = I} p {s1 = s1} e heap v tree group spent attempts s q =
    let later = StandsIn-extends p tree e heap v group s in
    let same = same_top _ s1 group spent attempts q in
    record {
      is_group = IsGroupIn-same_callers tree (Extends-refl s1) group spent later.is_group q.is_group same.1 same.2 (λ c t. ap (λ i. s1.test i c) (sym q.path) ∙ t);
      runs = record { inside = λ c t. later.runs.inside c (ap (λ i. s1.test i c) (sym q.path) ∙ t) };
      held = λ c t. let P : GroupView S I → Type 0 = λ g. list_all (frame_held s1 heap c) (frames_at s1 (stack_of tree g) c) ≡ true in
          subst P (sym q.same) (later.held c (ap (λ i. s1.test i c) (sym q.path) ∙ t));
      shaped = let P : GroupView S I → Type 0 = λ g. list_all (is_shaped p) (shapes_of tree g) ≡ true in subst P (sym q.same) later.shaped;
    }

pub spent_state : {S I : Type 0} {s0 s1 : Sets I} → Extends s0 s1 → (heap : HeapView S I) → IsHeap s0 heap → (tree : List (Option (Caller S I))) (group spent : GroupView S I) (attempts : Conditional ℕ S I) → IsGroupIn s0 tree group → IsSpent s0 s1 group spent attempts → (c : List Bool) → state_at s1 heap tree spent c ≡ state_at s0 heap tree group c
spent_state {s1 = s1} e heap v tree group spent attempts g q c = ap (λ x. state_at s1 heap tree x c) q.same ∙ state_at-extends tree e heap v group g c

pub spent_path : {S I : Type 0} {s0 s1 : Sets I} → Extends s0 s1 → (group spent : GroupView S I) (attempts : Conditional ℕ S I) → s0.is_known (path_of group) ≡ true → IsSpent s0 s1 group spent attempts → (c : List Bool) → s1.test (path_of spent) c ≡ s0.test (path_of group) c
spent_path {s1 = s1} e group spent attempts k q c = ap (λ i. s1.test i c) q.path ∙ e.test (path_of group) c k

pub spent_may : {S I : Type 0} (p : Program) {s0 s1 : Sets I} → Extends s0 s1 → (allowed : I) (st after : StateView S I) (which : ℕ) (round : Round S I) (group spent : GroupView S I) (attempts : Conditional ℕ S I) → IsState p s0 allowed st → IsBegun st after which round group → IsSpent s0 s1 group spent attempts → MayAttempt p s1 st.heap st.tree spent
spent_may p {s0 = s0} e allowed st after which round group spent attempts h b q =
    let running = chosen_running p s0 allowed st after which round group h b in
    record {
      bounded = h.bounded;
      is_heap = IsHeap-extends e st.heap h.is_heap;
      is_for = h.is_for;
      nonempty = λ n. (chosen_taken p s0 allowed st after which round group h b).beside.nonempty (sym q.path ∙ n ∙ e.never);
      stands = spent_stands p e st.heap h.is_heap st.tree group spent attempts running.stands q;
    }

pub spent_count : {S I : Type 0} (p : Program) {s0 s1 : Sets I} → Extends s0 s1 → (allowed : I) (st after : StateView S I) (which : ℕ) (round : Round S I) (group spent : GroupView S I) (attempts : Conditional ℕ S I) → IsState p s0 allowed st → IsBegun st after which round group → IsSpent s0 s1 group spent attempts → IsCount s1 spent st.limit attempts
spent_count p {s0 = s0} {s1 = s1} e allowed st after which round group spent attempts h b q =
    let running = chosen_running p s0 allowed st after which round group h b in
    let known = IsGroup-path_known s0 group (chosen_is_group p s0 allowed st after which round group h b) in
    record {
      is_cond = q.is_cond;
      scope = q.scope;
      at = q.at;
      bound = λ c t. let path = sym (spent_path e group spent attempts known q c) ∙ t in
          let more = q.more c path in
          let left = running.left c path in
          omega (arith, more, left);
    }

pub begun_vacant : {S I : Type 0} (p : Program) {s0 s1 : Sets I} → Extends s0 s1 → (allowed : I) (st after : StateView S I) (which : ℕ) (round : Round S I) (group spent : GroupView S I) (attempts : Conditional ℕ S I) → IsState p s0 allowed st → IsBegun st after which round group → IsSpent s0 s1 group spent attempts → IsVacant s0 round (s1.test (path_of spent))
begun_vacant {S = S} {I = I} p {s0 = s0} {s1 = s1} e allowed st after which round group spent attempts h b q =
    let known = IsGroup-path_known s0 group (chosen_is_group p s0 allowed st after which round group h b) in
    let taken = chosen_taken p s0 allowed st after which round group h b in
    let path = λ (c : List Bool) (t : s1.test (path_of spent) c ≡ true). sym (spent_path e group spent attempts known q c) ∙ t in
    record {
      groups = λ c t. ap (λ gs. group_of s0 gs c) b.groups ∙ groups_apart s0 (path_of group) (remove st.groups which) c taken.beside.apart (path c t);
      ends = λ c t. ap (λ xs. value_at s0 (leaves_of xs) c) b.ends ∙ (h.goes_on c (stands c st.groups which b.chosen (path c t))).end;
      spent = λ c t. ap (λ xs. value_at s0 (leaves_of xs) c) b.spent ∙ (h.goes_on c (stands c st.groups which b.chosen (path c t))).spent;
    }
  where
    stands : (c : List Bool) (groups : List (GroupView S I)) (which : ℕ) → slice_get groups which ≡ Some group → s0.test (path_of group) c ≡ true → is_some (group_of s0 groups c) ≡ true
    stands c [] which e t = cc e
    stands c (g ∷ groups) zero e t = here (s0.test (path_of g) c) (ap (λ x. s0.test (path_of x) c) (same g group e) ∙ t)
      where
        same : (a b : GroupView S I) → ◌≡◌ {A = Option (GroupView S I)} (Some a) (Some b) → a ≡ b
        same a b h = cc h

        here : (b : Bool) → b ≡ true → is_some (if b then Some g else group_of s0 groups c) ≡ true
        here true h = refl
        here false h = cc h
    stands c (g ∷ groups) (suc which) e t = later (s0.test (path_of g) c) (stands c groups which e t)
      where
        later : (b : Bool) → is_some (group_of s0 groups c) ≡ true → is_some (if b then Some g else group_of s0 groups c) ≡ true
        later true h = refl
        later false h = h

pub begun_unwritten : {S I : Type 0} (st after : StateView S I) (which : ℕ) (round : Round S I) (group : GroupView S I) (sets : Sets I) (set : List Bool → Bool) → IsBegun st after which round group → IsUnwritten sets round set
begun_unwritten st after which round group sets set b = record { texts = λ c t. ap (λ xs. value_at sets (leaves_of xs) c) b.texts }
