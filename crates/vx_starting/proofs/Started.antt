-- The states with which runs begin.
use Rattle.std.proofs.Common.{◌≡◌, ℕ, ◌<◌, ◌≤◌, ◌+◌, ◌^◌, Bool, true, false, List, [], ◌∷◌, ◌++◌, refl, sym, ◌∙◌, ap, subst, cond, length, map, arith}
use Rattle.std.proofs.lemmas.Bool.{lt-ltb}
use Rattle.std.specs.Prelude.{Option, Some, None, if◌then◌else◌, is_some, reverse, unwrap_or}
use Rattle.vx_cond.specs.Cond.{Conditional, cond_at}
use Rattle.vx_findings.specs.declared.piece.Piece.{Piece}
use Rattle.vx_findings.specs.declared.shared.Shared.{Shared}
use Rattle.vx_group.specs.declared.callers.Caller.{Caller}
use Rattle.vx_frame.specs.Frame.{frame_at}
use Rattle.vx_group.specs.Callers.{callers_of, frames_at}
use Rattle.vx_group.specs.Group.{GroupView, IsGroupIn, attempts_at, depth_of, path_of}
use Rattle.vx_group.specs.Sweep.{StandIn}
use Rattle.vx_heap.specs.First.{IsFirstHeap}
use Rattle.vx_heap.specs.Heap.{HeapView, IsHeap, IsHeapFor, globals_at}
use Rattle.vx_init.specs.Beginning.{IsChainPushed}
use Rattle.vx_java.specs.Initialisation.{with_frames}
use Rattle.vx_java.specs.Machine.{State, with_inits}
use Rattle.vx_java.specs.Step.{Live, before_main, fresh_progress, start}
use Rattle.vx_link.specs.declared.program.Program.{Program}
use Rattle.vx_ready.specs.Initialising.{numbers_of}
use Rattle.vx_standing.proofs.Counting.{attempts_left_most}
use Rattle.vx_standing.specs.Rounds.{IsStart}
use Rattle.vx_starting.specs.Starting.{EndAtStart, GoOn, IsMainGroup, IsMarkedHeap, IsPushedGroup, MayStart, begun_state, first_state, main_chain, main_state}
use Rattle.vx_standing.specs.State.{Came, IsState, Runs, StateView, attempts_in, attempts_left, standing_at, standing_in, standing_if, standing_of}
use Rattle.vx_space.specs.Sets.{Extends, Sets}
use Rattle.vx_group_states.specs.Stands.{StandsIn, plain_frame, state_at, state_of}
use Rattle.vx_turns.proofs.Tended.{state_nodes, swept_tree, tended_swept}
use Rattle.vx_turns.specs.Tending.{IsSweptState}
use Rattle.vx_value.specs.declared.end.End.{End}
use Rattle.vx_value.specs.declared.ids.ClassId.{ClassId}
use Rattle.vx_value.specs.declared.slot.InitState.TheVariants.{Done, Running}

none_more : (n m : ℕ) → n ≤ m → 0 + n ≤ m
none_more n m l = omega (arith, l)

-- a later space serves too
MayStart-extends : {I : Type 0} (p : Program) {old sets : Sets I} → Extends old sets → (allowed : I) (limit : ℕ) → MayStart p old allowed limit → MayStart p sets allowed limit
MayStart-extends p x allowed limit m = record {
  bounded = m.bounded;
  options = rw x.options m.options;
  known = x.known allowed m.known;
  some = λ e. m.some (e ∙ x.never);
  least = m.least;
  most = m.most;
}

-- ---- all runs end

abbrev ended_state : {S I : Type 0} → HeapView S I → I → ℕ → End → StateView S I
ended_state heap allowed limit end =
    record {
      heap = heap;
      tree = [];
      groups = [];
      limit = limit;
      rounds = 0;
      found = [];
      ends = record { condition = allowed; value = end } ∷ [];
      spent = record { condition = allowed; value = 0 } ∷ [];
    }

ended_standing : {S I : Type 0} (sets : Sets I) (heap : HeapView S I) (allowed : I) (limit : ℕ) (end : End) (c : List Bool) → sets.test allowed c ≡ true → standing_at sets (ended_state heap allowed limit end) c ≡ Some (Came (record { output = []; end = end; attempts = 0 }))
ended_standing sets heap allowed limit end c t = rw t refl

ended_is_state : {S I : Type 0} (p : Program) (sets : Sets I) (allowed : I) (limit : ℕ) (end : End) (heap : HeapView S I) → MayStart p sets allowed limit → IsFirstHeap p sets allowed heap → IsState p sets allowed (ended_state heap allowed limit end)
ended_is_state {S = S} p sets allowed limit end heap m f = record {
  bounded = m.bounded;
  some = m.least;
  most = m.most;
  is_heap = f.is_heap;
  is_for = f.is_for;
  runs = f.runs;
  groups = tt;
  running = tt;
  found = tt;
  ends = (record { known = m.known; nonempty = m.some; below = tt; apart = record { none = λ c t. refl } }, tt);
  spent = (record { known = m.known; nonempty = m.some; below = tt; apart = record { none = λ c t. refl } }, tt);
  everywhere = λ c t. ap is_some (ended_standing sets heap allowed limit end c t);
  nowhere = λ c t. record { group = refl; output = refl; end = rw t refl; spent = rw t refl };
  goes_on = λ c h. cc h;
  counted = none_more (attempts_left sets (ended_state heap allowed limit end)) (attempts_in sets allowed limit) (attempts_left_most sets allowed (ended_state heap allowed limit end) (λ c t. refl));
}

ended_is_start : {S I : Type 0} (p : Program) (sets : Sets I) (allowed : I) (limit : ℕ) (end : End) (heap : HeapView S I) → MayStart p sets allowed limit → EndAtStart p end → IsFirstHeap p sets allowed heap → IsStart p sets allowed limit (ended_state heap allowed limit end)
ended_is_start p sets allowed limit end heap m o f = record {
  is_state = ended_is_state p sets allowed limit end heap m f;
  tree = tt;
  limited = refl;
  rounds = refl;
  found = refl;
  standing = λ c t. ended_standing sets heap allowed limit end c t ∙ ap (λ run. Some (standing_of limit run)) (sym (o.over c));
}

one_item : {A : Type 0} {xs ys : List A} (x : A) → xs ≡ [] → ys ≡ xs ++ x ∷ [] → ys ≡ x ∷ []
one_item x e h = h ∙ ap (λ zs. zs ++ x ∷ []) e

-- the same, of lists that were made one by one
pub ended-made : {S I : Type 0} (p : Program) {old sets : Sets I} → Extends old sets → (allowed : I) (limit : ℕ) (end : End) (heap : HeapView S I) (tree : List (Option (Caller S I))) (groups : List (GroupView S I)) (found : List (Shared Piece S I)) (ends no_ends : List (Shared End S I)) (spent no_spent : List (Shared ℕ S I)) → MayStart p old allowed limit → EndAtStart p end → IsFirstHeap p sets allowed heap → tree ≡ [] → groups ≡ [] → found ≡ [] → no_ends ≡ [] → ends ≡ no_ends ++ record { condition = allowed; value = end } ∷ [] → no_spent ≡ [] → spent ≡ no_spent ++ record { condition = allowed; value = 0 } ∷ [] → IsStart p sets allowed limit (record { heap = heap; tree = tree; groups = groups; limit = limit; rounds = 0; found = found; ends = ends; spent = spent })
ended-made p {sets = sets} x allowed limit end heap tree groups found ends no_ends spent no_spent m o f t g w ne e ns s =
    let one_end : ends ≡ record { condition = allowed; value = end } ∷ [] = one_item (record { condition = allowed; value = end }) ne e in
    let one_spent : spent ≡ record { condition = allowed; value = 0 } ∷ [] = one_item (record { condition = allowed; value = 0 }) ns s in
    let same : ended_state heap allowed limit end ≡ record { heap = heap; tree = tree; groups = groups; limit = limit; rounds = 0; found = found; ends = ends; spent = spent } = λ i. record { heap = heap; tree = sym t i; groups = sym g i; limit = limit; rounds = 0; found = sym w i; ends = sym one_end i; spent = sym one_spent i } in
    subst (IsStart p sets allowed limit) same (ended_is_start p sets allowed limit end heap (MayStart-extends p x allowed limit m) o f)

-- ---- all runs begin in one group

live_there : (limit : ℕ) (s : State) → 0 < limit → standing_of limit (Live (fresh_progress s)) ≡ Runs (fresh_progress s)
live_there limit s l = ap (λ b. standing_if (Live (fresh_progress s)) (cond b (Some (fresh_progress s)) None)) (lt-ltb 0 limit l)

module _ {S I : Type 0} (p : Program) (sets : Sets I) (allowed : I) (limit : ℕ) (heap : HeapView S I) (tree : List (Option (Caller S I))) (group : GroupView S I) (m : MayStart p sets allowed limit) (stands : StandsIn p sets heap tree group) (path : path_of group ≡ allowed) (fresh : (c : List Bool) → sets.test allowed c ≡ true → attempts_at sets group c ≡ 0) where
  begun_standing : (c : List Bool) → sets.test allowed c ≡ true → standing_at sets (begun_state heap tree limit group) c ≡ Some (Runs (fresh_progress (state_at sets heap tree group c)))
  begun_standing c t =
      ap (λ b. standing_in sets (begun_state heap tree limit group) c (if b then Some group else None)) (ap (λ id. sets.test id c) path ∙ t)
      ∙ (λ i. Some (Runs (record { state = state_at sets heap tree group c; output = []; attempts = fresh c t i })))

  begun_is_state : IsHeap sets heap → IsHeapFor p heap → heap.allowed ≡ allowed → IsState p sets allowed (begun_state heap tree limit group)
  begun_is_state v f r = record {
    bounded = m.bounded;
    some = m.least;
    most = m.most;
    is_heap = v;
    is_for = f;
    runs = r;
    groups = (record { is_group = stands.is_group; nonempty = λ e. m.some (sym path ∙ e); apart = tt; fresh = tt }, tt);
    running = (record { stands = stands; left = λ c t. rw (fresh c (ap (λ id. sets.test id c) (sym path) ∙ t)) m.least }, tt);
    found = tt;
    ends = tt;
    spent = tt;
    everywhere = λ c t. ap is_some (begun_standing c t);
    nowhere = λ c t. record { group = rw (ap (λ id. sets.test id c) path ∙ t) refl; output = refl; end = refl; spent = refl };
    goes_on = λ c t. record { end = refl; spent = refl };
    counted = none_more (attempts_left sets (begun_state heap tree limit group)) (attempts_in sets allowed limit) (attempts_left_most sets allowed (begun_state heap tree limit group) (λ c t. rw (ap (λ id. sets.test id c) path ∙ t) refl));
  }

  -- what stands there is what the start of a run comes to
  begun_as_runs : (is_quiet : Bool) → GoOn p is_quiet → ((c : List Bool) → sets.test allowed c ≡ true → state_at sets heap tree group c ≡ first_state p c is_quiet) → (c : List Bool) → sets.test allowed c ≡ true → standing_at sets (begun_state heap tree limit group) c ≡ Some (standing_of limit (start p c))
  begun_as_runs is_quiet o at c t =
      begun_standing c t
      ∙ ap (λ s. Some (Runs (fresh_progress s))) (at c t)
      ∙ ap Some (sym (live_there limit (first_state p c is_quiet) m.least))
      ∙ ap (λ run. Some (standing_of limit run)) (sym (o.live c))

-- the state is made of new lists
pub begun-made : {S I : Type 0} (heap : HeapView S I) (tree : List (Option (Caller S I))) (limit : ℕ) (group : GroupView S I) (groups no_groups : List (GroupView S I)) (found : List (Shared Piece S I)) (ends : List (Shared End S I)) (spent : List (Shared ℕ S I)) → no_groups ≡ [] → groups ≡ no_groups ++ group ∷ [] → found ≡ [] → ends ≡ [] → spent ≡ [] → record { heap = heap; tree = tree; groups = groups; limit = limit; rounds = 0; found = found; ends = ends; spent = spent } ≡ begun_state heap tree limit group
begun-made heap tree limit group groups no_groups found ends spent nr r w e s =
    let one_group : groups ≡ group ∷ [] = one_item group nr r in
    λ i. record { heap = heap; tree = tree; groups = one_group i; limit = limit; rounds = 0; found = w i; ends = e i; spent = s i }

-- ---- with main on top

at_main : {S I : Type 0} (p : Program) (sets : Sets I) (allowed : I) (heap : HeapView S I) (group : GroupView S I) → IsMainGroup p sets allowed heap group → (c : List Bool) → sets.test allowed c ≡ true → state_at sets heap [] group c ≡ main_state p (globals_at sets heap c)
at_main {S = S} {I = I} p sets allowed heap group g c t =
    let callers : state_at sets heap [] group c ≡ state_of (globals_at sets heap c) (plain_frame sets heap c (frame_at sets group.top c)) [] =
    ap (λ below. state_of (globals_at sets heap c) (plain_frame sets heap c (frame_at sets group.top c)) (map (plain_frame sets heap c) (frames_at {S = S} {I = I} sets (callers_of {S = S} {I = I} [] (length below) group.caller) c))) g.single in
    callers ∙ (λ i. state_of (globals_at sets heap c) (g.frame c t i) [])

quiet_is_start : {S I : Type 0} (p : Program) (sets : Sets I) (allowed : I) (limit : ℕ) (heap : HeapView S I) (group : GroupView S I) → MayStart p sets allowed limit → GoOn p true → IsMarkedHeap p sets allowed Done (main_chain p) heap → IsMainGroup p sets allowed heap group → IsStart p sets allowed limit (begun_state heap [] limit group)
quiet_is_start p sets allowed limit heap group m o h g = record {
  is_state = begun_is_state p sets allowed limit heap [] group m g.stands g.path g.fresh h.is_heap h.is_for h.runs;
  tree = tt;
  limited = refl;
  rounds = refl;
  found = refl;
  standing = begun_as_runs p sets allowed limit heap [] group m g.stands g.path g.fresh true o (λ c t. at_main p sets allowed heap group g c t ∙ ap (main_state p) (h.at c t));
}

pub quiet-made : {S I : Type 0} (p : Program) {old sets : Sets I} → Extends old sets → (allowed : I) (limit : ℕ) (classes : List ℕ) (heap : HeapView S I) (group : GroupView S I) (tree : List (Option (Caller S I))) (state : StateView S I) → MayStart p old allowed limit → GoOn p true → classes ≡ main_chain p → IsMarkedHeap p sets allowed Done classes heap → IsMainGroup p sets allowed heap group → tree ≡ [] → state ≡ begun_state heap tree limit group → IsStart p sets allowed limit state
quiet-made p {sets = sets} x allowed limit classes heap group tree state m o q h g t e =
    subst (IsStart p sets allowed limit) (sym (e ∙ ap (λ tr. begun_state heap tr limit group) t)) (quiet_is_start p sets allowed limit heap group (MayStart-extends p x allowed limit m) o (subst (λ xs. IsMarkedHeap p sets allowed Done xs heap) q h) g)

-- ---- with a chain above main

pub IsPushedGroup-made : {S I : Type 0} (p : Program) (sets : Sets I) (allowed : I) (heap : HeapView S I) (tree later : List (Option (Caller S I))) (group after : GroupView S I) (chain : List ClassId) → tree ≡ [] → IsMainGroup p sets allowed heap group → IsChainPushed p sets tree later group chain after → IsPushedGroup p sets allowed heap later (numbers_of chain) after
IsPushedGroup-made {S = S} {I = I} p sets allowed heap tree later group after chain none g pushed =
    let e : IsChainPushed p sets [] later group chain after = subst (λ t. IsChainPushed p sets t later group chain after) none pushed in
    let there : (c : List Bool) → sets.test allowed c ≡ true → sets.test (path_of group) c ≡ true = λ c t. ap (λ id. sets.test id c) g.path ∙ t in
    record {
      stands = (e.continues heap g.stands).stands;
      path = ap (λ (cond : Conditional ℕ S I). cond.scope) e.attempts ∙ g.path;
      fresh = λ c t. ap (λ (cond : Conditional ℕ S I). unwrap_or (cond_at sets cond c) 0) e.attempts ∙ g.fresh c t;
      at = λ c t. e.at heap c (there c t) ∙ ap (λ s. with_frames p s (reverse (numbers_of chain))) (at_main p sets allowed heap group g c t);
    }

-- what push_chain asks for
pub main_in : {S I : Type 0} (p : Program) (sets : Sets I) (allowed : I) (heap : HeapView S I) (tree : List (Option (Caller S I))) (group : GroupView S I) → tree ≡ [] → IsMainGroup p sets allowed heap group → IsGroupIn sets tree group
main_in p sets allowed heap tree group none g = subst (λ t. IsGroupIn sets t group) (sym none) g.stands.is_group

pub main_fits : {S I : Type 0} (p : Program) (sets : Sets I) (allowed : I) (heap : HeapView S I) (group : GroupView S I) (chain : List ClassId) → length chain < 1024 → IsMainGroup p sets allowed heap group → depth_of group + length chain < 2 ^ 32
main_fits p sets allowed heap group chain l g =
    let single : length group.below ≡ 0 = ap length g.single in
    omega (arith, l, single)

module _ {S I : Type 0} (p : Program) {old sets : Sets I} (x : Extends old sets) (allowed : I) (limit : ℕ) (classes : List ℕ) (heap : HeapView S I) (tree : List (Option (Caller S I))) (group : GroupView S I) (start_may : MayStart p old allowed limit) (q : classes ≡ main_chain p) (h : IsMarkedHeap p sets allowed Running classes heap) (g : IsPushedGroup p sets allowed heap tree classes group) where
  may : MayStart p sets allowed limit
  may = MayStart-extends p x allowed limit start_may

  is_state : IsState p sets allowed (begun_state heap tree limit group)
  is_state = begun_is_state p sets allowed limit heap tree group may g.stands g.path g.fresh h.is_heap h.is_for h.runs

  at_first : (c : List Bool) → sets.test allowed c ≡ true → state_at sets heap tree group c ≡ first_state p c false
  at_first c t =
      g.at c t
      ∙ ap (λ x. with_frames p (main_state p x) (reverse classes)) (h.at c t)
      ∙ ap (λ cs. with_frames p (with_inits (before_main p c) Running cs) (reverse cs)) q

  -- what the sweep asks for
  pub pushed_nodes : (state : StateView S I) → state ≡ begun_state heap tree limit group → StandIn state.tree state.groups
  pushed_nodes state e = subst (λ (st : StateView S I). StandIn st.tree st.groups) (sym e) (state_nodes p sets allowed (begun_state heap tree limit group) is_state)

  swept : GoOn p false → (after : StateView S I) → IsSweptState (begun_state heap tree limit group) after → IsStart p sets allowed limit after
  swept o after w =
      let st = begun_state heap tree limit group in
      let tended = tended_swept p sets allowed st after is_state w in
      record {
        is_state = tended.is_state p allowed is_state;
        tree = swept_tree p sets allowed st after is_state w;
        limited = ap (λ (y : StateView S I). y.limit) w.rest;
        rounds = ap (λ (y : StateView S I). y.rounds) w.rest;
        found = ap (λ (y : StateView S I). y.found) w.rest;
        standing = λ c t. tended.standing c ∙ begun_as_runs p sets allowed limit heap tree group may g.stands g.path g.fresh false o at_first c t;
      }

  pub pushed-made : GoOn p false → (state after : StateView S I) → state ≡ begun_state heap tree limit group → IsSweptState state after → IsStart p sets allowed limit after
  pushed-made o state after e w = swept o after (subst (λ (st : StateView S I). IsSweptState st after) e w)
