-- A state between two rounds, with callers dropped and sets forgotten, and rounds before and after.
use Rattle.std.proofs.Common.{◌≡◌, ℕ, ◌<◌, Bool, List, [], ◌∷◌, ◌++◌, refl, sym, ◌∙◌, ap, subst, length, suc, zero}
use Rattle.std.specs.Prelude.{Option, Some, is_some, slice_get}
use Rattle.std.specs.List.{flat_map}
use Rattle.vx_space.specs.Sets.{Sets, AreKept, IsCompacted}
use Rattle.vx_space.proofs.Spaces.{AreKept-refl}
use Rattle.vx_cond.specs.Keeping.{AreKept-append_left, AreKept-append_right}
use Rattle.vx_cond.specs.Leaves.{value_at}
use Rattle.vx_group.specs.declared.callers.Caller.{Caller}
use Rattle.vx_group.specs.Group.{GroupView, group_ids, path_of}
use Rattle.vx_group.specs.Sweep.{IsSwept, StandIn}
use Rattle.vx_findings.specs.Shared.{leaves_of}
use Rattle.vx_java.specs.Lockstep.{piece_of}
use Rattle.vx_link.specs.declared.program.Program.{Program}
use Rattle.vx_standing.specs.Rounds.{IsRound, IsRoundAt, after_round, written}
use Rattle.vx_standing.specs.State.{IsState, IsTreeKnown, StateView, output_at, shared_ids, standing_at, state_ids}
use Rattle.vx_standing.proofs.Keeping.{IsState-kept, groups_known, standing_at-kept, state_kept}
use Rattle.vx_standing.proofs.Running.{AreRunning-waiting, AreWaiting-running, standing_at-by, standing_by}
use Rattle.vx_standing.proofs.Trees.{AllKept, AreWaiting-swept, all_reached, nodes_of, swept_known, waiting_at-swept}
use Rattle.vx_turns.specs.Tending.{IsSweptState, IsTended}

-- ---- kept ids

kept_through : {I : Type 0} (s0 s1 s2 : Sets I) (ids : List I) → AreKept s0 s1 ids → AreKept s1 s2 ids → AreKept s0 s2 ids
kept_through s0 s1 s2 [] k l = tt
kept_through s0 s1 s2 (id ∷ ids) k l = (record { known = l.0.known; test = λ c. l.0.test c ∙ k.0.test c }, kept_through s0 s1 s2 ids k.1 l.1)

path_kept : {S I : Type 0} (s0 s1 : Sets I) (groups : List (GroupView S I)) (which : ℕ) (group : GroupView S I) → AreKept s0 s1 (flat_map group_ids groups) → slice_get groups which ≡ Some group → (c : List Bool) → s1.test (path_of group) c ≡ s0.test (path_of group) c
path_kept s0 s1 [] which group k e c = cc e
path_kept {S = S} {I = I} s0 s1 (g ∷ groups) zero group k e c = ap (λ x. s1.test (path_of x) c) (sym (same g group e)) ∙ (AreKept-append_left s0 s1 (group_ids g) (flat_map group_ids groups) k).0.test c ∙ ap (λ x. s0.test (path_of x) c) (same g group e)
  where
    same : (a b : GroupView S I) → ◌≡◌ {A = Option (GroupView S I)} (Some a) (Some b) → a ≡ b
    same a b h = cc h
path_kept s0 s1 (g ∷ groups) (suc which) group k e c = path_kept s0 s1 groups which group (AreKept-append_right s0 s1 (group_ids g) (flat_map group_ids groups) k) e c

-- ---- a sweep

module _ {S I : Type 0} (sets : Sets I) (st : StateView S I) (tree : List (Option (Caller S I))) (w : IsSwept st.tree tree st.groups) where
  abbrev cleared : StateView S I
  cleared = record st { tree = tree }

  reached : AllKept st.tree tree st.groups
  reached = all_reached st.tree tree st.groups w

  swept_standing : (p : Program) (allowed : I) → IsState p sets allowed st → (c : List Bool) → standing_at sets cleared c ≡ standing_at sets st c
  swept_standing p allowed h c =
      let waits = waiting_at-swept sets st.heap st.tree tree st.groups reached h.groups c in
      standing_at-by sets cleared c
      ∙ (λ i. standing_by (waits i) (output_at sets st.found c) (value_at sets (leaves_of st.ends) c) (value_at sets (leaves_of st.spent) c))
      ∙ sym (standing_at-by sets st c)

  swept_state : (p : Program) (allowed : I) → IsState p sets allowed st → IsState p sets allowed cleared
  swept_state p allowed h =
      let waiting = AreWaiting-swept p sets st.heap st.tree tree st.limit st.groups reached (AreWaiting-running p sets st st.groups h.groups h.running) in
      record {
        bounded = h.bounded;
        some = h.some;
        most = h.most;
        is_heap = h.is_heap;
        is_for = h.is_for;
        runs = h.runs;
        groups = waiting.are_groups;
        running = AreRunning-waiting p sets cleared st.groups waiting;
        found = h.found;
        ends = h.ends;
        spent = h.spent;
        everywhere = λ c t. ap is_some (swept_standing p allowed h c) ∙ h.everywhere c t;
        nowhere = λ c t. let n = h.nowhere c t in record { group = n.group; output = n.output; end = n.end; spent = n.spent };
        goes_on = λ c t. let g = h.goes_on c t in record { end = g.end; spent = g.spent };
        counted = h.counted;
      }

  tended_tree : (p : Program) (allowed : I) → IsState p sets allowed st → IsTended sets sets st cleared
  tended_tree p allowed h = record {
    is_state = swept_state;
    options = refl;
    rest = refl;
    allowed = λ c. refl;
    groups = AreKept-refl sets (flat_map group_ids st.groups) (groups_known sets st.tree st.groups h.groups);
    found = AreKept-refl sets (shared_ids st.found) h.found;
    standing = swept_standing p allowed h;
  }

pub state_nodes : {S I : Type 0} (p : Program) (sets : Sets I) (allowed : I) (st : StateView S I) → IsState p sets allowed st → StandIn st.tree st.groups
state_nodes p sets allowed st h = nodes_of sets st.tree st.groups h.groups

pub tended_swept : {S I : Type 0} (p : Program) (sets : Sets I) (allowed : I) (st after : StateView S I) → IsState p sets allowed st → IsSweptState st after → IsTended sets sets st after
tended_swept p sets allowed st after h w = subst (λ x. IsTended sets sets st x) (sym w.rest) (tended_tree sets st after.tree w.swept p allowed h)

-- the ids of the tree are known then
pub swept_tree : {S I : Type 0} (p : Program) (sets : Sets I) (allowed : I) (st after : StateView S I) → IsState p sets allowed st → IsSweptState st after → IsTreeKnown sets after
swept_tree p sets allowed st after h w = swept_known sets st.tree after.tree st.groups h.groups w.swept

-- ---- a compaction

pub tended_compacted : {S I : Type 0} (p : Program) (s0 s1 : Sets I) (allowed : I) (st : StateView S I) → IsState p s0 allowed st → IsCompacted s0 s1 (state_ids st) → IsTended s0 s1 st st
tended_compacted p s0 s1 allowed st h k =
    let parts = state_kept s0 s1 st k.kept in
    record {
      is_state = λ q a s. IsState-kept q s0 s1 a st k.never k.options parts s;
      options = k.options;
      rest = refl;
      allowed = parts.heap.0.test;
      groups = parts.groups;
      found = parts.found;
      standing = standing_at-kept s0 s1 k.never st parts h.groups;
    }

-- ---- nothing, and both

pub tended_not : {S I : Type 0} (p : Program) (sets : Sets I) (allowed : I) (st : StateView S I) → IsState p sets allowed st → IsTended sets sets st st
tended_not p sets allowed st h = record {
  is_state = λ q a s. s;
  options = refl;
  rest = refl;
  allowed = λ c. refl;
  groups = AreKept-refl sets (flat_map group_ids st.groups) (groups_known sets st.tree st.groups h.groups);
  found = AreKept-refl sets (shared_ids st.found) h.found;
  standing = λ c. refl;
}

pub IsTended-trans : {S I : Type 0} (s0 s1 s2 : Sets I) (st mid last : StateView S I) → IsTended s0 s1 st mid → IsTended s1 s2 mid last → IsTended s0 s2 st last
IsTended-trans {S = S} {I = I} s0 s1 s2 st mid last t u = record {
  is_state = λ p a h. u.is_state p a (t.is_state p a h);
  options = u.options ∙ t.options;
  rest = u.rest ∙ ap (λ (x : StateView S I). record x { tree = last.tree }) t.rest;
  allowed = λ c. ap (λ (x : StateView S I). s2.test x.heap.allowed c) (sym t.rest) ∙ u.allowed c ∙ ap (λ (x : StateView S I). s1.test x.heap.allowed c) t.rest ∙ t.allowed c;
  groups = kept_through s0 s1 s2 (flat_map group_ids st.groups) t.groups (subst (λ (x : StateView S I). AreKept s1 s2 (flat_map group_ids x.groups)) t.rest u.groups);
  found = kept_through s0 s1 s2 (shared_ids st.found) t.found (subst (λ (x : StateView S I). AreKept s1 s2 (shared_ids x.found)) t.rest u.found);
  standing = λ c. u.standing c ∙ t.standing c;
}

-- ---- rounds

-- a round of a state that was tended is one of the state before
IsRound-tended : {S I : Type 0} (p : Program) (s0 s1 s2 : Sets I) (allowed : I) (st tended after : StateView S I) (which : ℕ) (group : GroupView S I) → IsState p s0 allowed st → IsTended s0 s1 st tended → slice_get st.groups which ≡ Some group → IsRound p s1 s2 allowed tended after group → IsRound p s0 s2 allowed st after group
IsRound-tended {S = S} {I = I} p s0 s1 s2 allowed st tended after which group h t e r =
    let path = path_kept s0 s1 st.groups which group t.groups e in
    record {
      is_state = r.is_state;
      kept = λ c. r.kept c ∙ ap (λ i. s1.test i c) (sym h.runs) ∙ t.allowed c ∙ ap (λ i. s0.test i c) h.runs;
      options = r.options ∙ t.options;
      limit = r.limit ∙ ap (λ (x : StateView S I). x.limit) t.rest;
      rounds = r.rounds ∙ ap (λ (x : StateView S I). suc x.rounds) t.rest;
      standing = λ c. r.standing c
          ∙ ap (λ (x : StateView S I). after_round p x.limit (s1.test (path_of group) c) (standing_at s1 tended c)) t.rest
          ∙ (λ i. after_round p st.limit (path c i) (t.standing c i));
      texts = r.texts;
      found = r.found ∙ ap (λ (x : StateView S I). x.found ++ r.texts) t.rest;
      earlier = kept_through s0 s1 s2 (shared_ids st.found) t.found (subst (λ (x : StateView S I). AreKept s1 s2 (shared_ids x.found)) t.rest r.earlier);
      are_texts = r.are_texts;
      wrote = λ c. r.wrote c ∙ (λ i. piece_of (written p (path c i) (t.standing c i)));
    }

-- after a round the callers may be dropped
pub IsRound-swept : {S I : Type 0} (p : Program) (s0 s1 : Sets I) (allowed : I) (st after swept : StateView S I) (group : GroupView S I) → IsRound p s0 s1 allowed st after group → IsTended s1 s1 after swept → IsRound p s0 s1 allowed st swept group
IsRound-swept {S = S} {I = I} p s0 s1 allowed st after swept group r t = record {
  is_state = t.is_state p allowed r.is_state;
  kept = r.kept;
  options = r.options;
  limit = ap (λ (x : StateView S I). x.limit) t.rest ∙ r.limit;
  rounds = ap (λ (x : StateView S I). x.rounds) t.rest ∙ r.rounds;
  standing = λ c. t.standing c ∙ r.standing c;
  texts = r.texts;
  found = ap (λ (x : StateView S I). x.found) t.rest ∙ r.found;
  earlier = r.earlier;
  are_texts = r.are_texts;
  wrote = r.wrote;
}

-- ---- the same, by the place of the group

pub tended_state : {S I : Type 0} (p : Program) (s0 s1 : Sets I) (st tended : StateView S I) → IsState p s0 st.heap.allowed st → IsTended s0 s1 st tended → IsState p s1 tended.heap.allowed tended
tended_state {S = S} {I = I} p s0 s1 st tended h t = subst (λ a. IsState p s1 a tended) (sym (ap (λ (x : StateView S I). x.heap.allowed) t.rest)) (t.is_state p st.heap.allowed h)

pub tended_place : {S I : Type 0} (s0 s1 : Sets I) (st tended : StateView S I) (which : ℕ) → IsTended s0 s1 st tended → which < length st.groups → which < length tended.groups
tended_place {S = S} {I = I} s0 s1 st tended which t l = subst (λ (x : StateView S I). which < length x.groups) (sym t.rest) l

pub IsRoundAt-tended : {S I : Type 0} (p : Program) (s0 s1 s2 : Sets I) (st tended after : StateView S I) (which : ℕ) → IsState p s0 st.heap.allowed st → IsTended s0 s1 st tended → IsRoundAt p s1 s2 tended after which → IsRoundAt p s0 s2 st after which
IsRoundAt-tended {S = S} {I = I} p s0 s1 s2 st tended after which h t r =
    let chosen = ap (λ (x : StateView S I). slice_get x.groups which) (sym t.rest) ∙ r.1 in
    let round = subst (λ a. IsRound p s1 s2 a tended after r.0) (ap (λ (x : StateView S I). x.heap.allowed) t.rest) r.2 in
    (r.0, chosen, IsRound-tended p s0 s1 s2 st.heap.allowed st tended after which r.0 h t chosen round)
