-- A round from its beginning to its end, and what waits and was found then.
use Rattle.std.proofs.Common.{◌≡◌, ℕ, ◌<◌, ◌≤◌, ◌-◌, Bool, true, false, List, refl, sym, ◌∙◌, ap, suc, map, arith}
use Rattle.std.specs.Prelude.{cond, Option, Some, None, if◌then◌else◌, nat_lt, option_map, sum}
use Rattle.std.specs.List.{remove}
use Rattle.std.specs.Ordering.{nat_cmp}
use Rattle.vx_space.specs.Sets.{Sets, Extends, IsLawful}
use Rattle.vx_cond.specs.Cond.{Conditional}
use Rattle.vx_cond.specs.Leaves.{value_at}
use Rattle.vx_cond.proofs.LeafLaws.{value_at-extends}
use Rattle.vx_group.specs.declared.callers.Caller.{Caller}
use Rattle.vx_group.specs.Group.{GroupView, attempts_at, path_of}
use Rattle.vx_group.proofs.GroupLaws.{IsGroup-path_known}
use Rattle.vx_heap.specs.Heap.{HeapView}
use Rattle.vx_findings.specs.Shared.{leaves_of}
use Rattle.vx_java.specs.Machine.{Next}
use Rattle.vx_java.specs.Machine.{Outcome as PlainOutcome, Ends, Goes}
use Rattle.vx_java.specs.Step.{next}
use Rattle.vx_link.specs.declared.program.Program.{Program}
use Rattle.vx_sched.proofs.GroupsLaws.{IsTaken}
use Rattle.vx_group_states.specs.Stands.{state_at}
use Rattle.vx_value.specs.Ends.{compare_ends}
use Rattle.vx_placing.specs.declared.round.Round.{Round}
use Rattle.vx_standing.specs.Attempted.{attempted_row, carried_out_row, thrown_out}
use Rattle.vx_standing.specs.Waiting.{end_after, piece_after, spent_after, waiting_at, waits_after}
use Rattle.vx_placing.specs.Placing.{led_by, put_if}
use Rattle.vx_standing.specs.State.{IsRunning, IsState, StateView, attempts_left, configurations, group_of, left_of}
use Rattle.vx_turns.specs.Turns.{IsBegun, IsMade, IsSpent, came_of}
use Rattle.vx_turns.proofs.Opening.{begun_underway, chosen_is_group, chosen_running, chosen_taken, spent_path, spent_state}
use Rattle.vx_standing.proofs.Configurations.{Contains-configurations, member_of, sum_falls}
use Rattle.vx_standing.proofs.Running.{left_by, left_of-by}
use Rattle.vx_standing.proofs.Thrown.{next-thrown, piece_after-thrown}
use Rattle.vx_standing.proofs.Waiting.{run_by, waiting_at-extends, waiting_at-standing}

-- a round, once its attempt took its place
pub record IsTurn {S I : Type 0} (p : Program) (s1 s2 s3 : Sets I) (allowed : I) (st begun_st : StateView S I) (which : ℕ) (was : Round S I) (group spent_group : GroupView S I) (attempts : Conditional ℕ S I) (heap : HeapView S I) (round : Round S I) : Type 0 where
  pub state : IsState p s1 allowed st
  pub begun : IsBegun st begun_st which was group
  pub extends : Extends s1 s2
  pub spent : IsSpent s1 s2 group spent_group attempts
  pub later : Extends s2 s3
  pub made : IsMade p s2 s3 st.heap heap st.limit spent_group was round

module _ {S I : Type 0} (p : Program) {s1 s2 s3 : Sets I} (allowed : I) (st begun_st : StateView S I) (which : ℕ) (was : Round S I) (group spent_group : GroupView S I) (attempts : Conditional ℕ S I) (heap : HeapView S I) (round : Round S I) (t : IsTurn p s1 s2 s3 allowed st begun_st which was group spent_group attempts heap round) where
  taken : IsTaken s1 st.tree st.groups group (remove st.groups which)
  taken = chosen_taken p s1 allowed st begun_st which was group t.state t.begun

  running : IsRunning p s1 st group
  running = chosen_running p s1 allowed st begun_st which was group t.state t.begun

  known : s1.is_known (path_of group) ≡ true
  known = IsGroup-path_known s1 group (chosen_is_group p s1 allowed st begun_st which was group t.state t.begun)

  -- what the row comes to at a configuration of the path, before an exception is thrown
  abbrev row_at : List Bool → PlainOutcome
  row_at c = carried_out_row p (state_at s1 st.heap st.tree group c)

  came : (c : List Bool) → came_of p s2 st.heap was.callers spent_group c ≡ (if s1.test (path_of group) c then Some (thrown_out p (row_at c)) else None)
  came c =
      let same = ap (λ tree. state_at s2 st.heap tree spent_group c) t.begun.callers ∙ spent_state t.extends st.heap t.state.is_heap st.tree group spent_group attempts running.stands.is_group t.spent c in
      ap (λ b. if b then Some (attempted_row p (state_at s2 st.heap was.callers spent_group c)) else None) (spent_path t.extends group spent_group attempts known t.spent c)
      ∙ ap (λ s. if s1.test (path_of group) c then Some (attempted_row p s) else None) same

  more : (c : List Bool) → s1.test (path_of group) c ≡ true → attempts_at s2 spent_group c ≡ suc (attempts_at s1 group c)
  more c h = let one = t.spent.more c h in omega (arith, one)

  -- put where the path holds, and what was elsewhere
  put_there : {B : Type 0} (f : ℕ → Next → Option B) (c : List Bool) (x y : Option B) → (s1.test (path_of group) c ≡ false → x ≡ y) → put_if (f (attempts_at s2 spent_group c)) (led_by p (came_of p s2 st.heap was.callers spent_group) c) x ≡ (if s1.test (path_of group) c then f (suc (attempts_at s1 group c)) (next p (row_at c)) else y)
  put_there {B = B} f c x y h = ap (λ o. put_if (f (attempts_at s2 spent_group c)) (option_map (next p) o) x) (came c) ∙ cases (s1.test (path_of group) c) (more c) h
    where
      cases : (b : Bool) → (b ≡ true → attempts_at s2 spent_group c ≡ suc (attempts_at s1 group c)) → (b ≡ false → x ≡ y) → put_if (f (attempts_at s2 spent_group c)) (option_map (next p) (if b then Some (thrown_out p (row_at c)) else None)) x ≡ (if b then f (suc (attempts_at s1 group c)) (next p (row_at c)) else y)
      cases true k n = ap (λ a. f a (next p (thrown_out p (row_at c)))) (k refl) ∙ ap (λ l. f (suc (attempts_at s1 group c)) l) (next-thrown p (row_at c))
      cases false k n = n refl

  -- what waited beside the group
  beside : (c : List Bool) → s1.test (path_of group) c ≡ false → waiting_at s2 st.heap was.callers was.groups c ≡ waiting_at s1 st.heap st.tree st.groups c
  beside c h =
      waiting_at-extends t.extends st.heap t.state.is_heap was.callers was.groups (begun_underway p s1 allowed st begun_st which was group t.state t.begun).waiting.are_groups c
      ∙ ap (λ tree. waiting_at s1 st.heap tree was.groups c) t.begun.callers
      ∙ ap (λ gs. waiting_at s1 st.heap st.tree gs c) t.begun.groups
      ∙ waiting_at-standing s1 st.heap st.tree (remove st.groups which) c
      ∙ ap (λ o. option_map (run_by s1 st.heap c) o) (sym (taken.outside c h))
      ∙ sym (waiting_at-standing s1 st.heap st.tree st.groups c)

  pub turned_waits : (c : List Bool) → waiting_at s3 heap round.callers round.groups c ≡ (if s1.test (path_of group) c then waits_after st.limit (suc (attempts_at s1 group c)) (next p (row_at c)) else waiting_at s1 st.heap st.tree st.groups c)
  turned_waits c = t.made.waits c ∙ put_there (waits_after st.limit) c (waiting_at s2 st.heap was.callers was.groups c) (waiting_at s1 st.heap st.tree st.groups c) (beside c)

  pub turned_ends : (c : List Bool) → value_at s3 (leaves_of round.ends.items) c ≡ (if s1.test (path_of group) c then end_after st.limit (suc (attempts_at s1 group c)) (next p (row_at c)) else value_at s1 (leaves_of st.ends) c)
  turned_ends c = t.made.ends c ∙ put_there (end_after st.limit) c (value_at s2 (leaves_of was.ends.items) c) (value_at s1 (leaves_of st.ends) c) (λ h. ap (λ xs. value_at s2 (leaves_of xs) c) t.begun.ends ∙ value_at-extends compare_ends t.extends (leaves_of st.ends) t.state.ends c)

  pub turned_spent : (c : List Bool) → value_at s3 (leaves_of round.spent.items) c ≡ (if s1.test (path_of group) c then spent_after st.limit (suc (attempts_at s1 group c)) (next p (row_at c)) else value_at s1 (leaves_of st.spent) c)
  turned_spent c = t.made.spent c ∙ put_there (spent_after st.limit) c (value_at s2 (leaves_of was.spent.items) c) (value_at s1 (leaves_of st.spent) c) (λ h. ap (λ xs. value_at s2 (leaves_of xs) c) t.begun.spent ∙ value_at-extends nat_cmp t.extends (leaves_of st.spent) t.state.spent c)

  pub turned_texts : (c : List Bool) → value_at s3 (leaves_of round.texts.items) c ≡ (if s1.test (path_of group) c then piece_after (row_at c) else None)
  turned_texts c = t.made.texts c ∙ ap (λ xs. put_if piece_after (came_of p s2 st.heap was.callers spent_group c) (value_at s2 (leaves_of xs) c)) t.begun.texts ∙ ap (λ o. put_if piece_after o None) (came c) ∙ cases (s1.test (path_of group) c)
    where
      cases : (b : Bool) → put_if piece_after (if b then Some (thrown_out p (row_at c)) else None) None ≡ (if b then piece_after (row_at c) else None)
      cases true = piece_after-thrown p (row_at c)
      cases false = refl

  -- what waited at a configuration of the path
  pub waited : (c : List Bool) → s1.test (path_of group) c ≡ true → waiting_at s1 st.heap st.tree st.groups c ≡ Some (record { state = state_at s1 st.heap st.tree group c; attempts = attempts_at s1 group c })
  waited c h = waiting_at-standing s1 st.heap st.tree st.groups c ∙ ap (λ o. option_map (run_by s1 st.heap c) o) (taken.inside c h)

  -- ---- the attempts that are left

  left_waits : (limit m : ℕ) (n : Next) → left_by limit (waits_after limit m n) ≤ limit - m
  left_waits limit m (Goes s) = cases (nat_lt m limit)
    where
      cases : (b : Bool) → left_by limit (cond b (Some (record { state = s; attempts = m })) None) ≤ limit - m
      cases true = omega arith
      cases false = omega arith
  left_waits limit m (Ends end) = omega arith

  pub left_falls : IsLawful s1 → sum (map (λ c. left_of s3 st.limit c (group_of s3 round.groups c)) (configurations s1.options)) < attempts_left s1 st
  left_falls lawful =
      let member = member_of lawful (path_of group) known taken.beside.nonempty in
      sum_falls (λ c. left_of s3 st.limit c (group_of s3 round.groups c)) (λ c. left_of s1 st.limit c (group_of s1 st.groups c)) none_more (configurations s1.options) member.config (Contains-configurations s1.options member.config member.whole) (less member.config member.holds)
    where
      now : (c : List Bool) → left_of s3 st.limit c (group_of s3 round.groups c) ≡ left_by st.limit (if s1.test (path_of group) c then waits_after st.limit (suc (attempts_at s1 group c)) (next p (row_at c)) else waiting_at s1 st.heap st.tree st.groups c)
      now c = left_of-by s3 heap round.callers round.groups st.limit c ∙ ap (left_by st.limit) (turned_waits c)

      cases : (c : List Bool) (b : Bool) → (b ≡ true → waiting_at s1 st.heap st.tree st.groups c ≡ Some (record { state = state_at s1 st.heap st.tree group c; attempts = attempts_at s1 group c })) → left_by st.limit (if b then waits_after st.limit (suc (attempts_at s1 group c)) (next p (row_at c)) else waiting_at s1 st.heap st.tree st.groups c) ≤ left_by st.limit (waiting_at s1 st.heap st.tree st.groups c)
      cases c true h =
          let there = left_waits st.limit (suc (attempts_at s1 group c)) (next p (row_at c)) in
          rw (h refl) (omega (arith, there))
      cases c false h = omega arith

      none_more : (c : List Bool) → left_of s3 st.limit c (group_of s3 round.groups c) ≤ left_of s1 st.limit c (group_of s1 st.groups c)
      none_more c = rw (now c, left_of-by s1 st.heap st.tree st.groups st.limit c) (cases c (s1.test (path_of group) c) (waited c))

      less : (c : List Bool) → s1.test (path_of group) c ≡ true → left_of s3 st.limit c (group_of s3 round.groups c) < left_of s1 st.limit c (group_of s1 st.groups c)
      less c h =
          let there = left_waits st.limit (suc (attempts_at s1 group c)) (next p (row_at c)) in
          let below = running.left c h in
          rw (now c, left_of-by s1 st.heap st.tree st.groups st.limit c, waited c h, h) (omega (arith, there, below))
