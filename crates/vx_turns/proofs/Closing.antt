-- The state after a round.
use Rattle.std.proofs.Common.{◌≡◌, ℕ, ◌<◌, ◌≤◌, ◌+◌, ◌*◌, Bool, true, false, List, [], ◌∷◌, ◌++◌, refl, sym, ◌∙◌, ap, suc, arith, append-nil}
use Rattle.std.specs.Prelude.{◌^◌, ◌-◌, Option, Some, None, if◌then◌else◌, is_some}
use Rattle.std.proofs.Math.Nat.{mul-le-mul_left}
use Rattle.std.proofs.lemmas.Nat.{pow-add, pow_pos}
use Rattle.vx_space.specs.Sets.{Sets, Extends, IsLawful}
use Rattle.vx_space.proofs.Spaces.{Extends-trans}
use Rattle.vx_cond.specs.Cond.{Conditional}
use Rattle.vx_cond.specs.Leaves.{value_at}
use Rattle.vx_group.specs.declared.callers.Caller.{Caller}
use Rattle.vx_group.specs.Group.{GroupView, attempts_at, path_of}
use Rattle.vx_heap.specs.Heap.{HeapView}
use Rattle.vx_heap.proofs.Known.{AreKept-extends, AreKnown-append}
use Rattle.vx_findings.specs.Orders.{piece_cmp}
use Rattle.vx_findings.specs.Shared.{leaves_of}
use Rattle.vx_findings.specs.declared.shared.Shared.{Shared}
use Rattle.vx_java.specs.Lockstep.{piece_of}
use Rattle.vx_java.specs.Machine.{Outcome as PlainOutcome}
use Rattle.vx_java.specs.Step.{Progress, next, text_of}
use Rattle.vx_link.specs.declared.program.Program.{Program}
use Rattle.vx_group_states.specs.Stands.{state_at}
use Rattle.vx_placing.specs.declared.round.Round.{Round}
use Rattle.vx_standing.specs.Attempted.{carried_out_row}
use Rattle.vx_standing.specs.Waiting.{end_after, piece_after, spent_after, waiting_at, waiting_in, waits_after}
use Rattle.vx_standing.specs.Rounds.{after_round, pieces_in, written}
use Rattle.vx_standing.specs.State.{GoesOn, IsNowhere, IsState, Runs, StateView, attempts_in, attempts_left, group_of, output_at, shared_ids, standing_at}
use Rattle.vx_turns.proofs.Opening.{chosen_running}
use Rattle.vx_standing.proofs.Counting.{attempts_in-most, attempts_in-same}
use Rattle.vx_standing.proofs.Keeping.{AreKnown-kept, findings_known, output_kept}
use Rattle.vx_standing.proofs.Running.{AreRunning-waiting, standing_at-by, standing_by}
use Rattle.vx_standing.proofs.Standing.{bytes_after, bytes_in, output_append, output_of_round, some_after, stands_after, waits_goes, wrote_there}
use Rattle.vx_turns.proofs.Turning.{IsTurn, left_falls, turned_ends, turned_spent, turned_texts, turned_waits, waited}
use Rattle.vx_standing.proofs.Waiting.{no_group, none_waits}
use Rattle.vx_heap.proofs.Written.{allowed_known}

-- ---- lists of ids

ids_append : {V S I : Type 0} (xs ys : List (Shared V S I)) → shared_ids (xs ++ ys) ≡ shared_ids xs ++ shared_ids ys
ids_append [] ys = refl
ids_append (x ∷ xs) ys = ap (λ ids. x.condition ∷ ids) (ids_append xs ys)

some_waits : {S I : Type 0} (sets : Sets I) (heap : HeapView S I) (tree : List (Option (Caller S I))) (groups : List (GroupView S I)) (c : List Bool) → is_some (waiting_at sets heap tree groups c) ≡ is_some (group_of sets groups c)
some_waits {S = S} {I = I} sets heap tree groups c = cases (group_of sets groups c)
  where
    cases : (o : Option (GroupView S I)) → is_some (waiting_in sets heap tree c o) ≡ is_some o
    cases None = refl
    cases (Some g) = refl

-- ---- the number of rounds is small

pow_most : (o : ℕ) → o < 65 → 2 ^ o ≤ 2 ^ 64
pow_most o h =
    let e : o + (64 - o) ≡ 64 = omega arith in
    let split : 2 ^ (o + (64 - o)) ≡ 2 ^ o * 2 ^ (64 - o) = pow-add 2 o (64 - o) in
    let whole : 2 ^ 64 ≡ 2 ^ o * 2 ^ (64 - o) = ap (λ n. 2 ^ n) (sym e) ∙ split in
    let more = mul-le-mul_left (2 ^ o) (pow_pos (64 - o)) in
    rw whole (omega (arith, more))

pub rounds_small : {S I : Type 0} (p : Program) (sets : Sets I) (allowed : I) (st : StateView S I) → IsLawful sets → IsState p sets allowed st → st.rounds + 1 < 2 ^ 128
rounds_small p sets allowed st l h =
    let counted = h.counted in
    let most = mul-le-mul_left (2 ^ sets.options) h.most in
    let few = pow_most sets.options l.at_most_64 in
    small st.rounds (attempts_left sets st) (attempts_in sets allowed st.limit) (2 ^ sets.options) (2 ^ sets.options * st.limit) counted (attempts_in-most sets allowed st.limit) most few
  where
    small : (r k n a b : ℕ) → r + k ≤ n → n ≤ b → b ≤ a * 1000000000 → a ≤ 2 ^ 64 → r + 1 < 2 ^ 128
    small r k n a b h i m f = omega (arith, h, i, m, f)

-- ---- the state after a round

abbrev pub closed_state : {S I : Type 0} → StateView S I → HeapView S I → Round S I → StateView S I
closed_state st heap round = record { heap = heap; tree = round.callers; groups = round.groups; limit = st.limit; rounds = st.rounds + 1; found = st.found ++ round.texts.items; ends = round.ends.items; spent = round.spent.items }

module _ {S I : Type 0} (p : Program) {s1 s2 s3 : Sets I} (allowed : I) (st begun_st : StateView S I) (which : ℕ) (was : Round S I) (group spent_group : GroupView S I) (attempts : Conditional ℕ S I) (heap : HeapView S I) (round : Round S I) (t : IsTurn p s1 s2 s3 allowed st begun_st which was group spent_group attempts heap round) where
  whole : Extends s1 s3
  whole = Extends-trans t.extends t.later

  inside : (c : List Bool) → s1.test (path_of group) c ≡ true → s1.test allowed c ≡ true
  inside c h = ap (λ i. s1.test i c) (sym t.state.runs) ∙ (chosen_running p s1 allowed st begun_st which was group t.state t.begun).stands.runs.inside c h

  pub same_allowed : (c : List Bool) → s3.test allowed c ≡ s1.test allowed c
  same_allowed c = whole.test allowed c (ap (λ i. s1.is_known i) (sym t.state.runs) ∙ allowed_known s1 st.heap t.state.is_heap)

  -- the plain run at a configuration of the path
  abbrev run_at : List Bool → Progress
  run_at c = record { state = state_at s1 st.heap st.tree group c; output = output_at s1 st.found c; attempts = attempts_at s1 group c }

  abbrev row_at : List Bool → PlainOutcome
  row_at c = carried_out_row p (state_at s1 st.heap st.tree group c)

  stood : (c : List Bool) → s1.test (path_of group) c ≡ true → standing_at s1 st c ≡ Some (Runs (run_at c))
  stood c h = standing_at-by s1 st c ∙ ap (λ w. standing_by w (output_at s1 st.found c) (value_at s1 (leaves_of st.ends) c) (value_at s1 (leaves_of st.spent) c)) (waited p allowed st begun_st which was group spent_group attempts heap round t c h)

  output : (c : List Bool) → output_at s3 (st.found ++ round.texts.items) c ≡ output_at s1 st.found c ++ bytes_in (if s1.test (path_of group) c then piece_after (row_at c) else None)
  output c =
      output_append s3 st.found round.texts.items c
      ∙ ap (λ o. o ++ output_at s3 round.texts.items c) (output_kept s1 s3 st.found c (AreKept-extends whole (shared_ids st.found) t.state.found))
      ∙ ap (λ o. output_at s1 st.found c ++ o) (output_of_round s3 round.texts.items c t.made.underway.texts ∙ ap bytes_in (turned_texts p allowed st begun_st which was group spent_group attempts heap round t c))

  -- what stands, by the plain parts
  by_parts : (c : List Bool) (b : Bool) → (b ≡ true → standing_at s1 st c ≡ Some (Runs (run_at c))) → standing_by (if b then waits_after st.limit (suc (attempts_at s1 group c)) (next p (row_at c)) else waiting_at s1 st.heap st.tree st.groups c) (output_at s1 st.found c ++ bytes_in (if b then piece_after (row_at c) else None)) (if b then end_after st.limit (suc (attempts_at s1 group c)) (next p (row_at c)) else value_at s1 (leaves_of st.ends) c) (if b then spent_after st.limit (suc (attempts_at s1 group c)) (next p (row_at c)) else value_at s1 (leaves_of st.spent) c) ≡ after_round p st.limit b (standing_at s1 st c)
  by_parts c true h =
      ap (λ text. standing_by (waits_after st.limit (suc (attempts_at s1 group c)) (next p (row_at c))) (output_at s1 st.found c ++ text) (end_after st.limit (suc (attempts_at s1 group c)) (next p (row_at c))) (spent_after st.limit (suc (attempts_at s1 group c)) (next p (row_at c)))) (bytes_after (row_at c))
      ∙ stands_after st.limit (run_at c) (text_of (row_at c)) (next p (row_at c))
      ∙ sym (ap (after_round p st.limit true) (h refl))
  by_parts c false h =
      ap (λ o. standing_by (waiting_at s1 st.heap st.tree st.groups c) o (value_at s1 (leaves_of st.ends) c) (value_at s1 (leaves_of st.spent) c)) (append-nil (output_at s1 st.found c))
      ∙ sym (standing_at-by s1 st c)

  pub closed_standing : (c : List Bool) → standing_at s3 (closed_state st heap round) c ≡ after_round p st.limit (s1.test (path_of group) c) (standing_at s1 st c)
  closed_standing c =
      let waits = turned_waits p allowed st begun_st which was group spent_group attempts heap round t c in
      let out = output c in
      let ends = turned_ends p allowed st begun_st which was group spent_group attempts heap round t c in
      let spent = turned_spent p allowed st begun_st which was group spent_group attempts heap round t c in
      standing_at-by s3 (closed_state st heap round) c ∙ (λ i. standing_by (waits i) (out i) (ends i) (spent i)) ∙ by_parts c (s1.test (path_of group) c) (stood c)

  -- ---- it is a state

  not_inside : (c : List Bool) → s1.test allowed c ≡ false → s1.test (path_of group) c ≡ false
  not_inside c h = cases (s1.test (path_of group) c) (inside c)
    where
      cases : (b : Bool) → (b ≡ true → s1.test allowed c ≡ true) → b ≡ false
      cases true k = cc (h, k refl)
      cases false k = refl

  closed_nowhere : (c : List Bool) → s3.test allowed c ≡ false → IsNowhere s3 (closed_state st heap round) c
  closed_nowhere c h =
      let out = sym (same_allowed c) ∙ h in
      let off = not_inside c out in
      let n = t.state.nowhere c out in
      record {
        group = none_waits s3 heap round.callers round.groups c (turned_waits p allowed st begun_st which was group spent_group attempts heap round t c ∙ ap (λ b. if b then waits_after st.limit (suc (attempts_at s1 group c)) (next p (row_at c)) else waiting_at s1 st.heap st.tree st.groups c) off ∙ no_group s1 st.heap st.tree st.groups c n.group);
        output = output c ∙ ap (λ b. output_at s1 st.found c ++ bytes_in (if b then piece_after (row_at c) else None)) off ∙ append-nil (output_at s1 st.found c) ∙ n.output;
        end = turned_ends p allowed st begun_st which was group spent_group attempts heap round t c ∙ ap (λ b. if b then end_after st.limit (suc (attempts_at s1 group c)) (next p (row_at c)) else value_at s1 (leaves_of st.ends) c) off ∙ n.end;
        spent = turned_spent p allowed st begun_st which was group spent_group attempts heap round t c ∙ ap (λ b. if b then spent_after st.limit (suc (attempts_at s1 group c)) (next p (row_at c)) else value_at s1 (leaves_of st.spent) c) off ∙ n.spent;
      }

  closed_goes : (c : List Bool) → is_some (group_of s3 round.groups c) ≡ true → GoesOn s3 (closed_state st heap round) c
  closed_goes c h = cases (s1.test (path_of group) c) (ap is_some (sym (turned_waits p allowed st begun_st which was group spent_group attempts heap round t c)) ∙ some_waits s3 heap round.callers round.groups c ∙ h) (turned_ends p allowed st begun_st which was group spent_group attempts heap round t c) (turned_spent p allowed st begun_st which was group spent_group attempts heap round t c)
    where
      cases : (b : Bool) → is_some (if b then waits_after st.limit (suc (attempts_at s1 group c)) (next p (row_at c)) else waiting_at s1 st.heap st.tree st.groups c) ≡ true → value_at s3 (leaves_of round.ends.items) c ≡ (if b then end_after st.limit (suc (attempts_at s1 group c)) (next p (row_at c)) else value_at s1 (leaves_of st.ends) c) → value_at s3 (leaves_of round.spent.items) c ≡ (if b then spent_after st.limit (suc (attempts_at s1 group c)) (next p (row_at c)) else value_at s1 (leaves_of st.spent) c) → GoesOn s3 (closed_state st heap round) c
      cases true k e s = let none = waits_goes st.limit (suc (attempts_at s1 group c)) (next p (row_at c)) k in record { end = e ∙ none.0; spent = s ∙ none.1 }
      cases false k e s = let g = t.state.goes_on c (sym (some_waits s1 st.heap st.tree st.groups c) ∙ k) in record { end = e ∙ g.end; spent = s ∙ g.spent }

  closed_counted : IsLawful s1 → st.rounds + 1 + attempts_left s3 (closed_state st heap round) ≤ attempts_in s3 allowed st.limit
  closed_counted l =
      let falls = left_falls p allowed st begun_st which was group spent_group attempts heap round t l in
      let counted = t.state.counted in
      rw (attempts_in-same s1 s3 allowed st.limit whole.options same_allowed, whole.options) (omega (arith, falls, counted))

  pub IsState-closed : IsLawful s1 → IsState p s3 allowed (closed_state st heap round)
  IsState-closed l =
      let waiting = t.made.underway.waiting in
      record {
        bounded = t.state.bounded;
        some = t.state.some;
        most = t.state.most;
        is_heap = t.made.is_heap;
        is_for = t.made.is_for;
        runs = t.made.allowed ∙ t.state.runs;
        groups = waiting.are_groups;
        running = AreRunning-waiting p s3 (closed_state st heap round) round.groups waiting;
        found = rw (ids_append st.found round.texts.items) (AreKnown-append s3 (shared_ids st.found) (shared_ids round.texts.items) (AreKnown-kept s1 s3 (shared_ids st.found) (AreKept-extends whole (shared_ids st.found) t.state.found)) (findings_known piece_cmp s3 round.texts.items t.made.underway.texts));
        ends = t.made.underway.ends;
        spent = t.made.underway.spent;
        everywhere = λ c h. ap is_some (closed_standing c) ∙ some_after p st.limit (s1.test (path_of group) c) (standing_at s1 st c) ∙ t.state.everywhere c (sym (same_allowed c) ∙ h);
        nowhere = closed_nowhere;
        goes_on = closed_goes;
        counted = closed_counted l;
      }

  pub closed_wrote : (c : List Bool) → pieces_in (value_at s3 (leaves_of round.texts.items) c) ≡ piece_of (written p (s1.test (path_of group) c) (standing_at s1 st c))
  closed_wrote c = ap pieces_in (turned_texts p allowed st begun_st which was group spent_group attempts heap round t c) ∙ cases (s1.test (path_of group) c) (stood c)
    where
      cases : (b : Bool) → (b ≡ true → standing_at s1 st c ≡ Some (Runs (run_at c))) → pieces_in (if b then piece_after (row_at c) else None) ≡ piece_of (written p b (standing_at s1 st c))
      cases true h = wrote_there p (run_at c) ∙ sym (ap (λ s. piece_of (written p true s)) (h refl))
      cases false h = refl
