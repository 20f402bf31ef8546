-- Each round takes attempts away, so that rounds come to an end.
use Rattle.std.proofs.Common.{◌≡◌, ℕ, ◌-◌, ◌<◌, ◌≤◌, Bool, true, false, List, refl, ap, ◌∙◌, arith}
use Rattle.std.specs.Prelude.{None, Option, Some, slice_get}
use Rattle.vx_lockstep.proofs.Standings.{group_there, running_there, same_group, standing_of_group}
use Rattle.vx_group.specs.Group.{GroupView, path_of}
use Rattle.vx_java.proofs.Members.{attempts_of, step_advances}
use Rattle.vx_java.specs.Lockstep.{live_progress}
use Rattle.vx_java.specs.Step.{Progress, Run, RunResult, step}
use Rattle.vx_link.specs.declared.program.Program.{Program}
use Rattle.vx_standing.proofs.Configurations.{Contains-configurations, member_of, sum_falls}
use Rattle.vx_standing.specs.Rounds.{IsRound, after_round}
use Rattle.vx_standing.specs.State.{AreRunning, Came, Runs, Standing, StateView, attempts_left, came_to, configurations, group_of, left_of, progress_at, result_at, standing_at, standing_if, standing_in, standing_of}
use Rattle.vx_sched.specs.Groups.{AreGroups}
use Rattle.vx_space.specs.Sets.{IsLawful, Sets}
use Rattle.vx_java.proofs.Rounds.{live_is}

-- ---- the attempts that are left at a configuration

-- of what stands there
abbrev left_standing : ℕ → Option Standing → ℕ
left_standing n None = 0
left_standing n (Some (Came r)) = 0
left_standing n (Some (Runs g)) = n - g.attempts

left_is : {S I : Type 0} (sets : Sets I) (st : StateView S I) (n : ℕ) (c : List Bool) → left_of sets n c (group_of sets st.groups c) ≡ left_standing n (standing_at sets st c)
left_is {S = S} {I = I} sets st n c = by (group_of sets st.groups c)
  where
    came : (o : Option RunResult) → 0 ≡ left_standing n (came_to o)
    came None = refl
    came (Some r) = refl

    by : (o : Option (GroupView S I)) → left_of sets n c o ≡ left_standing n (standing_in sets st c o)
    by None = came (result_at sets st.found st.ends st.spent c)
    by (Some group) = refl

-- a run has at most the attempts left that it has not used
left_run : (n : ℕ) (r : Run) → left_standing n (Some (standing_of n r)) ≤ n - attempts_of r
left_run n r = by (live_progress n r) refl
  where
    by : (o : Option Progress) → live_progress n r ≡ o → left_standing n (Some (standing_if r o)) ≤ n - attempts_of r
    by None e = omega arith
    by (Some g) e = let same : attempts_of r ≡ g.attempts = ap attempts_of (live_is n r g e).run in omega arith

round_left : (p : Program) (n : ℕ) (b : Bool) (s : Option Standing) → left_standing n (after_round p n b s) ≤ left_standing n s
round_left p n true (Some (Runs g)) =
    let one = (step_advances p g).attempts in
    let rest = left_run n (step p g) in
    omega arith
round_left p n true (Some (Came r)) = omega arith
round_left p n true None = omega arith
round_left p n false (Some (Runs g)) = omega arith
round_left p n false (Some (Came r)) = omega arith
round_left p n false None = omega arith

round_falls : (p : Program) (n : ℕ) (g : Progress) → g.attempts < n → left_standing n (after_round p n true (Some (Runs g))) < left_standing n (Some (Runs g))
round_falls p n g h =
    let one = (step_advances p g).attempts in
    let rest = left_run n (step p g) in
    omega arith

-- ---- the attempts that all runs have left

-- in a round of a group what stands changes at its path alone
pub record IsStepped {S I : Type 0} (p : Program) (old new : Sets I) (before after : StateView S I) (group : GroupView S I) : Type 0 where
  pub options : new.options ≡ old.options
  pub limit : after.limit ≡ before.limit
  pub standing : (c : List Bool) → standing_at new after c ≡ after_round p before.limit (old.test (path_of group) c) (standing_at old before c)

pub round_steps : {S I : Type 0} (p : Program) (old new : Sets I) (allowed : I) (before after : StateView S I) (group : GroupView S I) → IsRound p old new allowed before after group → IsStepped p old new before after group
round_steps p old new allowed before after group r = record { options = r.options; limit = r.limit; standing = r.standing }

-- at each configuration
left_after : {S I : Type 0} (p : Program) (old new : Sets I) (before after : StateView S I) (group : GroupView S I) → IsStepped p old new before after group → (c : List Bool) → left_of new after.limit c (group_of new after.groups c) ≡ left_standing before.limit (after_round p before.limit (old.test (path_of group) c) (standing_at old before c))
left_after p old new before after group r c =
    left_is new after after.limit c
    ∙ ap (λ n. left_standing n (standing_at new after c)) r.limit
    ∙ ap (left_standing before.limit) (r.standing c)

pub attempts_fall : {S I : Type 0} (p : Program) (old new : Sets I) (before after : StateView S I) (place : ℕ) (group : GroupView S I) → IsLawful old → AreGroups old before.tree before.groups → AreRunning p old before before.groups → slice_get before.groups place ≡ Some group → IsStepped p old new before after group → attempts_left new after < attempts_left old before
attempts_fall p old new before after place group lawful groups are_running e r =
    let there = group_there old before.tree before.groups place group groups e in
    let running = running_there p old before before.groups place group are_running e in
    let member = member_of lawful (path_of group) there.known there.nonempty in
    let held = same_group old before.tree before.groups place group member.config groups e member.holds in
    let stands = standing_of_group old before member.config group held in
    let less = less_at member.config (progress_at old before group member.config) (running.left member.config member.holds) member.holds stands in
    rw r.options (sum_falls fewer earlier none_more (configurations old.options) member.config (Contains-configurations old.options member.config member.whole) less)
  where
    fewer : List Bool → ℕ
    fewer c = left_of new after.limit c (group_of new after.groups c)

    earlier : List Bool → ℕ
    earlier c = left_of old before.limit c (group_of old before.groups c)

    none_more : (c : List Bool) → fewer c ≤ earlier c
    none_more c =
        let now = left_after p old new before after group r c in
        let was = left_is old before before.limit c in
        let fall = round_left p before.limit (old.test (path_of group) c) (standing_at old before c) in
        rw (now, was) fall

    less_at : (c : List Bool) (g : Progress) → g.attempts < before.limit → old.test (path_of group) c ≡ true → standing_at old before c ≡ Some (Runs g) → fewer c < earlier c
    less_at c g below holds stands =
        let now = left_after p old new before after group r c ∙ ap (λ b. left_standing before.limit (after_round p before.limit b (standing_at old before c))) holds ∙ ap (λ s. left_standing before.limit (after_round p before.limit true s)) stands in
        let was = left_is old before before.limit c ∙ ap (left_standing before.limit) stands in
        let fall = round_falls p before.limit g below in
        rw (now, was) fall
