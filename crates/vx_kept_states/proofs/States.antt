-- The states that rounds lead to.
use Rattle.std.proofs.Common.{if◌then◌else◌, Bool, List, None, Option, Some, [], ap, cond, false, refl, subst, sym, true, ℕ, ◌∙◌, ◌∷◌, ◌≡◌}
use Rattle.std.specs.Prelude.{nat_lt}
use Rattle.vx_group.specs.Group.{GroupView, path_of}
use Rattle.vx_group.specs.declared.callers.Caller.{Caller}
use Rattle.vx_group_states.specs.Stands.{comes_to, state_at}
use Rattle.vx_heap.specs.Heap.{HeapView}
use Rattle.vx_java.specs.Machine.{Begin, Ended, Ends, Go, Goes, Native, Next, Raise, State, Throw, Write}
use Rattle.vx_java.specs.Machine.{Outcome as PlainOutcome}
use Rattle.vx_java.specs.Row.{row}
use Rattle.vx_java.specs.Step.{Live, Over, Progress, Run, RunResult, start, step}
use Rattle.vx_java.specs.Throwing.{next_after_raise, next_after_throw}
use Rattle.vx_kept_facts.proofs.Rows.{row_comes}
use Rattle.vx_kept_facts.proofs.Runs.{RunStands, carried_out_comes, goes_on, is_throwing, kept, start_stands, step_stands}
use Rattle.vx_kept_facts.proofs.Sites.{MayCome, StandsAtPlace}
use Rattle.vx_kept_facts.proofs.Unwinding.{NextStands, raised_stands, thrown_stands}
use Rattle.vx_kept_facts.specs.Kept.{GoesOnPlaced, IsThrowing}
use Rattle.vx_kept_facts.specs.Law.{IsRunnable}
use Rattle.vx_kept_states.specs.ByRounds.{Begins, Follows, ComesByRounds, KeepsFrames, KeepsOutcomes}
use Rattle.vx_link.specs.declared.program.Program.{Program}
use Rattle.vx_outcome.specs.declared.outcome.Outcome.{Outcome}
use Rattle.vx_space.specs.Sets.{Sets}
use Rattle.vx_standing.specs.Attempted.{IsAttempted, attempted_row, carried_out_row, outcome_of, thrown_out}
use Rattle.vx_standing.specs.Rounds.{IsStart, after_round}
use Rattle.vx_standing.specs.State.{AreRunning, Came, IsRunning, IsState, Runs, Standing, StateView, came_to, group_of, progress_at, result_at, standing_at, standing_if, standing_in, standing_of}

-- ---- what stands at a configuration

-- the plain state of a run that goes on stands
abbrev Stood : Program → Option Standing → Type 0
Stood p s = (g : Progress) → s ≡ Some (Runs g) → StandsAtPlace p g.state

runs_same : (g h : Progress) → ◌≡◌ {A = Option Standing} (Some (Runs g)) (Some (Runs h)) → g ≡ h
runs_same g h same = ap (progress_in g) same
  where
    progress_in : Progress → Option Standing → Progress
    progress_in g (Some (Runs h)) = h
    progress_in g _ = g

-- what has come to an end doesn't go on
came_stood : (p : Program) (r : Option RunResult) → Stood p (came_to r)
came_stood p None g is = cc
came_stood p (Some r) g is = cc

run_stood : (p : Program) (limit : ℕ) (r : Run) → RunStands p r → Stood p (Some (standing_of limit r))
run_stood p limit (Over e g) stands h is = cc
run_stood p limit (Live g) stands h is = by (nat_lt g.attempts limit) is
  where
    by : (b : Bool) → Some (standing_if (Live g) (cond b (Some g) None)) ≡ Some (Runs h) → StandsAtPlace p h.state
    by true is = subst (λ h. StandsAtPlace p h.state) (runs_same g h is) stands
    by false is = cc

round_stood : (p : Program) → IsRunnable p → (limit : ℕ) (holds : Bool) (s : Option Standing) → Stood p s → Stood p (after_round p limit holds s)
round_stood p whole limit true None stood = stood
round_stood p whole limit true (Some (Runs g)) stood = run_stood p limit (step p g) (step_stands p whole g (stood g refl))
round_stood p whole limit true (Some (Came r)) stood = stood
round_stood p whole limit false s stood = stood

-- ---- a start, and a round

started : {S I : Type 0} (p : Program) → IsRunnable p → (allowed : I) (limit : ℕ) (sets : Sets I) (st : StateView S I) → IsStart p sets allowed limit st
    → (c : List Bool) → Stood p (standing_at sets st c)
started p whole allowed limit sets st begins c = by (sets.test allowed c) refl
  where
    by : (b : Bool) → sets.test allowed c ≡ b → Stood p (standing_at sets st c)
    by true runs = subst (Stood p) (sym (begins.standing c runs)) (run_stood p limit (start p c) (start_stands p whole c))
    by false other =
        subst (λ group. Stood p (standing_in sets st c group)) (sym (begins.is_state.nowhere c other).group)
        (came_stood p (result_at sets st.found st.ends st.spent c))

reached : {S I : Type 0} (p : Program) → IsRunnable p → (allowed : I) (limit : ℕ) (sets : Sets I) (st : StateView S I) → ComesByRounds p allowed limit sets st
    → (c : List Bool) → Stood p (standing_at sets st c)
reached p whole allowed limit sets st (Begins _ _ begins) c = started p whole allowed limit sets st begins c
reached p whole allowed limit new after (Follows old _ before _ group earlier round) c =
    subst (Stood p) (sym (round.standing c))
    (round_stood p whole before.limit (old.test (path_of group) c) (standing_at old before c) (reached p whole allowed limit old before earlier c))

-- ---- what a group keeps

group_stood : {S I : Type 0} (p : Program) (sets : Sets I) (st : StateView S I) (c : List Bool) (group : GroupView S I) → Stood p (standing_at sets st c)
    → group_of sets st.groups c ≡ Some group → StandsAtPlace p (state_at sets st.heap st.tree group c)
group_stood p sets st c group stood is = stood (progress_at sets st group c) (ap (standing_in sets st c) is)

state_reached : {S I : Type 0} (p : Program) (allowed : I) (limit : ℕ) (sets : Sets I) (st : StateView S I) → ComesByRounds p allowed limit sets st → IsState p sets allowed st
state_reached p allowed limit sets st (Begins _ _ begins) = begins.is_state
state_reached p allowed limit new after (Follows old _ before _ group earlier round) = round.is_state

-- a group of a configuration is one of the state, and its path holds the configuration
some_is : {A : Type 0} (x y : A) → Some x ≡ Some y → x ≡ y
some_is x y same = cc

running_there : {S I : Type 0} (p : Program) (sets : Sets I) (st : StateView S I) (groups : List (GroupView S I)) (c : List Bool) (group : GroupView S I) → AreRunning p sets st groups
    → group_of sets groups c ≡ Some group → IsRunning p sets st group × (sets.test (path_of group) c ≡ true)
running_there p sets st [] c group are is = cc
running_there {S = S} {I = I} p sets st (first ∷ groups) c group are is = by (sets.test (path_of first) c) refl is (running_there p sets st groups c group are.1)
  where
    by : (b : Bool) → sets.test (path_of first) c ≡ b → (if b then Some first else group_of sets groups c) ≡ Some group
        → (group_of sets groups c ≡ Some group → IsRunning p sets st group × (sets.test (path_of group) c ≡ true))
        → IsRunning p sets st group × (sets.test (path_of group) c ≡ true)
    by true holds is later =
        subst (λ (g : GroupView S I). IsRunning p sets st g × (sets.test (path_of g) c ≡ true)) (some_is first group is) (are.0, holds)
    by false other is later = later is

pub keeps_frames : {S I : Type 0} (p : Program) → IsRunnable p → (allowed : I) (limit : ℕ) (sets : Sets I) (st : StateView S I) → ComesByRounds p allowed limit sets st → KeepsFrames p sets st
keeps_frames p whole allowed limit sets st is = record {
  kept = λ c group there. kept p (state_at sets st.heap st.tree group c) (group_stood p sets st c group (reached p whole allowed limit sets st is c) there);
}

-- what is thrown goes on in a frame that takes it, or ends
next_placed : (p : Program) (n : Next) → NextStands p n → GoesOnPlaced p (outcome_of n)
next_placed p (Goes s) stands = kept p s stands
next_placed p (Ends end) stands = tt

thrown_placed : (p : Program) → IsRunnable p → (o : PlainOutcome) → MayCome p o → GoesOnPlaced p (thrown_out p o)
thrown_placed p whole (Raise class message s) may = next_placed p (next_after_raise p s class message) (raised_stands p whole s class message may.leaves.1.below may.leaves.1.classes)
thrown_placed p whole (Throw r s) may = next_placed p (next_after_throw p s r) (thrown_stands p whole s r may.leaves.1.below may.leaves.1.classes)
thrown_placed p whole (Go s) may = goes_on p (Go s) may
thrown_placed p whole (Begin class s) may = goes_on p (Begin class s) may
thrown_placed p whole (Native m s) may = goes_on p (Native m s) may
thrown_placed p whole (Write stream units s) may = goes_on p (Write stream units s) may
thrown_placed p whole (Ended end) may = tt

pub keeps_outcomes : {S I : Type 0} (p : Program) → IsRunnable p → (allowed : I) (limit : ℕ) (sets : Sets I) (st : StateView S I) → ComesByRounds p allowed limit sets st → KeepsOutcomes p sets st
keeps_outcomes {S = S} {I = I} p whole allowed limit sets st is = record {
  rows = λ c group there. (goes_on p (carried_out_row p (plain group c)) (may c group there), is_throwing p (carried_out_row p (plain group c)) (may c group there));
  comes = comes;
}
  where
    plain : GroupView S I → List Bool → State
    plain group c = state_at sets st.heap st.tree group c

    may : (c : List Bool) (group : GroupView S I) → group_of sets st.groups c ≡ Some group → MayCome p (carried_out_row p (plain group c))
    may c group there = carried_out_comes p whole (row p (plain group c)) (row_comes p whole (plain group c) (group_stood p sets st c group (reached p whole allowed limit sets st is c) there))

    comes : (new : Sets I) (after : HeapView S I) (later : List (Option (Caller S I))) (group : GroupView S I) (outcomes : List (Outcome S I)) → IsAttempted p sets new st.heap after st.tree later group outcomes
        → (c : List Bool) → group_of sets st.groups c ≡ Some group → (o : PlainOutcome) → comes_to new after later c outcomes ≡ Some o → GoesOnPlaced p o
    comes new after later group outcomes attempted c there o says =
        let running = running_there p sets st st.groups c group (state_reached p allowed limit sets st is).running there in
        let same : attempted_row p (plain group c) ≡ o = some_is (attempted_row p (plain group c)) o (sym (attempted.attempts.came.at c running.1) ∙ says) in
        subst (GoesOnPlaced p) same (thrown_placed p whole (carried_out_row p (plain group c)) (may c group there))
