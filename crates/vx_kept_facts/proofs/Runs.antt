-- The facts that runs keep.
use Rattle.std.proofs.Common.{List, None, Option, Some, [], arith, is_some, length, length-append, refl, replicate, subst, suc, true, zero, ℕ, ◌+◌, ◌-◌, ◌≤◌, ◌∙◌, ◌∷◌, ◌≡◌}
use Rattle.std.proofs.lemmas.Bool.{or_left}
use Rattle.std.proofs.lemmas.List.{length-replicate}
use Rattle.std.specs.Cmp.Derive.{both_true}
use Rattle.std.specs.List.{list_all}
use Rattle.vx_class.specs.declared.class_file.Code.{Code}
use Rattle.vx_pool.specs.Holding.{and_true}
use Rattle.vx_java.specs.Machine.{Begin, Ended, Ends, Frame, Go, Goes, Native, Next, Outcome, Raise, State, Throw, Write, current_class, with_inits}
use Rattle.vx_java.specs.Row.{row}
use Rattle.vx_java.specs.Step.{Config, Live, Over, Progress, Run, before_main, first_inits, next, outcome_carried_out, run_after, start, step, steps, text_of}
use Rattle.vx_kept_facts.proofs.Beginning.{begin_stands, pushed_stands}
use Rattle.vx_kept_facts.proofs.Claims.{main_chain, start_comes}
use Rattle.vx_kept_facts.proofs.KeptRows.{begins}
use Rattle.vx_kept_facts.proofs.NativeSites.{native_comes}
use Rattle.vx_kept_facts.proofs.Rows.{row_comes}
use Rattle.vx_kept_facts.proofs.Sites.{MayCome, StandsAtInstruction, StandsAtPlace, is_code_place, length_inits}
use Rattle.vx_kept_facts.proofs.Unwinding.{NextStands, raised_stands, thrown_stands}
use Rattle.vx_kept_facts.specs.Kept.{GoesOnPlaced, HasPlacedFrames, IsThrowing, has_code, is_at_instruction, is_code_end, is_instruction, last_state}
use Rattle.vx_kept_facts.specs.Law.{IsRunnable, KeepsFacts}
use Rattle.vx_link.specs.CoreFiles.{core_count}
use Rattle.vx_link.specs.Parts.{class_count, method_at}
use Rattle.vx_link.specs.declared.program.Program.{Program}
use Rattle.vx_value.specs.declared.slot.InitState.TheVariants.{Done, Not}

-- ---- an attempt

-- a beginning and a native method are carried out
pub carried_out_comes : (p : Program) → IsRunnable p → (o : Outcome) → MayCome p o → MayCome p (outcome_carried_out p o)
carried_out_comes p whole (Begin class s) comes = begin_stands p whole s comes.leaves class
carried_out_comes p whole (Native m s) comes = native_comes p whole s comes.leaves m
carried_out_comes p whole _ comes = comes

-- where an instruction begins is a place
stands_there : (p : Program) (s : State) → StandsAtInstruction p s → StandsAtPlace p s
stands_there p s stands = record {
  top = or_left (is_instruction (method_at p s.top.method).code s.top.position) (is_code_end (method_at p s.top.method).code s.top.position) stands.top;
  below = stands.below;
  classes = stands.classes;
}

next_stands : (p : Program) → IsRunnable p → (o : Outcome) → MayCome p o → NextStands p (next p o)
next_stands p whole (Go s) comes = comes.leaves
next_stands p whole (Raise class message s) comes = raised_stands p whole s class message comes.leaves.1.below comes.leaves.1.classes
next_stands p whole (Throw r s) comes = thrown_stands p whole s r comes.leaves.1.below comes.leaves.1.classes
next_stands p whole (Begin class s) comes = stands_there p s comes.leaves
next_stands p whole (Native m s) comes = stands_there p s comes.leaves
next_stands p whole (Write stream units s) comes = comes.leaves
next_stands p whole (Ended end) comes = tt

-- ---- runs

abbrev pub RunStands : Program → Run → Type 0
RunStands p r = StandsAtPlace p (last_state r)

pub step_stands : (p : Program) → IsRunnable p → (g : Progress) → StandsAtPlace p g.state → RunStands p (step p g)
step_stands p whole g stands =
    by (next p outcome) (next_stands p whole outcome (carried_out_comes p whole (row p g.state) (row_comes p whole g.state stands)))
  where
    outcome : Outcome
    outcome = outcome_carried_out p (row p g.state)

    by : (n : Next) → NextStands p n → RunStands p (run_after g (text_of outcome) n)
    by (Goes s) there = there
    by (Ends e) there = stands

steps_stand : (p : Program) → IsRunnable p → (n : ℕ) (r : Run) → RunStands p r → RunStands p (steps p n r)
steps_stand p whole zero r stands = stands
steps_stand p whole (suc n) (Over e g) stands = stands
steps_stand p whole (suc n) (Live g) stands = steps_stand p whole n (step p g) (step_stands p whole g stands)

-- ---- the start

first_count : (p : Program) → core_count ≤ class_count p → length (first_inits p) ≡ class_count p
first_count p enough =
    length-append (replicate (class_count p - core_count) Not) (replicate core_count Done)
    ∙ (λ i. length-replicate (class_count p - core_count) Not i + length-replicate core_count Done i)
    ∙ omega (arith, enough)

main_stands : (p : Program) → IsRunnable p → (c : Config) → StandsAtInstruction p (before_main p c)
main_stands p whole c = record { top = begins p whole p.main.0 whole.main; below = refl; classes = first_count p whole.core }

pub start_stands : (p : Program) → IsRunnable p → (c : Config) → RunStands p (start p c)
start_stands p whole c =
    start_comes (RunStands p) p c (λ i is. stands_there p s stands) (stands_there p s stands) (pushed_stands p whole s stands (current_class p s))
    (stands_there p (with_inits s Done (main_chain p c)) (record { top = stands.top; below = stands.below; classes = length_inits s.inits Done (main_chain p c) ∙ stands.classes }))
  where
    s : State
    s = before_main p c

    stands : StandsAtInstruction p s
    stands = main_stands p whole c

-- ---- the facts

instruction_has_code : (code : Option Code) (at : ℕ) → is_instruction code at ≡ true → is_some code ≡ true
instruction_has_code None at is = cc
instruction_has_code (Some code) at is = refl

place_has_code : (code : Option Code) (at : ℕ) → is_code_place code at ≡ true → is_some code ≡ true
place_has_code None at is = cc
place_has_code (Some code) at is = refl

callers_have_code : (p : Program) (callers : List Frame) → list_all (is_at_instruction p) callers ≡ true → list_all (has_code p) callers ≡ true
callers_have_code p [] all = refl
callers_have_code p (f ∷ callers) all =
    both_true (instruction_has_code (method_at p f.method).code f.position (and_true _ _ all).0) (callers_have_code p callers (and_true _ _ all).1)

pub kept : (p : Program) (s : State) → StandsAtPlace p s → HasPlacedFrames p s
kept p s stands = record {
  codes = both_true (place_has_code (method_at p s.top.method).code s.top.position stands.top) (callers_have_code p s.callers stands.below);
  top = stands.top;
  callers = stands.below;
}

pub goes_on : (p : Program) (o : Outcome) → MayCome p o → GoesOnPlaced p o
goes_on p (Go s) comes = kept p s comes.leaves
goes_on p (Raise class message s) comes = kept p s (stands_there p s comes.leaves.1)
goes_on p (Throw r s) comes = kept p s (stands_there p s comes.leaves.1)
goes_on p (Begin class s) comes = kept p s (stands_there p s comes.leaves)
goes_on p (Native m s) comes = kept p s (stands_there p s comes.leaves)
goes_on p (Write stream units s) comes = kept p s comes.leaves
goes_on p (Ended end) comes = tt

pub is_throwing : (p : Program) (o : Outcome) → MayCome p o → IsThrowing p o
is_throwing p (Raise class message s) comes = comes.leaves.0
is_throwing p (Throw r s) comes = comes.leaves.0
is_throwing p _ comes = tt

pub keeps_facts : (p : Program) → IsRunnable p → KeepsFacts p
keeps_facts p whole = record {
  kept = λ c n. kept p (last_state (steps p n (start p c))) (stands_after c n);
  goes_on = λ c n g is. (goes_on p (row p g.state) (comes c n g is), goes_on p (outcome_carried_out p (row p g.state)) (carried_out_comes p whole (row p g.state) (comes c n g is)));
  throws = λ c n g is. (is_throwing p (row p g.state) (comes c n g is), is_throwing p (outcome_carried_out p (row p g.state)) (carried_out_comes p whole (row p g.state) (comes c n g is)));
}
  where
    stands_after : (c : Config) (n : ℕ) → RunStands p (steps p n (start p c))
    stands_after c n = steps_stand p whole n (start p c) (start_stands p whole c)

    comes : (c : Config) (n : ℕ) (g : Progress) → steps p n (start p c) ≡ Live g → MayCome p (row p g.state)
    comes c n g is = row_comes p whole g.state (subst (RunStands p) is (stands_after c n))
