-- What every run keeps, from its start on.
use Rattle.std.proofs.Common.{Bool, ap, sym, ◌∙◌, List, None, Option, Some, [], arith, refl, suc, true, zero, ℕ, ◌+◌, ◌≤◌, ◌∷◌, ◌≡◌}
use Rattle.std.specs.Cmp.Derive.{both_true}
use Rattle.std.specs.List.{list_all}
use Rattle.std.specs.Prelude.{length, map, reverse}
use Rattle.vx_class.specs.declared.class_file.Code.{Code}
use Rattle.vx_pool.specs.Holding.{and_true}
use Rattle.vx_pool.specs.Instructions.{is_start}
use Rattle.vx_java.specs.Initialisation.{begin, init_chain, init_frame, with_frames}
use Rattle.vx_java.specs.Machine.{Begin, Ends, Goes, Here, Native, Next, Outcome, Raise, State, Throw, current_class, place, with_inits}
use Rattle.vx_java.specs.Natives.{native}
use Rattle.vx_java.specs.Operation.{class_word, operation_of}
use Rattle.vx_java.specs.Row.{row, row_at, row_if, row_in}
use Rattle.vx_java.specs.Step.{Config, Live, Over, Progress, Run, before_main, next, outcome_carried_out, result, run, run_after, start, step, steps, text_of}
use Rattle.vx_jump_targets.specs.Placed.{has_placed_code, is_well_placed, starts_in}
use Rattle.vx_link.specs.ClassNames.{class_text}
use Rattle.vx_link.specs.Parts.{class_at, method_at, no_method}
use Rattle.vx_link.specs.declared.program.Program.{Program}
use Rattle.vx_named_classes.specs.Named.{is_named_code, is_named_instruction, is_named_method}
use Rattle.vx_kept_facts.proofs.Claims.{begin_comes, main_chain, start_comes}
use Rattle.vx_kept_facts.proofs.KeptRows.{item_passes}
use Rattle.vx_kept_facts.proofs.Landings.{leads}
use Rattle.vx_kept_facts.proofs.NativeRows.{carried_out_comes, seen}
use Rattle.vx_kept_facts.proofs.Operations.{operation_comes}
use Rattle.vx_kept_facts.proofs.Places.{jump_checked, passes_there, place_behind}
use Rattle.vx_kept_facts.proofs.Rows.{begins_there, placed}
use Rattle.vx_opcode.specs.Decode.{instruction_at}
use Rattle.vx_opcode.specs.declared.instruction.Instruction.{Instruction}
use Rattle.vx_value.specs.declared.end.End.TheVariants.{Unsupported}
use Rattle.vx_value.specs.declared.end.Stream.{Stream}
use Rattle.vx_value.specs.declared.key.Kind.{Kind}
use Rattle.vx_value.specs.declared.key.Kind.TheVariants.{Init, Wait}
use Rattle.vx_value.specs.declared.slot.InitState.TheVariants.{Running}
use Rattle.vx_spelled_ends.specs.Law.{IsSound, IsSpelledRun}
use Rattle.vx_spelled_ends.specs.Positions.{all_stand, is_position_of, stands}
use Rattle.vx_spelled_ends.specs.Spelled.{is_spelled}
use Rattle.vx_spelled_ends.proofs.Names.{all_named}
use Rattle.vx_spelled_ends.proofs.Positions.{first_position, resumed_position, start_position}
use Rattle.vx_spelled_ends.proofs.Sites.{AtPosition, good, good_rows, is_good, left_out_spelled, place_given}
use Rattle.vx_spelled_ends.proofs.Tests.{all_append}
use Rattle.vx_spelled_ends.proofs.Throws.{class_text_given, is_good_next, raised_good, thrown_good}

module _ (p : Program) (sound : IsSound p) where
  abbrev Good : Outcome → Type 0
  Good o = is_good p o ≡ true

  method_named : (m : ℕ) → is_named_method p (method_at p m) ≡ true
  method_named m = item_passes (is_named_method p) p.methods m no_method sound.named.codes refl

  -- ---- the row of an attempt

  module _ (s : State) (stand : all_stand p s ≡ true) where
    top : stands p s.top ≡ true
    top = (and_true (stands p s.top) (list_all (stands p) s.callers) stand).0

    callers : list_all (stands p) s.callers ≡ true
    callers = (and_true (stands p s.top) (list_all (stands p) s.callers) stand).1

    at_instruction : (code : Code) (i : Instruction) → (method_at p s.top.method).code ≡ Some code → instruction_at code.bytes s.top.position ≡ Some i → Good (row_at p s code i)
    at_instruction code i coded found =
        let at = s.top.position in
        let pool = (class_at p (current_class p s)).pool in
        let h : Here = record { program = p; state = s; code = code; pool = pool; size = i.length } in
        let begins : is_start (starts_in code) at ≡ true = begins_there code at i found (ap (λ c. is_position_of c at) (sym coded) ∙ top) in
        let site : AtPosition h = record {
          here = top;
          behind = ap (λ c. is_position_of c (at + i.length)) coded ∙ place_behind code at i found begins;
          starts = λ to start. ap (λ c. is_position_of c to) coded ∙ start_position code to start;
          below = callers;
        } in
        let names : is_named_code pool (Some code) ≡ true = ap (is_named_code pool) (sym coded) ∙ method_named s.top.method in
        let name : is_named_instruction pool (instruction_at code.bytes at) ≡ true =
        passes_there (λ n. is_named_instruction pool (instruction_at code.bytes n)) (starts_in code) at names begins in
        let well : is_well_placed code ≡ true = ap has_placed_code (sym coded) ∙ placed p sound.placed s.top.method in
        operation_comes good_rows h site (operation_of i) (leads h i found (jump_checked code at i well found begins))
        (all_named pool (operation_of i) (ap (is_named_instruction pool) (sym found) ∙ name)) s.top.operands

    attempted : Good (row p s)
    attempted = by_code (method_at p s.top.method).code refl
      where
        by_instruction : (code : Code) → (method_at p s.top.method).code ≡ Some code → (o : Option Instruction) → instruction_at code.bytes s.top.position ≡ o → Good (row_if p s code o)
        by_instruction code coded None found = place_given p s.top.method s.top.position
        by_instruction code coded (Some i) found = at_instruction code i coded found

        by_code : (o : Option Code) → (method_at p s.top.method).code ≡ o → Good (row_in p s o)
        by_code None coded = place_given p s.top.method s.top.position
        by_code (Some code) coded = by_instruction code coded (instruction_at code.bytes s.top.position) refl

    -- ---- a native method that is carried out

    native_site : (code : Option Code) → (method_at p s.top.method).code ≡ code → AtPosition (seen p s code)
    native_site None coded = record {
      here = top;
      behind = ap (λ c. is_position_of c (s.top.position + (seen p s None).size)) coded;
      starts = λ to start. ap (λ c. is_position_of c to) coded;
      below = callers;
    }
    native_site (Some code) coded = record {
      here = top;
      behind =
          ap (λ c. is_position_of c (s.top.position + (seen p s (Some code)).size)) coded
          ∙ resumed_position (Some code) s.top.position (ap (λ c. is_position_of c s.top.position) (sym coded) ∙ top);
      starts = λ to start. ap (λ c. is_position_of c to) coded ∙ start_position code to start;
      below = callers;
    }

    native_carried : (m : ℕ) → Good (native p s m)
    native_carried m =
        carried_out_comes good (seen p s (method_at p s.top.method).code) (native_site (method_at p s.top.method).code refl) (method_at p m)

  -- ---- a beginning

  frame_stands : (kind : Kind) (c : ℕ) → stands p (init_frame p kind c) ≡ true
  frame_stands kind c = first_position (method_at p (class_at p c).initialiser.0).code

  frames_stand : (classes : List ℕ) → list_all (stands p) (map (init_frame p Wait) classes) ≡ true
  frames_stand [] = refl
  frames_stand (c ∷ classes) = both_true (frame_stands Wait c) (frames_stand classes)

  with_frames_stand : (s : State) (classes : List ℕ) → all_stand p s ≡ true → all_stand p (with_frames p s classes) ≡ true
  with_frames_stand s [] stand = stand
  with_frames_stand s (c ∷ below) stand = both_true (frame_stands Init c) (all_append (stands p) (map (init_frame p Wait) below) (s.top ∷ s.callers) (frames_stand below) stand)

  blocked_spelled : (s : State) (i : ℕ) → is_spelled (Unsupported class_word (class_text p i) (place p s)) ≡ true
  blocked_spelled s i = left_out_spelled class_word (class_text p i) (place p s) (class_text_given p i sound) (place_given p s.top.method s.top.position)

  begun_good : (s : State) (c : ℕ) → all_stand p s ≡ true → Good (begin p s c)
  begun_good s c stand =
      let chain = init_chain p s.inits c in
      begin_comes Good p s c (λ i is. blocked_spelled s i) stand stand (with_frames_stand (with_inits s Running chain) (reverse chain) stand)

  -- ---- one step

  carried : (o : Outcome) → Good o → Good (outcome_carried_out p o)
  carried (Begin class s) f = begun_good s class f
  carried (Native m s) f = native_carried s f m
  carried _ f = f

  followed : (o : Outcome) → Good o → is_good_next p (next p o) ≡ true
  followed (Raise class message s) f = raised_good p s class message sound f
  followed (Throw r s) f = thrown_good p s r sound f
  followed _ f = f

  -- ---- runs

  -- a run's frames stand well, or its end can be spelled
  abbrev pub is_good_run : Run → Bool
  is_good_run (Live g) = all_stand p g.state
  is_good_run (Over e g) = is_spelled e

  after_good : (g : Progress) (text : List (Stream × ℕ)) (n : Next) → is_good_next p n ≡ true → is_good_run (run_after g text n) ≡ true
  after_good g text (Goes s) f = f
  after_good g text (Ends e) f = f

  pub step_good : (g : Progress) → all_stand p g.state ≡ true → is_good_run (step p g) ≡ true
  step_good g stand =
      let o = outcome_carried_out p (row p g.state) in
      after_good g (text_of o) (next p o) (followed o (carried (row p g.state) (attempted g.state stand)))

  pub steps_good : (n : ℕ) (r : Run) → is_good_run r ≡ true → is_good_run (steps p n r) ≡ true
  steps_good zero r f = f
  steps_good (suc n) (Over e g) f = f
  steps_good (suc n) (Live g) f = steps_good n (step p g) (step_good g f)

  pub start_good : (config : Config) → is_good_run (start p config) ≡ true
  start_good config =
      let s = before_main p config in
      let stand : all_stand p s ≡ true = both_true (first_position (method_at p p.main.0).code) refl in
      start_comes (λ r. is_good_run r ≡ true) p config (λ i is. blocked_spelled s i) refl (with_frames_stand (with_inits s Running (main_chain p config)) (reverse (main_chain p config)) stand) stand

  pub result_spelled : (r : Run) → is_good_run r ≡ true → is_spelled (result r).end ≡ true
  result_spelled (Live g) f = refl
  result_spelled (Over e g) f = f

-- ---- numbers of attempts

abbrev pub used : Run → ℕ
used r = (result r).attempts

used_after : (g : Progress) (text : List (Stream × ℕ)) (n : Next) → used (run_after g text n) ≡ suc g.attempts
used_after g text (Goes s) = refl
used_after g text (Ends e) = refl

pub used_step : (p : Program) (g : Progress) → used (step p g) ≡ suc g.attempts
used_step p g = let o = outcome_carried_out p (row p g.state) in used_after g (text_of o) (next p o)

used_within : (p : Program) (n : ℕ) (r : Run) → used (steps p n r) ≤ used r + n
used_within p zero r = omega arith
used_within p (suc n) (Over e g) = omega arith
used_within p (suc n) (Live g) =
    let one = used_step p g in
    let rest = used_within p n (step p g) in
    omega (arith, one, rest)

pub used_none : (p : Program) (config : Config) → used (start p config) ≡ 0
used_none p config = start_comes (λ r. used r ≡ 0) p config (λ i is. refl) refl refl refl

-- ---- the laws

pub frames_stay : (p : Program) (config : Config) (n : ℕ) (g : Progress) → IsSound p → steps p n (start p config) ≡ Live g → all_stand p g.state ≡ true
frames_stay p config n g sound is = rw is at (steps_good p sound n (start p config) (start_good p sound config))

pub run_spelled : (p : Program) (config : Config) (limit : ℕ) → IsSound p → IsSpelledRun limit (run p config limit)
run_spelled p config limit sound =
    let none = used_none p config in
    let within = used_within p limit (start p config) in
    record {
      end = result_spelled p sound (steps p limit (start p config)) (steps_good p sound limit (start p config) (start_good p sound config));
      attempts = omega (arith, none, within);
    }
