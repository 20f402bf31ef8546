-- Each run that ends as unsupported ends so at a spot, for what is listed there.
use Rattle.std.proofs.Common.{Bool, ap, cond, List, None, Ok, Option, Some, [], arith, bytes_eq, false, flat_map, length, map, refl, subst, suc, sym, true, zero, ℕ, ◌+◌, ◌<◌, ◌≤◌, ◌∙◌, ◌∷◌, ◌≡◌}
use Rattle.std.proofs.lemmas.Bool.{or_left}
use Rattle.std.proofs.lemmas.Bool.Decides.{nat_tests}
use Rattle.std.proofs.lemmas.List.Folds.{list_any-append}
use Rattle.std.proofs.lemmas.List.Sums.{take_while-cons}
use Rattle.std.proofs.lemmas.Option.{same_Some}
use Rattle.std.proofs.lemmas.Slice.Eq.{bytes_eq-Decides}
use Rattle.std.specs.Cmp.Derive.{both_true}
use Rattle.std.specs.List.{cons_option, filter_map, list_all, list_any, range_with_len}
use Rattle.std.specs.Prelude.{All, take_while, ◌-◌, ◌==◌, ◌||◌}
use Rattle.vx_class.specs.File.{Holds}
use Rattle.vx_class.specs.declared.class_file.ClassFile.{ClassFile}
use Rattle.vx_class.specs.declared.class_file.Code.{Code}
use Rattle.vx_pool.specs.Holding.{and_true}
use Rattle.vx_pool.specs.Instructions.{is_start}
use Rattle.vx_java.specs.Initialisation.{begin, blocked, chain_blocked, is_not}
use Rattle.vx_java.specs.Machine.{Begin, Ended, Ends, Frame, Goes, Native, Next, Outcome, Raise, State, Throw, current_class, init_at, next_object, place, place_at, with_objects}
use Rattle.vx_java.specs.Natives.{native}
use Rattle.vx_java.specs.Operation.{class_word, operation_of}
use Rattle.vx_java.specs.Row.{row, row_if, row_in}
use Rattle.vx_java.specs.Step.{Config, Live, Over, Progress, Run, before_main, next, outcome_carried_out, result, run, run_after, start, step, steps, text_of}
use Rattle.vx_java.specs.Throwing.{exception_objects, handler_of, next_in_handler, passed_object, passed_state, uncaught, unwind}
use Rattle.vx_kept_facts.proofs.Claims.{begin_comes, start_comes}
use Rattle.vx_kept_facts.proofs.NativeRows.{carried_out_comes, seen}
use Rattle.vx_kept_facts.proofs.Rows.{begins_there}
use Rattle.vx_kept_facts.proofs.Places.{or_right}
use Rattle.vx_link.specs.ClassNames.{class_text}
use Rattle.vx_link.specs.Hierarchy.{superclasses}
use Rattle.vx_link.specs.Linked.{linked_program}
use Rattle.vx_link.specs.Parts.{class_at, method_at, no_method}
use Rattle.vx_link.specs.declared.program.LinkedMethod.{LinkedMethod}
use Rattle.vx_link.specs.declared.program.Program.{Program}
use Rattle.vx_list.specs.Places.{item_or}
use Rattle.vx_model.specs.declared.model.OptionField.{OptionField}
use Rattle.vx_opcode.specs.Decode.{instruction_at}
use Rattle.vx_opcode.specs.declared.instruction.Instruction.{Instruction}
use Rattle.vx_spelled_ends.proofs.Runs.{is_good_run, start_good, step_good}
use Rattle.vx_spelled_ends.proofs.Sound.{linked_sound}
use Rattle.vx_spelled_ends.proofs.Tests.{tests_same}
use Rattle.vx_spelled_ends.specs.Law.{IsSound}
use Rattle.vx_spelled_ends.specs.Positions.{all_stand, is_position_of, stands}
use Rattle.vx_value.specs.declared.end.End.{End}
use Rattle.vx_value.specs.declared.end.End.TheVariants.{Unsupported}
use Rattle.vx_value.specs.declared.end.Stream.{Stream}
use Rattle.vx_may_end.specs.Lacks.{lacks_at, lacks_in, lacks_of_instruction, of_blocking, of_initialisation}
use Rattle.vx_may_end.specs.Listed.{first_spots, is_lack, is_one, is_told, positions_of, spot_of, spots, spots_at, spots_of, tells}
use Rattle.vx_may_end.specs.declared.lack.Lack.{Lack}
use Rattle.vx_may_end.specs.declared.lack.Spot.{Spot}
use Rattle.vx_may_end.proofs.Quiet.{quiet}
use Rattle.vx_may_end.proofs.Rows.{row_told}
use Rattle.vx_may_end.proofs.Told.{IsToldEnd, Tells, are_lacks, is_itself, quietly, same_text}

bytes_are : (xs ys : List ℕ) → bytes_eq xs ys ≡ true → xs ≡ ys
bytes_are xs ys e = (bytes_eq-Decides xs ys).0 e

module _ (p : Program) where
  -- ---- one attempt

  attempted : (s : State) → Tells p (lacks_at p s.top.method s.top.position) (place p s) (row p s)
  attempted s = by_code (method_at p s.top.method).code
    where
      by_instruction : (code : Code) (o : Option Instruction) → Tells p (lacks_of_instruction p (method_at p s.top.method).class.0 o) (place p s) (row_if p s code o)
      by_instruction code None = record { told = tt }
      by_instruction code (Some i) =
          row_told (record { program = p; state = s; code = code; pool = (class_at p (current_class p s)).pool; size = i.length }) (operation_of i)

      by_code : (o : Option Code) → Tells p (lacks_in p (method_at p s.top.method).class.0 o s.top.position) (place p s) (row_in p s o)
      by_code None = record { told = tt }
      by_code (Some code) = by_instruction code (instruction_at code.bytes s.top.position)

  -- the interface that blocks a chain of classes is among those that block them
  abbrev listed : ℕ → List ℕ → Bool
  listed i found = is_lack (map (of_blocking p) found) class_word (class_text p i)

  abbrev Blocking : (ℕ → Bool) → ℕ → List ℕ → Type 0
  Blocking test i classes = chain_blocked p (take_while test classes) ≡ Some i → listed i (filter_map (blocked p) classes) ≡ true

  blocking_first : (test : ℕ → Bool) (c : ℕ) (classes : List ℕ) (i : ℕ) (o : Option ℕ)
      → (elim o [ Some j ↦ Some j | None ↦ chain_blocked p (take_while test classes) ]) ≡ Some i → Blocking test i classes → listed i (cons_option o (filter_map (blocked p) classes)) ≡ true
  blocking_first test c classes i (Some j) e later =
      or_left _ _ (subst (λ (k : ℕ). is_one class_word (class_text p k) (of_blocking p j) ≡ true) (same_Some j i e) (is_itself (of_blocking p j)))
  blocking_first test c classes i None e later = later e

  blocking_next : (test : ℕ → Bool) (c : ℕ) (classes : List ℕ) (i : ℕ) (b : Bool)
      → chain_blocked p (cond b (c ∷ take_while test classes) []) ≡ Some i → Blocking test i classes → listed i (filter_map (blocked p) (c ∷ classes)) ≡ true
  blocking_next test c classes i true e later = blocking_first test c classes i (blocked p c) e later
  blocking_next test c classes i false e later = absurd cc

  blocking_listed : (test : ℕ → Bool) (classes : List ℕ) (i : ℕ) → Blocking test i classes
  blocking_listed test [] i e = absurd cc
  blocking_listed test (c ∷ classes) i e =
      blocking_next test c classes i (test c) (ap (chain_blocked p) (sym (take_while-cons test c classes)) ∙ e) (blocking_listed test classes i)

  -- each of some lacks that are among others is there
  same_lack : (ls : List Lack) (l : Lack) (word : ℕ) (what : List ℕ) → is_one word what l ≡ true → is_lack ls l.word l.what ≡ true → is_lack ls word what ≡ true
  same_lack ls l word what e there =
      let parts = and_true (l.word == word) (bytes_eq l.what what) e in
      let words = tests_same l.word word parts.0 in
      let texts : l.what ≡ what = bytes_are l.what what parts.1 in
      rw (sym words, sym texts) there

  each_is_lack : (ls these : List Lack) (word : ℕ) (what : List ℕ) → are_lacks ls these ≡ true → is_lack these word what ≡ true → is_lack ls word what ≡ true
  each_is_lack ls [] word what all e = absurd cc
  each_is_lack ls (l ∷ these) word what all e = by (is_one word what l) refl e (each_is_lack ls these word what parts.1)
    where
      parts : (is_lack ls l.word l.what ≡ true) × (are_lacks ls these ≡ true)
      parts = and_true (is_lack ls l.word l.what) (are_lacks ls these) all

      by : (b : Bool) → is_one word what l ≡ b → (b || is_lack these word what) ≡ true → (is_lack these word what ≡ true → is_lack ls word what ≡ true) → is_lack ls word what ≡ true
      by true is f later = same_lack ls l word what is parts.0
      by false is f later = later f

  -- an outcome that has been carried out is told by its end alone
  abbrev EndTold : List Lack → List ℕ → Outcome → Type 0
  EndTold ls at (Ended e) = IsToldEnd ls at e
  EndTold ls at _ = Unit {0}

  tells_end : (ls : List Lack) (at : List ℕ) (o : Outcome) → Tells p ls at o → EndTold ls at o
  tells_end ls at (Ended e) t = t.told
  tells_end ls at _ t = tt

  carried : (ls : List Lack) (at : List ℕ) (o : Outcome) → Tells p ls at o → EndTold ls at (outcome_carried_out p o)
  carried ls at (Begin c s) t =
      tells_end ls at (begin p s c)
      (begin_comes (Tells p ls at) p s c
      (λ i is. record { told = (each_is_lack ls (of_initialisation p c) class_word (class_text p i) t.told.0 (blocking_listed (λ d. is_not (init_at s.inits d)) (superclasses p c) i is), t.told.1) })
      (record { told = tt }) (record { told = tt }) (record { told = tt }))
  carried ls at (Native m s) t =
      tells_end ls at (native p s m)
      (quietly p ls at (native p s m) (carried_out_comes quiet (seen p s (method_at p s.top.method).code) tt (method_at p m)))
  carried ls at (Ended e) t = t.told
  carried ls at _ t = tt

  -- ---- where an outcome leads

  abbrev NextTold : List Lack → List ℕ → Next → Type 0
  NextTold ls at (Ends e) = IsToldEnd ls at e
  NextTold ls at (Goes s) = Unit {0}

  unwound : (ls : List Lack) (at : List ℕ) (s : State) (r : ℕ) (below : List Frame) → NextTold ls at (unwind p s r below)
  unwound ls at s r [] = by (handler_of p s s.top.kind r)
    where
      by : (o : Option ℕ) → NextTold ls at (elim o [ Some handler ↦ next_in_handler s r handler | None ↦ uncaught p (passed_state p s s.top.kind r) (passed_object p s s.top.kind r) ])
      by (Some handler) = tt
      by None = tt
  unwound ls at s r (f ∷ below) =
      by (handler_of p s s.top.kind r) (unwound ls at (record (passed_state p s s.top.kind r) { top = f; callers = below }) (passed_object p s s.top.kind r) below)
    where
      by : (o : Option ℕ) → NextTold ls at (unwind p (record (passed_state p s s.top.kind r) { top = f; callers = below }) (passed_object p s s.top.kind r) below)
          → NextTold ls at (elim o [ Some handler ↦ next_in_handler s r handler | None ↦ unwind p (record (passed_state p s s.top.kind r) { top = f; callers = below }) (passed_object p s s.top.kind r) below ])
      by (Some handler) later = tt
      by None later = later

  followed : (ls : List Lack) (at : List ℕ) (o : Outcome) → EndTold ls at o → NextTold ls at (next p o)
  followed ls at (Raise class message s) t =
      let objects = exception_objects p s class message in
      unwound ls at (with_objects s objects) (next_object s + length objects - 1) s.callers
  followed ls at (Throw r s) t = unwound ls at s r s.callers
  followed ls at (Ended e) t = t
  followed ls at _ t = tt

  -- ---- spots

  -- a lack of a place is at the spot there
  lack_told : (word : ℕ) (what : List ℕ) (m at : ℕ) (ls : List Lack) → is_lack ls word what ≡ true → list_any (tells p word what (place_at p m at)) (spot_of m at ls) ≡ true
  lack_told word what m at [] e = absurd cc
  lack_told word what m at (l ∷ ls) e = or_left _ _ (both_true e (same_text (place_at p m at)))

  -- what one of some numbers gives
  any_of : (test : Spot → Bool) (f : ℕ → List Spot) (n : ℕ) (numbers : List ℕ) → is_start numbers n ≡ true → list_any test (f n) ≡ true → list_any test (flat_map f numbers) ≡ true
  any_of test f n [] e t = absurd cc
  any_of test f n (k ∷ numbers) e t = list_any-append test (f k) (flat_map f numbers) ∙ by (k == n) refl e (λ later. any_of test f n numbers later t)
    where
      by : (b : Bool) → (k == n) ≡ b → (b || is_start numbers n) ≡ true → (is_start numbers n ≡ true → list_any test (flat_map f numbers) ≡ true) → (list_any test (f k) || list_any test (flat_map f numbers)) ≡ true
      by true is any later = or_left _ _ (subst (λ (j : ℕ). list_any test (f j) ≡ true) (sym (tests_same k n is)) t)
      by false is any later = or_right (list_any test (f k)) _ (later any)

  in_numbers : (n from many : ℕ) → from ≤ n → n < from + many → is_start (range_with_len from many) n ≡ true
  in_numbers n from zero least less = absurd (omega (arith, least, less))
  in_numbers n from (suc many) least less = by (from == n) refl (λ other. in_numbers n (from + 1) many (above from n least other) (omega (arith, less)))
    where
      above : (from n : ℕ) → from ≤ n → (from == n) ≡ false → from + 1 ≤ n
      above from n least other = grind (arith, nat_tests)

      by : (b : Bool) → (from == n) ≡ b → ((from == n) ≡ false → is_start (range_with_len (from + 1) many) n ≡ true) → (b || is_start (range_with_len (from + 1) many) n) ≡ true
      by true is later = refl
      by false is later = later is

  -- a method with code is one of the program
  has_number : (methods : List LinkedMethod) (m : ℕ) (code : Code) → (item_or methods m no_method).code ≡ Some code → m < length methods
  has_number [] m code e = absurd cc
  has_number (x ∷ methods) zero code e = omega arith
  has_number (x ∷ methods) (suc m) code e = let less = has_number methods m code e in omega (arith, less)

  -- an instruction that lacks something is listed
  record IsListed (m at : ℕ) : Type 0 where
    method : m < length p.methods
    position : is_start (positions_of (method_at p m).code) at ≡ true

  lacking_listed : (m at word : ℕ) (what : List ℕ) → is_position_of (method_at p m).code at ≡ true → is_lack (lacks_at p m at) word what ≡ true → IsListed m at
  lacking_listed m at word what stand lack = by_code (method_at p m).code refl lack
    where
      by_instruction : (code : Code) → (method_at p m).code ≡ Some code → (o : Option Instruction) → instruction_at code.bytes at ≡ o
          → is_lack (lacks_of_instruction p (method_at p m).class.0 o) word what ≡ true → IsListed m at
      by_instruction code coded None found e = absurd cc
      by_instruction code coded (Some i) found e = record {
        method = has_number p.methods m code coded;
        position = rw coded (begins_there code at i found (rw coded at stand));
      }

      by_code : (o : Option Code) → (method_at p m).code ≡ o → is_lack (lacks_in p (method_at p m).class.0 o at) word what ≡ true → IsListed m at
      by_code None coded e = absurd cc
      by_code (Some code) coded e = by_instruction code coded (instruction_at code.bytes at) refl e

  lack_is_told : (m at word : ℕ) (what : List ℕ) → is_position_of (method_at p m).code at ≡ true → is_lack (lacks_at p m at) word what ≡ true
      → list_any (tells p word what (place_at p m at)) (spots p) ≡ true
  lack_is_told m at word what stand lack =
      let test = tells p word what (place_at p m at) in
      let listed = lacking_listed m at word what stand lack in
      let here = any_of test (spots_at p m) at (positions_of (method_at p m).code) listed.position (lack_told word what m at (lacks_at p m at) lack) in
      let less = listed.method in
      let there = any_of test (spots_of p) m (range_with_len 0 (length p.methods)) (in_numbers m 0 (length p.methods) (omega arith) (omega (arith, less))) here in
      list_any-append test (first_spots p) (flat_map (spots_of p) (range_with_len 0 (length p.methods))) ∙ or_right (list_any test (first_spots p)) _ there

  end_is_told : (m at : ℕ) (e : End) → is_position_of (method_at p m).code at ≡ true → IsToldEnd (lacks_at p m at) (place_at p m at) e → is_told p e ≡ true
  end_is_told m at (Unsupported word what there) stand t = rw t.1 (lack_is_told m at word what stand t.0)
  end_is_told m at _ stand t = refl

  -- ---- runs

  abbrev RunTold : Run → Type 0
  RunTold (Live g) = Unit {0}
  RunTold (Over e g) = is_told p e ≡ true

  after_told : (g : Progress) (text : List (Stream × ℕ)) (m at : ℕ) (n : Next) → is_position_of (method_at p m).code at ≡ true → NextTold (lacks_at p m at) (place_at p m at) n → RunTold (run_after g text n)
  after_told g text m at (Goes s) stand t = tt
  after_told g text m at (Ends e) stand t = end_is_told m at e stand t

  step_told : (g : Progress) → all_stand p g.state ≡ true → RunTold (step p g)
  step_told g stand =
      let s = g.state in
      let o = outcome_carried_out p (row p s) in
      let ls = lacks_at p s.top.method s.top.position in
      after_told g (text_of o) s.top.method s.top.position (next p o) (and_true (stands p s.top) (list_all (stands p) s.callers) stand).0
      (followed ls (place p s) o (carried ls (place p s) (row p s) (attempted s)))

  steps_told : (sound : IsSound p) → (n : ℕ) (r : Run) → is_good_run p sound r ≡ true → RunTold r → RunTold (steps p n r)
  steps_told sound zero r good t = t
  steps_told sound (suc n) (Over e g) good t = t
  steps_told sound (suc n) (Live g) good t = steps_told sound n (step p g) (step_good p sound g good) (step_told g good)

  -- ---- the start

  start_told : (config : Config) → RunTold (start p config)
  start_told config =
      let s = before_main p config in
      let c = current_class p s in
      start_comes RunTold p config
      (λ i is.
      list_any-append (tells p class_word (class_text p i) (place p s)) (first_spots p) (flat_map (spots_of p) (range_with_len 0 (length p.methods)))
      ∙ or_left _ _ (lack_told class_word (class_text p i) p.main.0 0 (of_initialisation p c) (blocking_listed (λ d. is_not (init_at s.inits d)) (superclasses p c) i is)))
      refl tt tt

  result_told : (r : Run) → RunTold r → is_told p (result r).end ≡ true
  result_told (Live g) t = refl
  result_told (Over e g) t = t

  pub run_told : IsSound p → (config : Config) (limit : ℕ) → is_told p (run p config limit).end ≡ true
  run_told sound config limit = result_told (steps p limit (start p config)) (steps_told sound limit (start p config) (start_good p sound config) (start_told config))

pub linked_told : (classes : List ClassFile) (options : List OptionField) (main : List ℕ) (p : Program) (config : Config) (limit : ℕ)
    → All Holds classes → linked_program classes options main ≡ Ok p → is_told p (run p config limit).end ≡ true
linked_told classes options main p config limit holds is = run_told p (linked_sound classes options main p holds is) config limit
