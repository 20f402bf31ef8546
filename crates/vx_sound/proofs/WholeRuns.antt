-- A run whose start is typed, and whose attempts keep to types, never ends as illegal.
use Rattle.std.proofs.Common.{List, None, Option, Some, false, refl, subst, suc, sym, zero, ℕ, ◌≡◌}
use Rattle.vx_class.specs.declared.class_file.Code.{Code}
use Rattle.vx_java.specs.Machine.{Ends, Goes, Next}
use Rattle.vx_java.specs.Row.{row}
use Rattle.vx_java.specs.Step.{Config, Live, Over, Progress, Run, next, outcome_carried_out, result, run_after, start, step, steps, text_of}
use Rattle.vx_kept_facts.proofs.Runs.{keeps_facts}
use Rattle.vx_kept_facts.specs.Kept.{HasPlacedFrames, last_state}
use Rattle.vx_link.specs.Parts.{method_at}
use Rattle.vx_link.specs.declared.program.Program.{Program}
use Rattle.vx_sound.specs.Law.{CarryingKeepsTypes, NextKeepsTypes, RowsKeepTypes, StartIsTyped, VerifiedNeverIllegal}
use Rattle.vx_sound.specs.Sound.{IsSound}
use Rattle.vx_sound.specs.Typed.{AreTypings, IsTypedNext, IsTypedRun, IsTypedState, IsTypingOf, Typings, is_illegal}
use Rattle.vx_types.specs.Types.{VerState}
use Rattle.vx_value.specs.declared.end.Stream.{Stream}
use Rattle.vx_verify.specs.Typing.{IsCodeTyped}
use Rattle.vx_verify.specs.Verdict.{IsVerified}

-- ---- typings of a verified program

-- a typing of a method's code; none where it has none
typing_of : (p : Program) (m : ℕ) (code : Option Code) → IsCodeTyped p m code → ℕ → Option VerState
typing_of p m None typed = λ position. None
typing_of p m (Some code) typed = typed.0

typing_is : (p : Program) (m : ℕ) (code : Option Code) (typed : IsCodeTyped p m code) → IsTypingOf p m code (typing_of p m code typed)
unfolding typing_of
typing_is p m None typed = λ position. refl
typing_is p m (Some code) typed = typed.1

typings_of : (p : Program) → IsVerified p → Typings
typings_of p verified m = typing_of p m (method_at p m).code (verified m)

typings_are : (p : Program) (verified : IsVerified p) → AreTypings p (typings_of p verified)
unfolding typings_of
typings_are p verified m = typing_is p m (method_at p m).code (verified m)

-- ---- attempts

after_typed : (p : Program) (typings : Typings) (g : Progress) (text : List (Stream × ℕ)) (n : Next) → IsTypedNext p typings n → IsTypedRun p typings (run_after g text n)
after_typed p typings g text (Goes s) typed = typed
after_typed p typings g text (Ends e) typed = typed

-- one attempt more
one_more : (p : Program) (n : ℕ) (r : Run) → steps p (suc n) r ≡ steps p 1 (steps p n r)
one_more p zero r = refl
one_more p (suc n) (Over e g) = refl
one_more p (suc n) (Live g) = one_more p n (step p g)

module _ (rows : RowsKeepTypes) (carrying : CarryingKeepsTypes) (nexts : NextKeepsTypes) where
  step_typed : (p : Program) (typings : Typings) → IsSound p → AreTypings p typings → (g : Progress) → HasPlacedFrames p g.state → IsTypedState p typings g.state → IsTypedRun p typings (step p g)
  step_typed p typings sound are g placed typed =
      let carried = carrying p typings (row p g.state) sound are (rows p typings g.state sound are placed typed) in
      after_typed p typings g (text_of (outcome_carried_out p (row p g.state))) (next p (outcome_carried_out p (row p g.state)))
      (nexts p typings (outcome_carried_out p (row p g.state)) sound are carried)

  attempt_typed : (p : Program) (typings : Typings) → IsSound p → AreTypings p typings → (r : Run) → HasPlacedFrames p (last_state r) → IsTypedRun p typings r → IsTypedRun p typings (steps p 1 r)
  attempt_typed p typings sound are (Over e g) placed typed = typed
  attempt_typed p typings sound are (Live g) placed typed = step_typed p typings sound are g placed typed

  -- each state of a run stands at instructions
  runs_typed : (p : Program) (typings : Typings) → IsSound p → AreTypings p typings → (c : Config) → IsTypedRun p typings (start p c) → (n : ℕ) → IsTypedRun p typings (steps p n (start p c))
  runs_typed p typings sound are c started zero = started
  runs_typed p typings sound are c started (suc n) =
      subst (λ (r : Run). IsTypedRun p typings r) (sym (one_more p n (start p c)))
      (attempt_typed p typings sound are (steps p n (start p c)) ((keeps_facts p sound.runnable).kept c n) (runs_typed p typings sound are c started n))

  ended : (p : Program) (typings : Typings) (r : Run) → IsTypedRun p typings r → is_illegal (result r).end ≡ false
  ended p typings (Live g) typed = refl
  ended p typings (Over e g) typed = typed

  pub never_illegal : StartIsTyped → VerifiedNeverIllegal
  never_illegal starts p sound verified c n =
      let typings = typings_of p verified in
      let are = typings_are p verified in
      ended p typings (steps p n (start p c)) (runs_typed p typings sound are c (starts p typings sound are c) n)
