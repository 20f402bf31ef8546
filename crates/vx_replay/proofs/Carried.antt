-- An attempt: what its row comes to, carried out, and where that leads.
use Rattle.std.proofs.Common.{◌≡◌, refl, sym, ap, ◌∙◌, subst}
use Rattle.std.proofs.lemmas.Result.{IfOk-weaker}
use Rattle.std.specs.Prelude.{IfOk, Result, ◌≢◌}
use Rattle.vx_java.specs.Machine as machine
use Rattle.vx_java.specs.Machine.{State}
use Rattle.vx_java.specs.Row.{row}
use Rattle.vx_java.specs.Step.{next, outcome_carried_out, text_of}
use Rattle.vx_link.specs.declared.program.Program.{Program}
use Rattle.vx_plain_here.specs.Rows.{ComesTo, Stands, outcome_over, places_of}
use Rattle.vx_plain_here.specs.declared.outcome.Outcome.{Outcome}
use Rattle.vx_plain_here.specs.declared.outcome.Outcome.TheVariants.{Begin, Ended, Go, Native, Raise, Throw, Write}
use Rattle.vx_plain_throw.specs.Passing.{Led}
use Rattle.vx_plain_throw.specs.declared.next.Next.{Next}
use Rattle.vx_plain_throw.specs.declared.next.Next.TheVariants as plain
use Rattle.vx_replay.specs.Attempts.{IsAttempt, Leads}
use Rattle.vx_replay.specs.declared.attempting.Attempted.{Attempted}
use Rattle.vx_value.specs.declared.end.End.{End}
use Rattle.vx_value.specs.declared.ids.ClassId.{ClassId}
use Rattle.vx_value.specs.declared.ids.MethodId.{MethodId}

-- ---- what is carried out

-- an outcome that is neither a beginning nor a native method stays
pub others_stay : (p : Program) (s : State) (o : Outcome) → ((class : ClassId) → o ≢ Begin class) → ((method : MethodId) → o ≢ Native method) → ComesTo (outcome_carried_out p (outcome_over s o)) s s o
others_stay p s (Begin class) begin native = absurd (begin class refl)
others_stay p s (Native method) begin native = absurd (native method refl)
others_stay p s Go begin native = record { same = refl; stands = tt }
others_stay p s (Raise class message) begin native = record { same = refl; stands = refl }
others_stay p s (Throw object) begin native = record { same = refl; stands = refl }
others_stay p s (Write stream units) begin native = record { same = refl; stands = tt }
others_stay p s (Ended end) begin native = record { same = refl; stands = refl }

-- where an outcome leads to the end of the run, the frames stand where they stood
ends_still : (p : Program) (old new : State) (o : Outcome) (end : End) → next p (outcome_over new o) ≡ machine.Ends end → Stands old new o → places_of new ≡ places_of old
ends_still p old new Go end e stands = cc
ends_still p old new (Raise class message) end e stands = stands
ends_still p old new (Throw object) end e stands = stands
ends_still p old new (Begin class) end e stands = cc
ends_still p old new (Native method) end e stands = cc
ends_still p old new (Write stream units) end e stands = cc
ends_still p old new (Ended reached) end e stands = stands

-- and so they do before the outcome was carried out
ends_first : (p : Program) (old new : State) (o : Outcome) (end : End) → next p (outcome_carried_out p (outcome_over new o)) ≡ machine.Ends end → Stands old new o → places_of new ≡ places_of old
ends_first p old new Go end e stands = cc
ends_first p old new (Raise class message) end e stands = stands
ends_first p old new (Throw object) end e stands = stands
ends_first p old new (Begin class) end e stands = stands
ends_first p old new (Native method) end e stands = stands
ends_first p old new (Write stream units) end e stands = cc
ends_first p old new (Ended reached) end e stands = stands

-- ---- the attempt

module _ (p : Program) (s first second new : State) (o carried : Outcome) (row_is : ComesTo (row p s) s first o) (carried_is : ComesTo (outcome_carried_out p (outcome_over first o)) first second carried) where
  same : outcome_over second carried ≡ outcome_carried_out p (row p s)
  same = carried_is.same ∙ ap (outcome_carried_out p) row_is.same

  stood : (end : End) → next p (outcome_over second carried) ≡ machine.Ends end → places_of second ≡ places_of s
  stood end e = ends_still p first second carried end e carried_is.stands ∙ ends_first p s first o end (sym (ap (next p) carried_is.same) ∙ e) row_is.stands

  led_from : (n : Next) → Led (next p (outcome_over second carried)) second new n → Led (next p (outcome_carried_out p (row p s))) s new n
  led_from plain.Goes led = sym (ap (next p) same) ∙ led
  led_from (plain.Ends end) led = (sym (ap (next p) same) ∙ led.0, led.1 ∙ stood end led.0)

  leads_from : (a : Attempted) → Leads p (outcome_over second carried) second new a → IsAttempt p s new a
  leads_from a leads = record { text = leads.text ∙ ap text_of same; led = led_from a.next leads.led }

  pub came : {E : Type 0} (r : Result Attempted E) → IfOk r (Leads p (outcome_over second carried) second new) → IfOk r (IsAttempt p s new)
  came r leads = IfOk-weaker r (Leads p (outcome_over second carried) second new) (IsAttempt p s new) leads_from leads
