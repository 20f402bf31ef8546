-- One attempt: what it notes, and where it leads.
use Rattle.std.proofs.Common.{◌≡◌, ℕ, ◌+◌, ◌-◌, Bool, true, false, List, length, refl, sym, ap, ◌∙◌, subst}
use Rattle.std.specs.Global.{Vec}
use Rattle.std.specs.Prelude.{IfOk, None, Option, Result, Some, option_map}
use Rattle.vx_java.specs.Machine as machine
use Rattle.vx_java.specs.Machine.{Ends, Goes, Outcome, Raise, State, next_object, object_at, with_objects}
use Rattle.vx_java.specs.Row.{row}
use Rattle.vx_java.specs.Step.{next, outcome_carried_out}
use Rattle.vx_java.specs.Throwing.{exception_objects}
use Rattle.vx_link.specs.declared.program.Program.{Program}
use Rattle.vx_noted.specs.Leaving.{leaves, left_at, left_by}
use Rattle.vx_noted.specs.Noted.{by_constructor, by_throwing, in_raised, in_wrapper, noted, standings_of, texts_of}
use Rattle.vx_noted.specs.Runs.{HasLeft, IsNoting, IsNotingBy, ends, lead}
use Rattle.vx_noted.specs.declared.frames.Standing.{Standing}
use Rattle.vx_noted.specs.declared.noting.Noting.{Noting}
use Rattle.vx_noted.specs.declared.noting.Noting.TheVariants as noting
use Rattle.vx_plain_here.specs.Rows.{ComesTo, outcome_over}
use Rattle.vx_plain_here.specs.declared.outcome.Outcome as plain
use Rattle.vx_plain_throw.specs.Passing.{Led}
use Rattle.vx_plain_throw.specs.declared.next.Next as led
use Rattle.vx_plain_throw.specs.declared.next.Next.TheVariants as leads

-- ---- what is raised

count_of : (p : Program) (s : State) (class : ℕ) (message : Option (List ℕ)) → texts_of message + 1 ≡ length (exception_objects p s class message)
count_of p s class None = refl
count_of p s class (Some message) = refl

pub raised_with : {E : Type 0} (result : Result (Option (Vec Standing)) E) (p : Program) (s : State) (class texts r : ℕ) (message : Option (List ℕ)) → texts ≡ texts_of message
    → IfOk result (λ found. option_map (λ frames. frames.items) found ≡ in_raised p s class (texts + 1) r)
    → IfOk result (λ found. option_map (λ frames. frames.items) found ≡ in_raised p s class (length (exception_objects p s class message)) r)
raised_with result p s class texts r message is found =
    subst (λ n. IfOk result (λ found. option_map (λ frames. frames.items) found ≡ in_raised p s class n r)) (ap (λ n. n + 1) is ∙ count_of p s class message) found

pub thrown_with : {E : Type 0} (result : Result (Option (Vec Standing)) E) (p : Program) (s : State) (wrapper class r object : ℕ) → wrapper ≡ next_object s → class ≡ (object_at s object).class
    → IfOk result (λ found. option_map (λ frames. frames.items) found ≡ in_wrapper p wrapper class (standings_of s) r)
    → IfOk result (λ found. option_map (λ frames. frames.items) found ≡ in_wrapper p (next_object s) (object_at s object).class (standings_of s) r)
thrown_with result p s wrapper class r object is class_is found =
    subst (λ x. IfOk result (λ found. option_map (λ frames. frames.items) found ≡ x)) (λ i. in_wrapper p (is i) (class_is i) (standings_of s) r) found

-- ---- the attempt

module _ (p : Program) (s : State) (r : ℕ) where
  abbrev or_by : Option (List Standing) → Option (List Standing) → Option (List Standing)
  or_by second first = elim first as (λ _. Option (List Standing)) [ Some frames ↦ Some frames | None ↦ second ]

  pub noted_first : (first : State) (o : plain.Outcome) (frames : List Standing) → ComesTo (row p s) s first o → Some frames ≡ by_constructor p (outcome_over first o) r → noted p s r ≡ Some frames
  noted_first first o frames is by =
      ap (or_by (by_throwing p (outcome_carried_out p (row p s)) r)) (sym (by ∙ ap (λ x. by_constructor p x r) is.same))

  noted_none : (first : State) (o : plain.Outcome) → ComesTo (row p s) s first o → None ≡ by_constructor p (outcome_over first o) r → noted p s r ≡ by_throwing p (outcome_carried_out p (row p s)) r
  noted_none first o is none = ap (or_by (by_throwing p (outcome_carried_out p (row p s)) r)) (sym (none ∙ ap (λ x. by_constructor p x r) is.same))

  module _ (first second : State) (o carried : plain.Outcome) (row_is : ComesTo (row p s) s first o) (carried_is : ComesTo (outcome_carried_out p (outcome_over first o)) first second carried) (none : None ≡ by_constructor p (outcome_over first o) r) where
    same : outcome_over second carried ≡ outcome_carried_out p (row p s)
    same = carried_is.same ∙ ap (outcome_carried_out p) row_is.same

    noted_by : (found : Option (List Standing)) → found ≡ by_throwing p (outcome_over second carried) r → noted p s r ≡ found
    noted_by found by = noted_none first o row_is none ∙ sym (by ∙ ap (λ x. by_throwing p x r) same)

    pub notes_as : (new : State) (found : Noting) → IsNotingBy p r (outcome_over second carried) new found → IsNoting p r s new found
    notes_as new (noting.Frames frames) h = noted_by (Some frames.items) (sym h)
    notes_as new noting.Goes h = (noted_by None (sym h.0), sym (ap (next p) same) ∙ h.1)
    notes_as new noting.Ends h = (noted_by None (sym h.0), ap ends (sym (ap (next p) same)) ∙ h.1)

pub leads_as : (p : Program) (r : ℕ) (outcome : Outcome) (old new : State) (n : led.Next) (found : Noting) → None ≡ by_throwing p outcome r → Led (next p outcome) old new n → found ≡ lead n → IsNotingBy p r outcome new found
leads_as p r outcome old new leads.Goes found none goes is = subst (IsNotingBy p r outcome new) (sym is) (sym none, goes)
leads_as p r outcome old new (leads.Ends end) found none over is = subst (IsNotingBy p r outcome new) (sym is) (sym none, ap ends over.0)

-- ---- what leaves

pub raise_leaves : {E : Type 0} (result : Result (Option ℕ) E) (p : Program) (s made new : State) (class object : ℕ) (message : Option (List ℕ)) → object ≡ next_object s + length (exception_objects p s class message) - 1
    → made ≡ with_objects s (exception_objects p s class message) → IfOk result (HasLeft (leaves p made object made.callers) new) → IfOk result (HasLeft (left_by p (Raise class message s)) new)
raise_leaves result p s made new class object message is added left =
    subst (λ o. IfOk result (HasLeft (leaves p (with_objects s (exception_objects p s class message)) o s.callers) new)) is
    (subst (λ (m : State). IfOk result (HasLeft (leaves p m object m.callers) new)) added left)

pub leaves_here : {E : Type 0} (result : Result (Option ℕ) E) (p : Program) (s first second new : State) (o carried : plain.Outcome) → ComesTo (row p s) s first o → ComesTo (outcome_carried_out p (outcome_over first o)) first second carried
    → IfOk result (HasLeft (left_by p (outcome_over second carried)) new) → IfOk result (HasLeft (left_at p s) new)
leaves_here result p s first second new o carried row_is carried_is left =
    subst (λ x. IfOk result (HasLeft (left_by p x) new)) (carried_is.same ∙ ap (outcome_carried_out p) row_is.same) left
