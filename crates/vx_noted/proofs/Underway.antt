-- Runs that are made again, attempt by attempt.
use Rattle.std.proofs.Common.{◌≡◌, ℕ, zero, suc, ◌+◌, Bool, true, false, List, ◌++◌, refl, sym, ap, ◌∙◌, subst, arith, zero-add, []}
use Rattle.std.proofs.lemmas.Bool.Decides.{nat_tests}
use Rattle.std.specs.Prelude.{None, Option, Some, if◌then◌else◌, ◌==◌, ◌≢◌, option_map}
use Rattle.vx_java.specs.Machine as machine
use Rattle.vx_java.specs.Machine.{Ends, Goes, State}
use Rattle.vx_java.specs.Row.{row}
use Rattle.vx_java.specs.Step.{Live, Over, Progress, Run, fresh_progress, next, outcome_carried_out, result, run_after, step, steps, text_of}
use Rattle.vx_link.specs.declared.program.Program.{Program}
use Rattle.vx_noted.specs.Leaving.{left_at, left_in}
use Rattle.vx_noted.specs.Noted.{first_noted, noted}
use Rattle.vx_noted.specs.Runs.{IsAfter, IsOverAtStart, ends, is_over}
use Rattle.vx_noted.specs.declared.frames.Standing.{Standing}
use Rattle.vx_plain_start.specs.Beginning.{Began}
use Rattle.vx_plain_throw.specs.Passing.{Led}
use Rattle.vx_plain_throw.specs.declared.next.Next.{Next}
use Rattle.vx_plain_throw.specs.declared.next.Next.TheVariants as leads
use Rattle.vx_replay.specs.Attempts.{IsAttempt}
use Rattle.vx_replay.specs.declared.attempting.Attempted.{Attempted}
use Rattle.vx_value.specs.declared.end.End.{End}
use Rattle.vx_value.specs.declared.end.Stream.{Stream}

over_stays : (p : Program) (n : ℕ) (end : End) (g : Progress) → steps p n (Over end g) ≡ Over end g
over_stays p zero end g = refl
over_stays p (suc n) end g = refl

-- ---- so many attempts

-- of n attempts so many are made, and what is left leads to the same
pub record IsComing (p : Program) (n : ℕ) (first s : State) (made : ℕ) : Type 0 where
  pub progress : Progress
  pub at : progress.state ≡ s
  pub goes : (left : ℕ) → n ≡ made + left → steps p n (Live (fresh_progress first)) ≡ steps p left (Live progress)

pub comes : (p : Program) (n : ℕ) (s : State) → IsComing p n s s 0
comes p n s = record { progress = fresh_progress s; at = refl; goes = λ left e. ap (λ m. steps p m (Live (fresh_progress s))) (e ∙ zero-add left) }

module _ (p : Program) (n : ℕ) (first s new : State) (made : ℕ) (a : Attempted) (coming : IsComing p n first s made) (is : IsAttempt p s new a) where
  abbrev g : Progress
  g = coming.progress

  one_step : step p g ≡ run_after g (text_of (outcome_carried_out p (row p g.state))) (next p (outcome_carried_out p (row p s)))
  one_step = ap (λ x. run_after g (text_of (outcome_carried_out p (row p g.state))) (next p (outcome_carried_out p (row p x)))) coming.at

  pub one_more : a.next ≡ leads.Goes → IsComing p n first new (made + 1)
  one_more goes =
      let led : next p (outcome_carried_out p (row p s)) ≡ Goes new = subst (λ x. Led (next p (outcome_carried_out p (row p s))) s new x) goes is.led in
      let said = text_of (outcome_carried_out p (row p g.state)) in
      record {
        progress = record { state = new; output = g.output ++ said; attempts = suc g.attempts };
        at = refl;
        goes = λ left e. coming.goes (suc left) (omega (arith, e)) ∙ ap (steps p left) (one_step ∙ ap (run_after g said) led);
      }

  pub is_over_before : (left : ℕ) → n ≡ made + suc left → (end : End) → a.next ≡ leads.Ends end → (other : State) → IsAfter p first n other
  is_over_before left e end over other live is_live =
      let led : next p (outcome_carried_out p (row p s)) ≡ Ends end = (subst (λ x. Led (next p (outcome_carried_out p (row p s))) s new x) over is.led).0 in
      let said = text_of (outcome_carried_out p (row p g.state)) in
      let later : Progress = record { state = g.state; output = g.output ++ said; attempts = suc g.attempts } in
      let whole : steps p n (Live (fresh_progress first)) ≡ Over end later =
      coming.goes (suc left) e ∙ ap (steps p left) (one_step ∙ ap (run_after g said) led) ∙ over_stays p left end later
      in
      absurd (never (sym whole ∙ is_live))
    where
      never : {end : End} {g h : Progress} → Over end g ≡ Live h → ⊥
      never e = cc

-- an attempt that does not end goes on
pub goes_on : (n : Next) → ((end : End) → n ≢ leads.Ends end) → n ≡ leads.Goes
goes_on leads.Goes other = refl
goes_on (leads.Ends end) other = absurd (other end refl)

same_progress : {g h : Progress} → Live g ≡ Live h → g ≡ h
same_progress e = cc

pub come : (p : Program) (n : ℕ) (first s : State) (made : ℕ) → n ≡ made → IsComing p n first s made → IsAfter p first n s
come p n first s made all coming live is = ap (λ (x : Progress). x.state) (same_progress (sym is ∙ coming.goes 0 (omega (arith, all)))) ∙ coming.at

-- ---- the last attempt of a run that is over

record IsLast (p : Program) (first : Progress) (end : End) (last : Progress) : Type 0 where
  before : ℕ
  progress : Progress
  counted : last.attempts ≡ first.attempts + suc before
  comes : steps p before (Live first) ≡ Live progress
  at : progress.state ≡ last.state

same_over : {e f : End} {g h : Progress} → Over e g ≡ Over f h → g ≡ h
same_over e = cc

last_attempt : (p : Program) (n : ℕ) (first : Progress) (end : End) (last : Progress) → steps p n (Live first) ≡ Over end last → IsLast p first end last
last_attempt p zero first end last over = absurd (never over)
  where
    never : {e : End} {g h : Progress} → Live g ≡ Over e h → ⊥
    never e = cc
last_attempt p (suc n) first end last over = by (next p (outcome_carried_out p (row p first.state))) refl (λ later is. last_attempt p n later end last is)
  where
    by : (found : machine.Next) → next p (outcome_carried_out p (row p first.state)) ≡ found → ((later : Progress) → steps p n (Live later) ≡ Over end last → IsLast p later end last) → IsLast p first end last
    by (Goes s) is rest_of =
        let said = text_of (outcome_carried_out p (row p first.state)) in
        let later : Progress = record { state = s; output = first.output ++ said; attempts = suc first.attempts } in
        let stepped : step p first ≡ Live later = ap (run_after first said) is in
        let rest = rest_of later (sym (ap (steps p n) stepped) ∙ over) in
        let counted : last.attempts ≡ suc first.attempts + suc rest.before = rest.counted in
        record {
          before = suc rest.before;
          progress = rest.progress;
          counted = omega (arith, counted);
          comes = ap (steps p rest.before) stepped ∙ rest.comes;
          at = rest.at;
        }
    by (Ends found) is rest_of =
        let said = text_of (outcome_carried_out p (row p first.state)) in
        let later : Progress = record { state = first.state; output = first.output ++ said; attempts = suc first.attempts } in
        let stepped : step p first ≡ Over found later = ap (run_after first said) is in
        let same : later ≡ last = same_over (sym (over_stays p n found later) ∙ sym (ap (steps p n) stepped) ∙ over) in
        let counted : suc first.attempts ≡ last.attempts = ap (λ (g : Progress). g.attempts) same in
        record {
          before = 0;
          progress = first;
          counted = omega (arith, counted);
          comes = refl;
          at = ap (λ (g : Progress). g.state) same;
        }

some_made : (m : ℕ) → (suc m == 0) ≡ false
some_made m = grind (arith, nat_tests)

-- what leaves a run, by the state in which its last attempt was made
abbrev left_when : Program → State → Bool → Option (State × ℕ)
left_when p s none = if none then None else left_at p s

pub left_behind : (p : Program) (n : ℕ) (r start : Run) (first : State) (before attempts : ℕ) (left : Option (State × ℕ)) → r ≡ steps p n start → is_over r ≡ true → attempts ≡ (result r).attempts → before + 1 ≡ attempts → start ≡ Live (fresh_progress first)
    → ((g : Progress) → steps p before (Live (fresh_progress first)) ≡ Live g → left ≡ left_at p g.state) → left ≡ left_in p r
left_behind p n (Live g) start first before attempts left is over counted one live known = cc
left_behind p n (Over end g) start first before attempts left is over counted one live known =
    let last = last_attempt p n (fresh_progress first) end g (sym (is ∙ ap (steps p n) live)) in
    let same : last.before ≡ before = omega (arith, last.counted, counted, one) in
    let made : g.attempts ≡ suc before = omega (arith, counted, one) in
    known last.progress (ap (λ k. steps p k (Live (fresh_progress first))) (sym same) ∙ last.comes)
    ∙ ap (left_at p) last.at
    ∙ sym (ap (λ m. left_when p g.state (m == 0)) made ∙ ap (left_when p g.state) (some_made before))

none_made : (p : Program) (g : Progress) (end : End) → g.attempts ≡ 0 → None ≡ left_in p (Over end g)
none_made p g end none = sym (ap (λ m. left_when p g.state (m == 0)) none)

pub left_by_none : (p : Program) (r : Run) (attempts : ℕ) → attempts ≡ (result r).attempts → attempts ≡ 0 → None ≡ left_in p r
left_by_none p (Live g) attempts counted none = refl
left_by_none p (Over end g) attempts counted none = none_made p g end (sym counted ∙ none)

pub left_at_start : (p : Program) (n : ℕ) (start : Run) → IsOverAtStart start → None ≡ left_in p (steps p n start)
left_at_start p n start over =
    none_made p (fresh_progress over.state) over.end refl ∙ ap (left_in p) (sym (ap (steps p n) over.is ∙ over_stays p n over.end (fresh_progress over.state)))

pub leaves_as : (p : Program) (first : State) (before : ℕ) (s : State) (found : Option (State × ℕ)) → IsAfter p first before s → left_at p s ≡ found → (g : Progress) → steps p before (Live (fresh_progress first)) ≡ Live g → found ≡ left_at p g.state
leaves_as p first before s found after is g live = sym is ∙ ap (left_at p) (sym (after g live))

-- ---- the start

pub over_at_start : (said : Run) (s new : State) (found : Option End) (end : End) → found ≡ Some end → Began said s new found → IsOverAtStart said
over_at_start said s new found end is began = let over : said ≡ Over end (fresh_progress s) = subst (Began said s new) is began in record { end = end; state = s; is = over }

-- ---- what is noted

-- of n attempts so many are made that note nothing, and what is left notes the same
pub record IsSearching (p : Program) (n : ℕ) (first s : State) (r made : ℕ) : Type 0 where
  pub goes : (left : ℕ) → n ≡ made + left → first_noted p n first r ≡ first_noted p left s r

pub searches : (p : Program) (n : ℕ) (s : State) (r : ℕ) → IsSearching p n s s r 0
searches p n s r = record { goes = λ left e. ap (λ m. first_noted p m s r) (e ∙ zero-add left) }

abbrev where_next : Program → ℕ → ℕ → machine.Next → List Standing
where_next p n r found = elim found as (λ _. List Standing) [ Goes later ↦ first_noted p n later r | Ends end ↦ [] ]

abbrev where_noted : List Standing → Option (List Standing) → List Standing
where_noted others found = elim found as (λ _. List Standing) [ Some frames ↦ frames | None ↦ others ]

none_behind : (p : Program) (n r : ℕ) (found : machine.Next) → ends found ≡ true → where_next p n r found ≡ []
none_behind p n r (Goes s) over = cc
none_behind p n r (Ends end) over = refl

module _ (p : Program) (n : ℕ) (first s new : State) (r made : ℕ) (searching : IsSearching p n first s r made) where
  pub found : (left : ℕ) → n ≡ made + suc left → (frames : List Standing) → noted p s r ≡ Some frames → frames ≡ first_noted p n first r
  found left e frames is = sym (searching.goes (suc left) e ∙ ap (where_noted (where_next p left r (next p (outcome_carried_out p (row p s))))) is)

  pub ended : (left : ℕ) → n ≡ made + suc left → noted p s r ≡ None → ends (next p (outcome_carried_out p (row p s))) ≡ true → [] ≡ first_noted p n first r
  ended left e none over =
      sym (searching.goes (suc left) e ∙ ap (where_noted (where_next p left r (next p (outcome_carried_out p (row p s))))) none ∙ none_behind p left r (next p (outcome_carried_out p (row p s))) over)

  pub searched : noted p s r ≡ None → next p (outcome_carried_out p (row p s)) ≡ Goes new → IsSearching p n first new r (made + 1)
  searched none goes = record {
    goes = λ left e.
        searching.goes (suc left) (omega (arith, e))
        ∙ ap (where_noted (where_next p left r (next p (outcome_carried_out p (row p s))))) none
        ∙ ap (where_next p left r) goes;
  }

pub not_found : (p : Program) (n : ℕ) (first s : State) (r made : ℕ) → n ≡ made → IsSearching p n first s r made → [] ≡ first_noted p n first r
not_found p n first s r made all searching = sym (searching.goes 0 (omega (arith, all)))
