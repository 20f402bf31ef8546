-- Attempts one after the other are the steps of a run.
use Rattle.std.proofs.Common.{◌≡◌, ℕ, zero, suc, ◌+◌, Bool, true, false, List, [], ◌++◌, map, refl, sym, ap, ◌∙◌, subst, arith, add-one, zero-add}
use Rattle.std.proofs.lemmas.Bool.Decides.{nat_tests}
use Rattle.std.specs.Prelude.{if◌then◌else◌, ◌==◌, ◌≢◌}
use Rattle.vx_java.specs.Machine as machine
use Rattle.vx_java.specs.Machine.{State, Outcome, Ends, Goes}
use Rattle.vx_java.specs.Row.{row}
use Rattle.vx_java.specs.Step.{Live, Over, Progress, Run, frames_of, fresh_progress, next, outcome_carried_out, result, run_after, step, steps, text_of}
use Rattle.vx_link.specs.declared.program.Program.{Program}
use Rattle.vx_plain_here.specs.Rows.{places_of}
use Rattle.vx_plain_throw.specs.Passing.{Led}
use Rattle.vx_plain_throw.specs.declared.next.Next.{Next}
use Rattle.vx_plain_throw.specs.declared.next.Next.TheVariants as plain
use Rattle.vx_replay.specs.Attempts.{IsAttempt, Leads, bytes_written}
use Rattle.vx_replay.specs.Replays.{AreLongest, HasRun, IsReplay, bytes_in, places_in, traced}
use Rattle.vx_replay.specs.declared.attempting.Attempted.{Attempted}
use Rattle.vx_replay.specs.declared.pieces.PlainPiece.{PlainPiece}
use Rattle.vx_replay.specs.declared.running.Replay.{Replay}
use Rattle.vx_value.specs.declared.end.End.{End}
use Rattle.vx_value.specs.declared.end.End.TheVariants.{Unfinished}
use Rattle.vx_value.specs.declared.end.Stream.{Stream}

-- a run so far, one attempt later
abbrev pub later : Progress → State → List (Stream × ℕ) → Progress
later g s text = record { state = s; output = g.output ++ text; attempts = suc g.attempts }

after_is : (g : Progress) (said told : List (Stream × ℕ)) (led leads : machine.Next) → told ≡ said → led ≡ leads → run_after g said led ≡ run_after g told leads
after_is g said told led leads e f = rw (e, f) refl

-- an attempt that goes on is a step that does
pub gone : (p : Program) (g : Progress) (new : State) (a : Attempted) → IsAttempt p g.state new a → a.next ≡ plain.Goes → step p g ≡ Live (later g new (bytes_written a.written))
gone p g new a is goes =
    let o = outcome_carried_out p (row p g.state) in
    let led : next p o ≡ Goes new = subst (λ n. Led (next p o) g.state new n) goes is.led in
    after_is g (text_of o) (bytes_written a.written) (next p o) (Goes new) is.text led

-- an attempt that ends is a step that does, and the frames stand as before it
pub record HasEnded (p : Program) (g : Progress) (new : State) (end : End) (text : List (Stream × ℕ)) : Type 0 where
  pub over : step p g ≡ Over end (later g g.state text)
  pub stands : places_of new ≡ places_of g.state

pub ended : (p : Program) (g : Progress) (new : State) (a : Attempted) (end : End) → IsAttempt p g.state new a → a.next ≡ plain.Ends end → HasEnded p g new end (bytes_written a.written)
ended p g new a end is ends =
    let o = outcome_carried_out p (row p g.state) in
    let led : (next p o ≡ Ends end) × (places_of new ≡ places_of g.state) = subst (λ n. Led (next p o) g.state new n) ends is.led in
    record { over = after_is g (text_of o) (bytes_written a.written) (next p o) (Ends end) is.text led.0; stands = led.1 }

-- ---- a run of attempts

-- a run that is over stays
over_stays : (p : Program) (n : ℕ) (end : End) (g : Progress) → steps p n (Over end g) ≡ Over end g
over_stays p zero end g = refl
over_stays p (suc n) end g = refl

some_made : (m : ℕ) → (suc m == 0) ≡ false
some_made m = grind (arith, nat_tests)

-- where the frames stand of a run that is over after some attempt
traced_over : (end : End) (s : State) (output : List (Stream × ℕ)) (m : ℕ) → places_of s ≡ traced (Over end (record { state = s; output = output; attempts = suc m }))
traced_over end s output m = by (suc m == 0) (some_made m)
  where
    by : (none : Bool) → none ≡ false → places_of s ≡ map (λ f. (f.method, f.position)) ((if none then [] else frames_of s))
    by true e = cc
    by false e = refl

-- where a run stands after so many attempts
abbrev pub standing : State → List PlainPiece → (attempts : ℕ) → Progress
standing s pieces attempts = record { state = s; output = bytes_in pieces; attempts = attempts }

-- of n attempts so many are made, and what is left leads to the same
pub record IsUnderway (p : Program) (n : ℕ) (first s : State) (pieces : List PlainPiece) (made : ℕ) : Type 0 where
  pub longest : AreLongest pieces
  pub goes : (left : ℕ) → n ≡ made + left → steps p n (Live (fresh_progress first)) ≡ steps p left (Live (standing s pieces made))

pub begins : (p : Program) (n : ℕ) (s : State) (pieces : List PlainPiece) → pieces ≡ [] → IsUnderway p n s s pieces 0
begins p n s pieces none = rw none (record {
  longest = record { same = refl };
  goes = λ left e. ap (λ m. steps p m (Live (fresh_progress s))) (e ∙ zero-add left);
})

module _ (p : Program) (n : ℕ) (first s new : State) (pieces more : List PlainPiece) (made : ℕ) (a : Attempted) (under : IsUnderway p n first s pieces made) (is : IsAttempt p s new a) (longest : AreLongest more) (bytes : bytes_in more ≡ bytes_in pieces ++ bytes_written a.written) where
  pub one_more : a.next ≡ plain.Goes → IsUnderway p n first new more (made + 1)
  one_more goes = record {
    longest = longest;
    goes = λ left e.
        under.goes (suc left) (omega (arith, e))
        ∙ ap (steps p left) (gone p (standing s pieces made) new a is goes)
        ∙ (λ i. steps p left (Live (record { state = new; output = sym bytes i; attempts = sym (add-one made) i })));
  }

  pub is_over : (left : ℕ) → n ≡ made + suc left → (end : End) → a.next ≡ plain.Ends end → HasRun (steps p n (Live (fresh_progress first))) more end (made + 1) (places_of new)
  is_over left e end ends =
      let h = ended p (standing s pieces made) new a end is ends in
      let whole : steps p n (Live (fresh_progress first)) ≡ Over end (record { state = s; output = bytes_in more; attempts = suc made }) =
      under.goes (suc left) e ∙ ap (steps p left) h.over ∙ over_stays p left end (later (standing s pieces made) s (bytes_written a.written))
      ∙ (λ i. Over end (record { state = s; output = sym bytes i; attempts = suc made }))
      in
      subst (λ r. HasRun r more end (made + 1) (places_of new)) (sym whole) (record { output = refl; longest = longest; end = refl; attempts = add-one made; frames = h.stands ∙ traced_over end s (bytes_in more) made })

pub unfinished : (p : Program) (n : ℕ) (first s : State) (pieces : List PlainPiece) (made : ℕ) → n ≡ made → IsUnderway p n first s pieces made → HasRun (steps p n (Live (fresh_progress first))) pieces Unfinished n (places_of s)
unfinished p n first s pieces made all under =
    subst (λ r. HasRun r pieces Unfinished n (places_of s)) (sym (under.goes 0 (omega (arith, all)))) (record { output = refl; longest = under.longest; end = refl; attempts = all; frames = refl })

-- a run that ended at its start
pub ended_at_start : (p : Program) (n : ℕ) (r : Run) (s : State) (end : End) (replay : Replay) → r ≡ Over end (fresh_progress s) → replay.pieces.items ≡ [] → replay.end ≡ end → replay.attempts ≡ 0 → replay.frames.items ≡ []
    → IsReplay (steps p n r) replay
ended_at_start p n r s end replay is pieces ended attempts frames =
    subst (λ x. IsReplay x replay) (sym (ap (steps p n) is ∙ over_stays p n end (fresh_progress s))) (record {
      output = ap bytes_in pieces;
      longest = rw pieces (record { same = refl });
      end = ended;
      attempts = attempts;
      frames = ap places_in frames;
    })

-- an attempt that does not end goes on
pub goes_on : (n : Next) → ((end : End) → n ≢ plain.Ends end) → n ≡ plain.Goes
goes_on plain.Goes other = refl
goes_on (plain.Ends end) other = absurd (other end refl)
