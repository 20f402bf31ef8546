-- One attempt of the plain machine: what step makes of a run.
use Rattle.std.specs.Prelude.{List, None, Option, Some, [], map, ℕ, ◌≡◌}
use Rattle.vx_java.specs.Machine.{Outcome, State}
use Rattle.vx_java.specs.Row.{row}
use Rattle.vx_java.specs.Step.{next, outcome_carried_out, text_of}
use Rattle.vx_link.specs.declared.program.Program.{Program}
use Rattle.vx_plain_throw.specs.Passing.{Led}
use Rattle.vx_replay.specs.declared.attempting.Attempted.{Attempted}
use Rattle.vx_replay.specs.declared.attempting.Written.{Written}
use Rattle.vx_value.specs.declared.end.Stream.{Stream}

-- the bytes of a text that was written, each with its stream
abbrev pub bytes_written : Option Written → List (Stream × ℕ)
bytes_written None = []
bytes_written (Some w) = map (λ b. (w.stream, b)) w.bytes.items

-- what an outcome writes, and where it leads: over the new state, or to the end of the run, whose frames stand as they stood in the old state
pub record Leads (p : Program) (outcome : Outcome) (old new : State) (attempt : Attempted) : Type 0 where
  pub text : bytes_written attempt.written ≡ text_of outcome
  pub led : Led (next p outcome) old new attempt.next

-- the row of a state, carried out, leads on
abbrev pub IsAttempt : Program → (old new : State) → Attempted → Type 0
IsAttempt p old new attempt = Leads p (outcome_carried_out p (row p old)) old new attempt
