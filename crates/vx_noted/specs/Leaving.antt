-- What leaves a run that ends by an exception: the object that no frame handles, and the state in which it has passed all of them (JVMS 2.10, 5.5).
use Rattle.std.specs.Prelude.{List, None, Option, Some, [], if◌then◌else◌, length, ℕ, ◌+◌, ◌-◌, ◌==◌, ◌∷◌}
use Rattle.vx_java.specs.Machine.{Frame, Outcome, Raise, State, Throw, next_object, with_objects}
use Rattle.vx_java.specs.Row.{row}
use Rattle.vx_java.specs.Step.{Live, Over, Run, outcome_carried_out}
use Rattle.vx_java.specs.Throwing.{exception_objects, handler_of, passed_object, passed_state}
use Rattle.vx_link.specs.declared.program.Program.{Program}

-- from the frame on top down, over the frames below it: the state behind the last one, and what is thrown then; none where a frame handles it
abbrev pub leaves : Program → State → ℕ → List Frame → Option (State × ℕ)
leaves p s r [] =
    elim (handler_of p s s.top.kind r) [
      | Some handler ↦ None
      | None ↦ Some (passed_state p s s.top.kind r, passed_object p s s.top.kind r)
    ]
leaves p s r (f ∷ below) =
    elim (handler_of p s s.top.kind r) [
      | Some handler ↦ None
      | None ↦ leaves p (record (passed_state p s s.top.kind r) { top = f; callers = below }) (passed_object p s s.top.kind r) below
    ]

-- of an outcome that was carried out: an object that is thrown, or the exception that is made of what is raised
abbrev pub left_by : Program → Outcome → Option (State × ℕ)
left_by p (Throw r s) = leaves p s r s.callers
left_by p (Raise class message s) =
    let objects = exception_objects p s class message in
    leaves p (with_objects s objects) (next_object s + length objects - 1) s.callers
left_by p _ = None

abbrev pub left_at : Program → State → Option (State × ℕ)
left_at p s = left_by p (outcome_carried_out p (row p s))

-- of a run that is over: what leaves its last attempt; none where it ended at its start
abbrev pub left_in : Program → Run → Option (State × ℕ)
left_in p (Live g) = None
left_in p (Over end g) = if g.attempts == 0 then None else left_at p g.state
