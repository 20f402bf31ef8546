use Rattle.std.proofs.Common.{arith, refl, ◌-◌}
use Rattle.std.proofs.lemmas.Result.{IfOk-weaker}
use Rattle.std.specs.Prelude.{option_map, ◌≡◌}
use Rattle.vx_java.specs.Step.{start, steps}
use Rattle.vx_noted.proofs.Underway.{left_at_start, left_behind, left_by_none}
use Rattle.vx_noted.specs.Leaving.{left_in}
use Rattle.vx_noted.specs.Runs.{LeavesAfter, left_of}
use Rattle.vx_plain.specs.Views.{state_of}
use Rattle.vx_noted.proofs.running.what_leaves.Goals as goal

pub returns-then-attempts-eq0 : goal.returns-then-attempts-eq0
returns-then-attempts-eq0 c =
    let p = c.args.program.now in
    left_by_none p (steps p c.args.limit (start p c.args.config.now)) c.args.attempts c.requires.attempts (omega arith)

pub returns-in-None : goal.returns-in-None
returns-in-None c =
    let p = c.args.program.now in
    left_at_start p c.args.limit (start p c.args.config.now) (rw c.in-None.is at c.in_ok-begun.ensures)

pub returns-in-Some : goal.returns-in-Some
returns-in-Some c =
    let p = c.args.program.now in
    let first = state_of c.in-Some.begun.state in
    let begun = rw c.in-Some.is at c.in_ok-begun.ensures in
    let before = c.args.attempts - 1 in
    IfOk-weaker c.leaves_after.result (LeavesAfter p first before) (λ left. option_map left_of left ≡ left_in p (steps p c.args.limit (start p c.args.config.now)))
    (λ left h.
    left_behind p c.args.limit (steps p c.args.limit (start p c.args.config.now)) (start p c.args.config.now) first before c.args.attempts (option_map left_of left) refl c.requires.over c.requires.attempts (omega arith) begun.0 h)
    c.leaves_after.ensures
