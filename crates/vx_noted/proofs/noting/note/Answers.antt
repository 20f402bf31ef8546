use Rattle.std.proofs.lemmas.Result.{IfOk-weaker}
use Rattle.vx_noted.proofs.Attempted.{noted_first, notes_as}
use Rattle.vx_noted.specs.Runs.{IsNoting, IsNotingBy}
use Rattle.vx_plain.specs.Views.{state_of}
use Rattle.vx_plain_here.specs.Rows.{outcome_over}
use Rattle.vx_noted.proofs.noting.note.Goals as goal

pub returns-in-Some : goal.returns-in-Some
returns-in-Some c =
    noted_first c.args.program.now (state_of c.args.state.now) c.args.object (state_of c.row.new.state) c.in_ok-outcome.outcome c.in-Some.frames.items c.in_ok-outcome.ensures (rw c.in-Some.is at c.in_ok-filled.ensures)

pub returns : goal.returns
returns c =
    let p = c.args.program.now in
    let r = c.args.object in
    let second = state_of c.carried_out.new.state in
    let new = state_of c.note_carried.new.state in
    IfOk-weaker c.note_carried.result (IsNotingBy p r (outcome_over second c.in_ok-carried.carried) new) (IsNoting p r (state_of c.args.state.now) new)
    (notes_as p (state_of c.args.state.now) r (state_of c.row.new.state) second c.in_ok-outcome.outcome c.in_ok-carried.carried c.in_ok-outcome.ensures c.in_ok-carried.ensures (rw c.in_default.is at c.in_ok-filled.ensures) new)
    c.note_carried.ensures
