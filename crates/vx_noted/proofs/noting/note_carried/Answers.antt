use Rattle.std.proofs.Common.{sym}
use Rattle.vx_noted.proofs.Attempted.{leads_as}
use Rattle.vx_plain.specs.Views.{state_of}
use Rattle.vx_plain_here.specs.Rows.{outcome_over}
use Rattle.vx_noted.proofs.noting.note_carried.Goals as goal

pub returns-in-Some : goal.returns-in-Some
returns-in-Some c = sym (rw c.in-Some.is at c.in_ok-thrown.ensures)

pub returns : goal.returns
returns c =
    leads_as c.args.program.now c.args.object (outcome_over (state_of c.args.state.now) c.args.carried) (state_of c.args.state.now) (state_of c.led.new.state) c.in_ok-attempted.attempted.next c.lead.result
    (rw c.in_default.is at c.in_ok-thrown.ensures) c.in_ok-attempted.ensures.led c.lead.ensures
