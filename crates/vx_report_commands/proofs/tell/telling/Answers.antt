use Rattle.std.proofs.Common.{◌≡◌, false, inr, refl, true}
use Rattle.vx_report_commands.proofs.Tellings.{is_not_there, is_there}
use Rattle.vx_report_commands.proofs.tell.telling.Goals as goal

pub returns-in-Some : goal.returns-in-Some
returns-in-Some c = record {
  is_there = is_there c.args.asked c.args.report.now (λ e. let clash : true ≡ false = rw c.in-Some.is at (c.in_ok-said.ensures.none.1 e) in cc (clash));
  shows = rw c.in-Some.is at c.in_ok-said.ensures.text;
}

pub returns-in-None : goal.returns-in-None
returns-in-None c = inr (is_not_there c.args.asked c.args.report.now (c.in_ok-said.ensures.none.0 (rw c.in-None.is refl)))
