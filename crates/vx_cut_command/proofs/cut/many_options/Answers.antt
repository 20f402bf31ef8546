use Rattle.std.proofs.Common.{inr, ◌∙◌, arith}
use Rattle.vx_cut_command.proofs.Choosing.{is_many, not_many}
use Rattle.vx_cut_command.proofs.cut.many_options.Goals as goal

pub returns-in-Some-clause-chosen : goal.returns-in-Some-clause-chosen
returns-in-Some-clause-chosen g c =
    let h = rw c.in-Some.is at c.in_ok-chosen.ensures.choice in
    is_many c.args.model.now c.args.count c.in-Some.chosen.items (h.0 ∙ c.requires.options) h.1

pub returns-in-None-clause-chosen : goal.returns-in-None-clause-chosen
returns-in-None-clause-chosen g c =
    let h = rw c.in-None.is at c.in_ok-chosen.ensures.choice in
    inr (not_many c.args.model.now c.args.count (omega (arith, h, c.requires.options)))
