use Rattle.std.proofs.Common.{◌∷◌}
use Rattle.vx_join.proofs.OneText.{is_joined_text, only_joined}
use Rattle.vx_join.proofs.joining.join_text.Goals as goal

pub returns-clause-text : goal.returns-clause-text
returns-clause-text g c =
    let h = rw c.in-Some.is at c.in_ok-report.ensures.join in
    (h.0, is_joined_text (c.args.first.now ∷ c.args.others.now) c.in-Some.report c.in_ok-write_report.field-0.items h.1 h.2 c.in_ok-write_report.ensures)

pub returns-clause-only : goal.returns-clause-only
returns-clause-only g c =
    let h = rw c.in-Some.is at c.in_ok-report.ensures.join in
    only_joined c.args.first.now c.args.others.now c.in_ok-write_report.field-0.items (is_joined_text (c.args.first.now ∷ c.args.others.now) c.in-Some.report c.in_ok-write_report.field-0.items h.1 h.2 c.in_ok-write_report.ensures)
