use Rattle.std.proofs.Common.{sym, ◌∙◌, ap}
use Rattle.std.specs.Prelude.{option_to_list}
use Rattle.vx_count.proofs.Halves.{AreNumbers-extends}
use Rattle.vx_check.proofs.Found.{told_none, told_one}
use Rattle.vx_check.proofs.finding.push_told.Goals as goal

pub returns-in_default-clause-told : goal.returns-in_default-clause-told
returns-in_default-clause-told g c = told_none (g.S.Space.sets c.args.space.now) c.args.scope c.args.ended.now c.args.line c.args.set c.args.finding.now.told.items (sym c.in_ok-found.ensures ∙ ap option_to_list c.in_default.is)

pub returns-clause-numbers : goal.returns-clause-numbers
returns-clause-numbers g c = AreNumbers-extends c.in_ok-rule.ensures.extends _ c.in_ok-number.ensures.numbers

pub returns-clause-told : goal.returns-clause-told
returns-clause-told g c =
    told_one (g.S.Space.sets c.args.space.now) c.args.scope c.args.ended.now c.args.line c.args.set c.args.finding.now.told.items _ c.in-Some.example c.in_ok-number.number c.in_ok-rule.rule c.in_ok-end.end
    (sym c.in_ok-found.ensures ∙ ap option_to_list c.in-Some.is) c.in_ok-number.ensures.number c.in_ok-rule.ensures.rule (c.in_ok-end.ensures ∙ c.bytes.ensures) c.in_ok-push.ensures.items
