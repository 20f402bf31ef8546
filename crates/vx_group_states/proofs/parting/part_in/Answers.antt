use Rattle.std.proofs.Common.{sym, ◌∙◌}
use Rattle.vx_group_states.proofs.Gathering.{IsPartOf-whole}
use Rattle.vx_group_states.proofs.parting.part_in.Goals as goal

pub returns-then-eq-clause-inside : goal.returns-then-eq-clause-inside
returns-then-eq-clause-inside g c = IsPartOf-whole _ c.args.group c.args.condition c.requires.group (sym c.path.ensures ∙ g.met.S.Space.exact _ _ (sym c.eq.ensures ∙ c.if-eq.true))

pub returns-then-eq-clause-left : goal.returns-then-eq-clause-left
returns-then-eq-clause-left g c = sym c.path.ensures ∙ g.met.S.Space.exact _ _ (sym c.eq.ensures ∙ c.if-eq.true)
