use Rattle.std.proofs.Common.{◌≡◌, ◌∙◌, ◌-◌, arith, sym, true}
use Rattle.vx_ancestry.proofs.LeadingUp.{is_above, is_further, on_further}
use Rattle.vx_ancestry.specs.Ancestors.{is_ancestor_within}
use Rattle.vx_ancestry.proofs.ways.+leads_up.Goals as goal

pub returns-then-next-above : goal.returns-then-next-above
returns-then-next-above t c =
    is_above c.args.parents.now c.args.steps c.args.above c.rank_of-next.result c.args.place (omega (arith, c.if-steps-eq0.false))
    (sym c.is_parent.ensures ∙ c.if-not-is_parent.false) c.if-next-above.true

pub returns : goal.returns
returns t c =
    let parents = c.args.parents.now in
    on_further c.leads_up.result (is_ancestor_within parents (c.args.steps - 1) c.args.above c.rank_of-next.result ≡ true) (is_ancestor_within parents c.args.steps c.args.above c.args.place ≡ true)
    (is_further parents c.args.steps c.args.above c.rank_of-next.result c.args.place (omega (arith, c.if-steps-eq0.false)) (sym c.is_parent.ensures ∙ c.if-not-is_parent.false))
    c.leads_up.ensures
