use Rattle.std.proofs.Common.{◌∙◌, ap, sym}
use Rattle.vx_ancestry.proofs.Ranked.{not_own}
use Rattle.vx_ancestry.specs.Ancestors.{are_below, parents_of, rank_of}
use Rattle.vx_ancestry.proofs.ancestry.Ancestry.is_own_ancestor.Goals as goal

pub returns-then-is_below_parents : goal.returns-then-is_below_parents
returns-then-is_below_parents c =
    let self = c.args.self.now in
    let place = c.args.place in
    let below =
    ap (λ ranks. are_below ranks (rank_of ranks place) (parents_of self.parents.items place)) (sym c.deref.ensures.value)
    ∙ ap (λ parents. are_below c.deref.result.now (rank_of c.deref.result.now place) (parents_of parents place)) (sym c.as_slice-parents.ensures.value)
    ∙ sym c.is_below_parents.ensures ∙ c.if-is_below_parents.true
    in
    sym (not_own self.parents.items self.ranks.items self.ranked place below)
