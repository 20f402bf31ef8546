use Rattle.std.proofs.Common.{◌∙◌, ap, false, length}
use Rattle.vx_list.specs.Places.{item_or}
use Rattle.vx_ancestry.proofs.Rounds.{below-is}
use Rattle.vx_ancestry.proofs.below.is_own_by_rounds.Goals as goal

-- src/below.rt:75:1
pub returns : goal.returns
returns c = c.holds_at.ensures ∙ ap (λ xs. item_or xs c.args.place false) (c.deref.ensures.value ∙ c.in_ok-below.ensures) ∙ below-is c.args.parents.now c.args.place (length c.args.parents.now) c.args.place
