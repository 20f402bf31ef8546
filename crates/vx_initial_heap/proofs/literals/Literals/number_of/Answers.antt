use Rattle.std.proofs.Common.{◌∙◌, ap, ◌+◌, unwrap_or}
use Rattle.vx_initial_heap.proofs.Keys.{place-keys}
use Rattle.vx_initial_heap.proofs.literals.Literals.number_of.Goals as goal

pub returns : goal.returns
returns c = rw (← c.self.view_is, c.unwrap_or-place.ensures) (ap (λ o. 260 + unwrap_or o 0) (c.get_index_of.ensures.index ∙ place-keys c.args.literal.now c.self.inside.listed.keys))
