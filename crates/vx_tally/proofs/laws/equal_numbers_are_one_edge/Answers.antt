use Rattle.vx_tally.proofs.CanonicalLaws.{one_edge}
use Rattle.vx_tally.proofs.laws.equal_numbers_are_one_edge.Goals as goal

pub returns : goal.returns
returns c = one_edge
