use Rattle.vx_ancestry.proofs.Ranked.{no_ranks}
use Rattle.vx_ancestry.proofs.ancestry.ranks_of.Goals as goal

pub returns-else-are_ranked : goal.returns-else-are_ranked
returns-else-are_ranked c = rw c.new.ensures.items (no_ranks c.args.parents.now)
