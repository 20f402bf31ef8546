use Rattle.vx_tally.specs.Counted.{IsCounted}
use Rattle.vx_tally.proofs.counted.Counted.at.Goals as goal

pub holds-requires : goal.holds-requires
unfolding IsCounted
holds-requires g c = rw c.scope.ensures c.requires.scope_known

pub at-requires : goal.at-requires
unfolding IsCounted
at-requires g c = rw (c.options.ensures, c.tally.ensures) c.requires.tally
