use Rattle.vx_cover.proofs.Listing.{IsListingEnds}
use Rattle.vx_cover.proofs.scope.first_ends.Given as goal

abbrev pub invariant-loop-line : goal.invariant-loop-line
invariant-loop-line g l = IsListingEnds (g.S.Space.sets l.fn.space) (g.S.Space.sets l.space) l.report l.line-index l.rest l.firsts.items
