use Rattle.vx_cover.proofs.Listing.{IsListingPieces}
use Rattle.vx_cover.proofs.target.push_pieces.Given as goal

abbrev pub invariant-loop-place : goal.invariant-loop-place
invariant-loop-place g l = IsListingPieces (g.S.Space.sets l.fn.space) (g.S.Space.sets l.space) l.report l.ended l.place l.targets.items
