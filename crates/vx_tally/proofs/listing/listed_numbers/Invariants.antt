use Rattle.vx_tally.specs.Listed.{IsListing, first_number}
use Rattle.vx_tally.proofs.listing.listed_numbers.Given as goal

abbrev pub invariant-numbers : goal.invariant-numbers
invariant-numbers g l = IsListing (g.S.Space.sets l.fn.space) (g.S.Space.sets l.space) l.tally l.fn.within l.rest l.leaves.items

abbrev pub decreases-numbers : goal.decreases-numbers
decreases-numbers g l = first_number l.leaves.items
