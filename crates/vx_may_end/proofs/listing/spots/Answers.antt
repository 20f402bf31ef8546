use Rattle.vx_may_end.specs.Listed.{first_spots, spots_of}
use Rattle.vx_may_end.proofs.Putting.{ranged_step}
use Rattle.vx_may_end.proofs.listing.spots.Goals as goal

pub loop-number-preserved : goal.loop-number-preserved
loop-number-preserved c =
    rw (c.in_ok-put_spots_of.ensures, c.in_ok-next_number.ensures)
    (ranged_step (spots_of c.args.program.now) (first_spots c.args.program.now) c.loop-number.out.items c.loop-number.number c.loop-number.invariant)
