use Rattle.std.proofs.Common.{sym}
use Rattle.vx_may_end.proofs.Putting.{short_code}
use Rattle.vx_may_end.proofs.listing.put_spots_of.Goals as goal

pub put_spots_in-requires-clause-few : goal.put_spots_in-requires-clause-few
put_spots_in-requires-clause-few c = short_code c.args.program.now c.args.method.0 c.in-Some.code.now c.requires.codes (sym c.in-Some.ensures)
