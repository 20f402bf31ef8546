use Rattle.std.proofs.Common.{sym}
use Rattle.vx_spots.proofs.entries.order_of.Goals as goal

pub returns : goal.returns
returns c = record { same = rw (sym c.in_ok-order.ensures) c.in_ok-sort.ensures.permutation; sorted = c.in_ok-sort.ensures.sorted }
