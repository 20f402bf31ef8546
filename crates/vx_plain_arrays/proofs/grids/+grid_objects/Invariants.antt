use Rattle.std.proofs.Common.{length}
use Rattle.vx_plain_arrays.proofs.grids.+grid_objects.Given as goal

abbrev pub decreases-grid_objects : goal.decreases-grid_objects
decreases-grid_objects l = length l.lengths.now
