use Rattle.std.proofs.Common.{◌+◌, ◌*◌}
use Rattle.vx_count.proofs.first.+members.Given as goal

abbrev pub decreases-push_firsts : goal.decreases-push_firsts
decreases-push_firsts g l = 2 * l.left

abbrev pub decreases-push_part : goal.decreases-push_part
decreases-push_part g l = 2 * l.left + 1
