use Rattle.std.proofs.Common.{◌≡◌, length}
use Rattle.vx_agree.specs.Options.{are_same_names}
use Rattle.vx_cut_command.proofs.cut.are_same_names.Given as goal

-- what is left decides
abbrev pub invariant-loop-left : goal.invariant-loop-left
invariant-loop-left l = are_same_names l.one l.other ≡ are_same_names l.left l.right

abbrev pub decreases-loop-left : goal.decreases-loop-left
decreases-loop-left l = length l.left
