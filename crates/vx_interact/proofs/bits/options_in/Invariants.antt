use Rattle.std.proofs.Common.{Bool, List}
use Rattle.vx_bdd_tools.proofs.Supports.{IsSupportBelow}
use Rattle.vx_interact.specs.Bits.{HasOptions}
use Rattle.vx_interact.proofs.bits.options_in.Given as goal

abbrev pub invariant-loop-option : goal.invariant-loop-option
invariant-loop-option l = (set : List Bool → Bool) → HasOptions set l.bits → IsSupportBelow set l.option l.found.items
