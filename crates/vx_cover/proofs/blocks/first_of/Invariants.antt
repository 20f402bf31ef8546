use Rattle.std.proofs.Common.{◌≡◌, [], drop}
use Rattle.vx_cover.specs.Blocks.{flat}
use Rattle.vx_cover.specs.Targets.{first_set}
use Rattle.vx_cover.proofs.blocks.first_of.Given as goal

abbrev pub invariant-loop-block : goal.invariant-loop-block
invariant-loop-block g l = first_set [] (flat l.blocks) ≡ first_set [] (flat (drop l.block-index l.blocks))
