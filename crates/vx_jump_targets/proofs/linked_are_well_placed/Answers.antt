use Rattle.vx_link.specs.CoreFiles.{core_files, native_numbers}
use Rattle.vx_jump_targets.proofs.PlacedCore.{placed_core}
use Rattle.vx_jump_targets.proofs.WellPlaced.{placed}
use Rattle.vx_jump_targets.proofs.linked_are_well_placed.Goals as goal

pub returns : goal.returns
returns c = placed core_files native_numbers placed_core
