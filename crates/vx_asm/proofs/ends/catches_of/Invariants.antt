use Rattle.std.proofs.Common.{◌≡◌, map, take}
use Rattle.vx_asm.specs.Bodies.{catch_of}
use Rattle.vx_asm.proofs.ends.catches_of.Given as goal

abbrev pub invariant-loop-row : goal.invariant-loop-row
invariant-loop-row l = l.catches.items ≡ map (catch_of l.pool l.places) (take l.row-index l.rows)
