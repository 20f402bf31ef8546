use Rattle.std.proofs.Common.{◌≡◌, map, take}
use Rattle.vx_code_parts.specs.Instructions.{number_of}
use Rattle.vx_code_parts.proofs.drafting.targets.Given as goal

abbrev pub invariant-loop-name : goal.invariant-loop-name
invariant-loop-name l = l.targets.items ≡ map (number_of l.labels) (take l.name-index l.names)
