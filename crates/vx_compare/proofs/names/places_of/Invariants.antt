use Rattle.std.proofs.Common.{◌≡◌, take}
use Rattle.vx_compare.specs.Names.{places_of}
use Rattle.vx_compare.proofs.names.places_of.Given as goal

abbrev pub invariant-loop-name : goal.invariant-loop-name
invariant-loop-name l = l.places.items ≡ places_of l.all (take l.name-index l.fn.names)
