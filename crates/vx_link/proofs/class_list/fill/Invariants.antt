use Rattle.std.proofs.Common.{take}
use Rattle.vx_link.specs.ClassPlaces.{ArePlaces}
use Rattle.vx_link.proofs.class_list.fill.Given as goal

abbrev pub invariant-loop-place : goal.invariant-loop-place
invariant-loop-place l = ArePlaces (take l.place l.classes) l.known.names l.known.places.items
