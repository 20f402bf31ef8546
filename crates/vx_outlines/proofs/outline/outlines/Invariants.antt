use Rattle.std.proofs.Common.{map, take, ◌≡◌}
use Rattle.vx_outlines.specs.Outlines.{outline_of}
use Rattle.vx_outlines.proofs.outline.outlines.Given as goal

abbrev pub invariant-loop-class : goal.invariant-loop-class
invariant-loop-class l = l.all.items ≡ map outline_of (take l.class-index l.classes)
