use Rattle.vx_natives.proofs.Leaves.{IsPutting}
use Rattle.vx_natives.specs.Readings.{IsReadOver}
use Rattle.vx_natives.specs.declared.readings.Reading.TheVariants.{Chars}
use Rattle.vx_natives.proofs.chars.chars_read.Given as goal

abbrev pub invariant-loop-leaf : goal.invariant-loop-leaf
invariant-loop-leaf g l = IsPutting (IsReadOver (Chars l.is_second)) (g.S.Space.sets l.fn.space) (g.S.Space.sets l.space) l.fn.heap l.heap l.calls l.leaf-index l.texts
