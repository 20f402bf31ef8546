use Rattle.vx_natives.proofs.CharLaws.{IsReading}
use Rattle.vx_natives.proofs.chars.chars_given.Given as goal

abbrev pub invariant-loop-cell : goal.invariant-loop-cell
invariant-loop-cell g l = IsReading (g.S.Space.sets l.fn.space) (g.S.Space.sets l.space) l.fn.heap l.heap l.reference l.condition l.cell l.texts
