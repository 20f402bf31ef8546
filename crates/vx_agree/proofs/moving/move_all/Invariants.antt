use Rattle.std.proofs.Common.{take}
use Rattle.vx_agree.proofs.Moved.{IsMoving}
use Rattle.vx_agree.proofs.moving.move_all.Given as goal

abbrev pub invariant-loop-entry : goal.invariant-loop-entry
invariant-loop-entry g l = IsMoving (g.S.Space.sets l.fn.space) (g.S.Space.sets l.space) l.other l.front l.set l.reached (take l.entry-index l.reached) l.new.items
