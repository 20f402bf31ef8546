use Rattle.std.specs.Prelude.{replicate}
use Rattle.vx_value.specs.declared.slot.Slot.TheVariants.{Top}
use Rattle.vx_frames.specs.Locals.{AreAppended}
use Rattle.vx_frames.proofs.locals.put_tops.Given as goal

abbrev pub invariant-loop-local : goal.invariant-loop-local
invariant-loop-local g l = AreAppended (g.S.Space.sets l.space) l.initial.locals l._local (λ _. replicate l._local Top) l.locals
