use Rattle.std.proofs.Common.{◌≡◌, length}
use Rattle.std.specs.Vec.Iter.{into_iter_items, into_iter_len}
use Rattle.vx_frames.proofs.LocalLaws.{ArePutting}
use Rattle.vx_frames.proofs.locals.put_values.Given as goal

abbrev pub invariant-loop-value : goal.invariant-loop-value
invariant-loop-value g l = (into_iter_len l.value-iterator ≡ length (into_iter_items l.value-iterator)) × ArePutting (g.S.Space.sets l.space) l.initial.locals.scope l.most l.fn.values.items (into_iter_items l.value-iterator) l.locals
