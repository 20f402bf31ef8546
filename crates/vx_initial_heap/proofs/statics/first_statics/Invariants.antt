use Rattle.std.proofs.Common.{take}
use Rattle.std.specs.List.{AllZip}
use Rattle.vx_initial_heap.specs.First.{IsFirstStatic}
use Rattle.vx_initial_heap.proofs.statics.first_statics.Given as goal

abbrev pub invariant-loop-field : goal.invariant-loop-field
invariant-loop-field l = AllZip (IsFirstStatic l.program) (take l.field-index l.field-items) l.statics.items
