use Rattle.std.proofs.Common.{take}
use Rattle.vx_heap.proofs.Beginnings.{IsAppending}
use Rattle.vx_link.specs.Parts.{class_at}
use Rattle.vx_heap.proofs.defaults.own_slots_out.Given as goal

abbrev pub invariant-loop-field : goal.invariant-loop-field
invariant-loop-field l = IsAppending l.fn.empty l.fn.program l.initial.slots.items (take l.field-index (class_at l.fn.program l.fn.class.0).fields) l.slots.items
