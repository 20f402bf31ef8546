use Rattle.std.proofs.Common.{take}
use Rattle.vx_verify.specs.States.{HasNumbers}
use Rattle.vx_flow.proofs.numbering.numbers_of.Given as goal

abbrev pub invariant-loop-item : goal.invariant-loop-item
invariant-loop-item l = HasNumbers l.fn.store l.store l.numbers.items (take l.item-index l.items)
