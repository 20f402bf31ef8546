use Rattle.std.proofs.Common.{◌≡◌, map, take}
use Rattle.vx_initial_heap.specs.First.{empty_text, static_in}
use Rattle.vx_plain.specs.Views.{values_of}
use Rattle.vx_plain_start.proofs.first.statics_of.Given as goal

abbrev pub invariant-loop-first : goal.invariant-loop-first
invariant-loop-first l = values_of l.statics.items ≡ map (static_in empty_text l.config) (take l.first-index l.firsts)
