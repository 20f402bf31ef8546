use Rattle.std.proofs.Common.{◌≡◌, take}
use Rattle.vx_java.specs.Machine.{stack_size}
use Rattle.vx_plain.specs.Views.{values_of}
use Rattle.vx_plain.proofs.frame.words_of.Given as goal

abbrev pub invariant-loop-value : goal.invariant-loop-value
invariant-loop-value l = l.words ≡ stack_size (values_of (take l.value-index l.values))
