use Rattle.std.proofs.Common.{◌≡◌, drop}
use Rattle.vx_plain.specs.Views.{values_of}
use Rattle.vx_plain_here.specs.Arguments.{all_fit}
use Rattle.vx_plain_here.proofs.arguments.are_matching.Given as goal

abbrev pub invariant-loop-place : goal.invariant-loop-place
invariant-loop-place l = all_fit (drop l.place l.types) (drop l.place (values_of l.values)) ≡ all_fit l.types (values_of l.values)
