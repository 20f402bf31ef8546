use Rattle.std.proofs.Common.{◌≡◌, ◌++◌, drop}
use Rattle.vx_java.specs.Natives.{as_read}
use Rattle.vx_plain.specs.Views.{values_of}
use Rattle.vx_plain_strings.specs.Answers.{listed}
use Rattle.vx_plain_natives.proofs.arguments.as_read.Given as goal

abbrev pub invariant-loop-place : goal.invariant-loop-place
invariant-loop-place l = listed l.read ++ as_read (drop l.place l.types) (drop l.place (values_of l.values)) ≡ listed l.fn.first ++ as_read l.types (values_of l.values)
