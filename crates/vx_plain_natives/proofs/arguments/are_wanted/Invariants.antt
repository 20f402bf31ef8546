use Rattle.std.proofs.Common.{◌≡◌, drop}
use Rattle.vx_java.specs.Natives.{are_wanted}
use Rattle.vx_plain.specs.Views.{state_of, values_of}
use Rattle.vx_plain_here.specs.Rows.{here_in}
use Rattle.vx_plain_natives.proofs.arguments.are_wanted.Given as goal

abbrev pub invariant-loop-place : goal.invariant-loop-place
invariant-loop-place l =
    let wanted = are_wanted (here_in l.here (state_of l.state)) l.descriptor in
    wanted (drop l.place l.types) (drop l.place (values_of l.values)) ≡ wanted l.types (values_of l.values)
