use Rattle.std.proofs.Common.{◌≡◌, ◌++◌, drop, take}
use Rattle.std.specs.List.{take_while}
use Rattle.vx_java.specs.Library.{fits_component}
use Rattle.vx_plain.specs.Views.{state_of, values_of}
use Rattle.vx_plain_here.specs.Rows.{here_in}
use Rattle.vx_plain_natives.proofs.copying.fitting_references.Given as goal

abbrev pub invariant-loop-place : goal.invariant-loop-place
invariant-loop-place l =
    let p = fits_component (here_in l.call.here.now (state_of l.state)) l.component.0 in
    take_while p (values_of l.values) ≡ take l.place (values_of l.values) ++ take_while p (drop l.place (values_of l.values))
