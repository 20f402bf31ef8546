use Rattle.vx_sched.proofs.PlaceLaws.{IsFirstBelow}
use Rattle.vx_sched.proofs.picker.LeastKeyPicker.pick.Given as goal

abbrev pub invariant-loop-place : goal.invariant-loop-place
invariant-loop-place l = IsFirstBelow l.keys l.place l.least
