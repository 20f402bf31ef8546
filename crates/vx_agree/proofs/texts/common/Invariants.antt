use Rattle.std.proofs.Common.{◌≡◌, ◌+◌, drop}
use Rattle.vx_agree.specs.Equal.{common}
use Rattle.vx_agree.proofs.texts.common.Given as goal

abbrev pub invariant-loop-place : goal.invariant-loop-place
invariant-loop-place l = common l.one l.other ≡ l.place + common (drop l.place l.one) (drop l.place l.other)
