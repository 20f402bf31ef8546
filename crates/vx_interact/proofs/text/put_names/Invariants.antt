use Rattle.std.proofs.Common.{◌≡◌, ◌++◌, take}
use Rattle.vx_interact.specs.Text.{more_names}
use Rattle.vx_interact.proofs.text.put_names.Given as goal

abbrev pub invariant-loop-option : goal.invariant-loop-option
invariant-loop-option l = l.out.items ≡ l.initial.out.items ++ more_names l.names (take l.option-index l.rest)
