use Rattle.std.proofs.Common.{◌≡◌, ◌++◌, take}
use Rattle.vx_explain.specs.Text.{more_denials}
use Rattle.vx_explain.proofs.text.put_denials.Given as goal

abbrev pub invariant-loop-term : goal.invariant-loop-term
invariant-loop-term l = l.out.items ≡ l.initial.out.items ++ more_denials l.names (take l.term-index l.rest)
