use Rattle.std.proofs.Common.{◌≡◌, ◌++◌, take}
use Rattle.vx_explain.specs.Text.{more_literals}
use Rattle.vx_explain.proofs.text.put_term.Given as goal

abbrev pub invariant-loop-literal : goal.invariant-loop-literal
invariant-loop-literal l = l.out.items ≡ l.initial.out.items ++ more_literals l.names (take l.literal-index l.rest)
