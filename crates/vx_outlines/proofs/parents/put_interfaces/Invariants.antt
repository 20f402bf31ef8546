use Rattle.std.proofs.Common.{take, ◌++◌, ◌≡◌}
use Rattle.vx_outlines.specs.Refusals.{interfaces_text}
use Rattle.vx_outlines.proofs.parents.put_interfaces.Given as goal

abbrev pub invariant-loop-name : goal.invariant-loop-name
invariant-loop-name l = l.out.items ≡ l.initial.out.items ++ interfaces_text (l.classes ++ l.core) (take l.name-index l.names)
