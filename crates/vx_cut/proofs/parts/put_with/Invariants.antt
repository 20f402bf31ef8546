use Rattle.std.proofs.Common.{◌≡◌, ◌++◌, take}
use Rattle.vx_explain.specs.Between.{with_literal}
use Rattle.vx_cut.proofs.parts.put_with.Given as goal

abbrev pub invariant-loop-term : goal.invariant-loop-term
invariant-loop-term l = l.found.items ≡ l.initial.found.items ++ with_literal l.literal.option l.literal.on (take l.term-index l.terms)
