use Rattle.std.proofs.Common.{◌≡◌, ◌++◌, take}
use Rattle.vx_explain.specs.Candidates.{term_signs}
use Rattle.vx_explain.proofs.lengths.put_term_signs.Given as goal

abbrev pub invariant-loop-literal : goal.invariant-loop-literal
invariant-loop-literal l = l.signs.items ≡ l.initial.signs.items ++ term_signs (take l.literal-index l.term)
