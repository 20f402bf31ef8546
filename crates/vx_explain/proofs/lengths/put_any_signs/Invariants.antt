use Rattle.std.proofs.Common.{◌≡◌, ◌++◌, take}
use Rattle.std.specs.List.{flat_map}
use Rattle.vx_explain.specs.Candidates.{term_signs}
use Rattle.vx_explain.proofs.lengths.put_any_signs.Given as goal

abbrev pub invariant-loop-term : goal.invariant-loop-term
invariant-loop-term l = l.signs.items ≡ l.initial.signs.items ++ flat_map (λ term. term_signs term) (take l.term-index l.terms)
