use Rattle.std.proofs.Common.{◌≡◌, ◌∷◌, ◌++◌, [], map, take}
use Rattle.vx_explain.proofs.literals.with_terms.Given as goal

abbrev pub invariant-loop-literal : goal.invariant-loop-literal
invariant-loop-literal l = l.all.items ≡ map (λ x. x ∷ []) (take l.literal-index l.literals)

abbrev pub invariant-loop-term : goal.invariant-loop-term
invariant-loop-term l = l.all.items ≡ map (λ x. x ∷ []) l.literals ++ take l.term-index l.terms
