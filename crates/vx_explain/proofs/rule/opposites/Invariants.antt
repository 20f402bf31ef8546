use Rattle.std.proofs.Common.{◌≡◌, take}
use Rattle.vx_explain.specs.Rules.{opposites}
use Rattle.vx_explain.proofs.rule.opposites.Given as goal

abbrev pub invariant-loop-literal : goal.invariant-loop-literal
invariant-loop-literal l = l.terms.items ≡ opposites (take l.literal-index l.term)
