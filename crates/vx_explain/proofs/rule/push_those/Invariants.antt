use Rattle.std.proofs.Common.{◌≡◌, ◌++◌, take}
use Rattle.vx_explain.specs.Rules.{those}
use Rattle.vx_explain.proofs.rule.push_those.Given as goal

abbrev pub invariant-loop-term : goal.invariant-loop-term
invariant-loop-term l = l.ordered.items ≡ l.initial.ordered.items ++ those l.single (take l.term-index l.terms)
