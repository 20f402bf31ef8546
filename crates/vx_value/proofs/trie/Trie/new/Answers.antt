use Rattle.std.proofs.Common.{subst, sym}
use Rattle.vx_value.specs.Texts.{AreDistinct}
use Rattle.vx_value.specs.Trie.{AreSteps, paths}
use Rattle.vx_value.proofs.Nodes.{first-distinct, none-steps}
use Rattle.vx_value.proofs.trie.Trie.new.Goals as goal

pub invariant_of-result : goal.invariant_of-result
invariant_of-result c = record {
  are_steps = subst AreSteps (sym c.with_hasher.ensures.empty) none-steps;
  distinct = subst (λ steps. AreDistinct (paths steps)) (sym c.with_hasher.ensures.empty) first-distinct;
}
