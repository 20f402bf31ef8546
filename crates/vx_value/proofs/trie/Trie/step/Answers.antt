use Rattle.std.proofs.Common.{subst, sym}
use Rattle.vx_value.specs.Texts.{AreDistinct, Extends}
use Rattle.vx_value.specs.Trie.{AreSteps, paths}
use Rattle.vx_value.proofs.Nodes.{insert-distinct, insert-extends, insert-steps, stepped-is}
use Rattle.vx_value.proofs.trie.Trie.step.Goals as goal

pub invariant_of-self-2 : goal.invariant_of-self-2
invariant_of-self-2 c =
    let trie = c.args.self.now in
    record {
      are_steps = subst AreSteps (sym c.in_ok-place.ensures.keys) (insert-steps trie.steps.keys (c.args.start, c.args.unit) trie.are_steps trie.distinct c.requires);
      distinct = subst (λ steps. AreDistinct (paths steps)) (sym c.in_ok-place.ensures.keys) (insert-distinct trie.steps.keys (c.args.start, c.args.unit) trie.are_steps trie.distinct c.requires);
    }

pub returns-clause-text : goal.returns-clause-text
returns-clause-text c =
    let trie = c.args.self.now in
    let stored = c.in_ok-place.ensures.stored in
    stepped-is trie.steps.keys c.insert_full.new.self.keys (c.args.start, c.args.unit) stored.0 c.in_ok-place.place
    (subst AreSteps (sym c.in_ok-place.ensures.keys) (insert-steps trie.steps.keys (c.args.start, c.args.unit) trie.are_steps trie.distinct c.requires))
    (subst (λ steps. Extends (paths trie.steps.keys) (paths steps)) (sym c.in_ok-place.ensures.keys) (insert-extends trie.steps.keys (c.args.start, c.args.unit) trie.are_steps trie.distinct c.requires))
    c.requires stored.1 stored.2

pub returns-clause-extends : goal.returns-clause-extends
returns-clause-extends c =
    let trie = c.args.self.now in
    subst (λ steps. Extends (paths trie.steps.keys) (paths steps)) (sym c.in_ok-place.ensures.keys) (insert-extends trie.steps.keys (c.args.start, c.args.unit) trie.are_steps trie.distinct c.requires)
