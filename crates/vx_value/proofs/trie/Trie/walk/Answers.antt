use Rattle.vx_value.specs.Texts.{text_at}
use Rattle.vx_value.specs.Trie.{paths}
use Rattle.vx_value.proofs.Nodes.{walked-more}
use Rattle.vx_value.proofs.Numbering.{Extends-trans}
use Rattle.vx_value.proofs.trie.Trie.walk.Goals as goal

pub loop-index-preserved : goal.loop-index-preserved
loop-index-preserved c =
    let first = paths c.args.self.now.steps.keys in
    let before = paths c.loop-index.self.steps.keys in
    let after = paths c.step.new.self.steps.keys in (
      walked-more before after c.loop-index.node c.in_ok-node.node (text_at first c.args.start) c.args.units.now c.loop-index.index c.loop-index-test.true c.loop-index.invariant.0 c.in_ok-node.ensures.text,
      Extends-trans first before after c.loop-index.invariant.1 c.in_ok-node.ensures.extends,
    )
