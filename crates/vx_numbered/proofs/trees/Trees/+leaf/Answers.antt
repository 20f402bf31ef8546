use Rattle.std.proofs.Common.{arith, sym, suc, ◌-◌, ◌≡◌, ◌∙◌}
use Rattle.vx_numbered.proofs.TreeLaws.{above_half, leaf_above, leaf_alone, leaf_below, tree_high, tree_low, tree_within}
use Rattle.vx_numbered.proofs.trees.Trees.+leaf.Goals as goal

pub returns-then-levels-eq0 : goal.returns-then-levels-eq0
returns-then-levels-eq0 t c = leaf_alone c.args.self.now.pairs.items c.args.levels c.args.tree c.args.place c.if-levels-eq0.true c.requires.place

pub pair-pair-requires : goal.pair-pair-requires
pair-pair-requires t c = tree_within c.args.self.now.pairs.items c.args.levels c.args.tree (omega arith) c.requires.tree

pub leaf-requires : goal.leaf-requires
leaf-requires t c = (
  omega (arith, c.decreases),
  (
    omega arith,
    (
      rw c.pair-pair.ensures (tree_low c.args.self.now.pairs.items c.args.levels c.args.tree (omega arith) c.requires.tree),
      omega (arith, c.half_of-half.ensures),
    ),
  ),
)

pub leaf-requires-else-place-half : goal.leaf-requires-else-place-half
leaf-requires-else-place-half t c = (
  omega (arith, c.decreases),
  (
    omega arith,
    (
      rw c.pair-pair.ensures (tree_high c.args.self.now.pairs.items c.args.levels c.args.tree (omega arith) c.requires.tree),
      rw c.half_of-half.ensures (above_half c.args.levels c.args.place (omega arith) c.requires.place),
    ),
  ),
)

pub returns-then-place-half : goal.returns-then-place-half
returns-then-place-half t c =
    let below : c.args.levels ≡ suc (c.args.levels - 1) = omega arith in
    (rw c.pair-pair.ensures at c.leaf.ensures)
    ∙ sym (leaf_below c.args.self.now.pairs.items c.args.levels (c.args.levels - 1) c.args.tree c.args.place below (omega (arith, c.half_of-half.ensures)))

pub returns-else-place-half : goal.returns-else-place-half
returns-else-place-half t c =
    let below : c.args.levels ≡ suc (c.args.levels - 1) = omega arith in
    (rw (c.pair-pair.ensures, c.half_of-half.ensures) at c.leaf-else-place-half.ensures)
    ∙ sym (leaf_above c.args.self.now.pairs.items c.args.levels (c.args.levels - 1) c.args.tree c.args.place below (omega (arith, c.half_of-half.ensures)))
