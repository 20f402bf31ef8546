use Rattle.std.proofs.Common.{arith, suc, ◌-◌, ◌≡◌}
use Rattle.std.proofs.lemmas.Result.{IfOk-weaker}
use Rattle.vx_numbered.proofs.TreeLaws.{above_half, made_alone, made_high, made_low, paired_high, paired_low, tree_high, tree_low, tree_within}
use Rattle.vx_numbered.proofs.trees.Trees.+with_leaf.Goals as goal

pub returns-then-levels-eq0-clause-ok : goal.returns-then-levels-eq0-clause-ok
returns-then-levels-eq0-clause-ok t c = made_alone c.args.self.now.pairs.items c.args.levels c.args.tree c.args.place c.args.leaf c.if-levels-eq0.true c.requires.place

pub pair-pair-requires : goal.pair-pair-requires
pair-pair-requires t c = tree_within c.args.self.now.pairs.items c.args.levels c.args.tree (omega arith) c.requires.tree

pub with_leaf-requires : goal.with_leaf-requires
with_leaf-requires t c = (
  omega (arith, c.decreases),
  (
    omega arith,
    (
      rw c.pair-pair.ensures (tree_low c.args.self.now.pairs.items c.args.levels c.args.tree (omega arith) c.requires.tree),
      omega (arith, c.half_of-half.ensures),
    ),
  ),
)

pub returns-then-low-pair-clause-ok : goal.returns-then-low-pair-clause-ok
returns-then-low-pair-clause-ok t c =
    let below : c.args.levels ≡ suc (c.args.levels - 1) = omega arith in
    made_low c.args.self.now.pairs.items c.with_leaf.new.self.pairs.items c.args.levels (c.args.levels - 1) c.args.tree c.args.place c.args.leaf c.in_ok-low.low below
    (omega (arith, c.half_of-half.ensures)) c.requires.tree (rw c.pair-pair.ensures at c.in_ok-low.ensures.ok) (rw c.pair-pair.ensures at c.if-low-pair.true)

pub returns-then-place-half-clause-ok : goal.returns-then-place-half-clause-ok
returns-then-place-half-clause-ok t c =
    let below : c.args.levels ≡ suc (c.args.levels - 1) = omega arith in
    IfOk-weaker c.paired_or_back.result _ _ (λ number put. paired_low c.args.self.now.pairs.items c.with_leaf.new.self.pairs.items c.paired_or_back.new.self.pairs.items c.args.levels (c.args.levels - 1) c.args.tree c.args.place c.args.leaf c.in_ok-low.low number below
    (omega (arith, c.half_of-half.ensures)) c.requires.tree (rw c.pair-pair.ensures at c.in_ok-low.ensures.ok) (rw c.pair-pair.ensures at put)) c.paired_or_back.ensures.ok

pub with_leaf-requires-2 : goal.with_leaf-requires-2
with_leaf-requires-2 t c = (
  omega (arith, c.decreases),
  (
    omega arith,
    (
      rw c.pair-pair.ensures (tree_high c.args.self.now.pairs.items c.args.levels c.args.tree (omega arith) c.requires.tree),
      rw c.half_of-half.ensures (above_half c.args.levels c.args.place (omega arith) c.requires.place),
    ),
  ),
)

pub returns-then-high-pair-clause-ok : goal.returns-then-high-pair-clause-ok
returns-then-high-pair-clause-ok t c =
    let below : c.args.levels ≡ suc (c.args.levels - 1) = omega arith in
    made_high c.args.self.now.pairs.items c.with_leaf-2.new.self.pairs.items c.args.levels (c.args.levels - 1) c.args.tree c.args.place c.args.leaf c.in_ok-high.high below
    (omega (arith, c.half_of-half.ensures)) c.requires.tree (rw (c.pair-pair.ensures, c.half_of-half.ensures) at c.in_ok-high.ensures.ok) (rw c.pair-pair.ensures at c.if-high-pair.true)

pub returns-clause-ok : goal.returns-clause-ok
returns-clause-ok t c =
    let below : c.args.levels ≡ suc (c.args.levels - 1) = omega arith in
    IfOk-weaker c.paired_or_back-2.result _ _ (λ number put. paired_high c.args.self.now.pairs.items c.with_leaf-2.new.self.pairs.items c.paired_or_back-2.new.self.pairs.items c.args.levels (c.args.levels - 1) c.args.tree c.args.place c.args.leaf c.in_ok-high.high number below
    (omega (arith, c.half_of-half.ensures)) c.requires.tree (rw (c.pair-pair.ensures, c.half_of-half.ensures) at c.in_ok-high.ensures.ok) (rw c.pair-pair.ensures at put)) c.paired_or_back-2.ensures.ok
