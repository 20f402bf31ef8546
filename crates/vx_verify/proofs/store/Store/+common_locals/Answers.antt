use Rattle.std.proofs.Common.{arith, refl, ◌-◌}
use Rattle.std.proofs.lemmas.Result.{IfOk-weaker}
use Rattle.vx_numbered.proofs.TreeLaws.{tree_within}
use Rattle.vx_verify.proofs.PutLaws.{AreMergedHalves, halves_kept, halves_put, row_alone, row_high, row_low, rows_alone, rows_same}
use Rattle.vx_verify.proofs.StoreLaws.{row_kept}
use Rattle.vx_verify.proofs.store.Store.+common_locals.Goals as goal

pub returns-then-one-other : goal.returns-then-one-other
returns-then-one-other t c = rows_same c.args.program.now c.requires.ranked c.args.self.now c.args.levels c.args.one c.args.other c.requires.store c.requires.one c.if-one-other.true

pub common_type-requires-clause-one : goal.common_type-requires-clause-one
common_type-requires-clause-one t c = row_alone c.args.self.now c.args.levels c.args.one c.if-levels-eq0.true c.requires.one

pub common_type-requires-clause-other : goal.common_type-requires-clause-other
common_type-requires-clause-other t c = row_alone c.args.self.now c.args.levels c.args.other c.if-levels-eq0.true c.requires.other

pub returns-then-levels-eq0 : goal.returns-then-levels-eq0
returns-then-levels-eq0 t c =
    IfOk-weaker c.common_type.result _ _ (λ number h. rows_alone c.args.program.now c.args.self.now _ c.args.levels c.args.one c.args.other number c.if-levels-eq0.true h) c.common_type.ensures

pub pair-first-requires : goal.pair-first-requires
pair-first-requires t c = tree_within c.args.self.now.trees.pairs.items c.args.levels c.args.one (omega arith) c.requires.one.is_tree

pub pair-second-requires : goal.pair-second-requires
pair-second-requires t c = tree_within c.args.self.now.trees.pairs.items c.args.levels c.args.other (omega arith) c.requires.other.is_tree

pub common_locals-requires : goal.common_locals-requires
common_locals-requires t c = (
  omega (arith, c.decreases),
  (
    c.requires.classes,
    (
      c.requires.ranked,
      (
        c.requires.store,
        (
          omega arith,
          (
            rw c.pair-first.ensures (row_low c.args.self.now c.args.levels c.args.one (omega arith) c.requires.one),
            rw c.pair-second.ensures (row_low c.args.self.now c.args.levels c.args.other (omega arith) c.requires.other),
          ),
        ),
      ),
    ),
  ),
)

pub common_locals-requires-2 : goal.common_locals-requires-2
common_locals-requires-2 t c =
    let s = c.args.self.now in
    let u = c.common_locals.new.self in
    let later = c.in_ok-low.ensures.later in (
      omega (arith, c.decreases),
      (
        c.requires.classes,
        (
          c.requires.ranked,
          (
            later.store,
            (
              omega arith,
              (
                rw c.pair-first.ensures (row_kept s u (c.args.levels - 1) _ later (row_high s c.args.levels c.args.one (omega arith) c.requires.one)),
                rw c.pair-second.ensures (row_kept s u (c.args.levels - 1) _ later (row_high s c.args.levels c.args.other (omega arith) c.requires.other)),
              ),
            ),
          ),
        ),
      ),
    )

pub returns-then-high-first : goal.returns-then-high-first
returns-then-high-first t c =
    let s = c.args.self.now in
    let merged : AreMergedHalves c.args.program.now s c.common_locals.new.self c.common_locals-2.new.self c.args.levels c.args.one c.args.other c.in_ok-low.low c.in_ok-high.high = record {
      some = omega arith;
      is = c.requires.store;
      row = c.requires.one;
      another = c.requires.other;
      below = rw (c.pair-first.ensures, c.pair-second.ensures) at c.in_ok-low.ensures;
      above = rw (c.pair-first.ensures, c.pair-second.ensures) at c.in_ok-high.ensures;
    } in
    halves_kept c.args.program.now s c.common_locals.new.self c.common_locals-2.new.self c.args.levels c.args.one c.args.other c.in_ok-low.low c.in_ok-high.high merged
    (rw c.pair-first.ensures at c.if-low-first.true) (rw c.pair-first.ensures at c.if-high-first.true)

pub returns : goal.returns
returns t c =
    let s = c.args.self.now in
    let merged : AreMergedHalves c.args.program.now s c.common_locals.new.self c.common_locals-2.new.self c.args.levels c.args.one c.args.other c.in_ok-low.low c.in_ok-high.high = record {
      some = omega arith;
      is = c.requires.store;
      row = c.requires.one;
      another = c.requires.other;
      below = rw (c.pair-first.ensures, c.pair-second.ensures) at c.in_ok-low.ensures;
      above = rw (c.pair-first.ensures, c.pair-second.ensures) at c.in_ok-high.ensures;
    } in
    halves_put c.args.program.now s c.common_locals.new.self c.common_locals-2.new.self _ c.args.levels c.args.one c.args.other c.in_ok-low.low c.in_ok-high.high c.in_ok-tree.tree merged
    refl refl c.in_ok-tree.ensures.ok
