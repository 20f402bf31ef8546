use Rattle.std.proofs.Math.Facts.{to_z-of_z}
use Rattle.std.specs.Int.{w32}
use mir.Val.{SFits, of_z, to_z}
use Rattle.std.proofs.Common.{◌≡◌, ◌<◌, ◌+◌, ◌-◌, ◌*◌, ◌∷◌, ◌++◌, [], ◌∙◌, arith, length, refl, rules}
use Rattle.vx_cond.proofs.CondLaws.{IsCond-extends}
use Rattle.vx_cond.proofs.LeafLoops.{next_known}
use Rattle.vx_cond.proofs.RowLaws.{IsRow-extends}
use Rattle.vx_group_states.specs.Answers.{answer_cmp}
use Rattle.vx_heap.proofs.HeapLaws.{IsHeap-extends}
use Rattle.vx_heap.proofs.Known.{cond_known}
use Rattle.vx_space.proofs.Spaces.{Extends-trans}
use Rattle.vx_value.specs.Slot.{slot_cmp}
use Rattle.vx_arrays.specs.Making.{lengths_behind, slots_from}
use Rattle.vx_arrays.proofs.DividedGrids.{AreGridsMade-more, AreGridsMade-whole, AreSizes-of, IsDividing-apart, IsDividing-end, IsDividing-inside, IsDividing-skip, IsDividing-start, IsDividing-step}
use Rattle.vx_cells.proofs.Somewhere.{somewhere_in}
use Rattle.vx_arrays.proofs.MadeGrids.{AreGridsMade-illegal, lengths_none}
use Rattle.vx_arrays.proofs.grids.+narrowing.Goals as goal

pub answers_behind-returns-in_default : goal.answers_behind-returns-in_default
answers_behind-returns-in_default g t c = record {
  extends = c.in_ok-ended.ensures.extends;
  ok = AreGridsMade-illegal c.args.program.now c.args.class.0 (λ d. lengths_behind c.args.lengths.now (c.args.next ∷ slots_from (g.S.Space.sets c.args.space.now) c.args.stack.now c.args.dimensions (length c.args.lengths.now + 1) d)) c.in_ok-ended.ensures.extends c.args.heap.now c.args.condition c.args.answers c.in_ok-ended.ended (λ d. lengths_none c.args.next (λ n e. c.in_default.not-Int n e) c.args.lengths.now (slots_from (g.S.Space.sets c.args.space.now) c.args.stack.now c.args.dimensions (length c.args.lengths.now + 1) d)) c.requires.heap c.requires.known c.requires.answers c.in_ok-ended.ensures.ok;
}

pub answers_behind-returns-clause-ok : goal.answers_behind-returns-clause-ok
answers_behind-returns-clause-ok g t c =
    let in_range : SFits w32 c.in-Int.size = search rules in
    let same : to_z w32 (of_z w32 c.in-Int.size) ≡ c.in-Int.size = to_z-of_z {w = w32} {z = c.in-Int.size} in_range in
    AreGridsMade-more c.args.program.now c.args.class.0 (g.S.Space.sets c.args.space.now) (g.S.Space.sets c.answers_inside.new.space) c.args.heap.now c.answers_inside.new.heap c.args.stack.now c.args.dimensions c.args.answers c.in_ok-made.made c.args.lengths.now c.as_slice.result.now c.in-Int.size c.args.next _ (c.as_slice.ensures.value ∙ c.in_ok-push.ensures.items ∙ (λ i. c.in_ok-more.ensures.items i ++ same i ∷ [])) c.in-Int.is c.in_ok-made.ensures.ok

pub answers_inside-returns-then-lengths-dimensions-clause-ok : goal.answers_inside-returns-then-lengths-dimensions-clause-ok
answers_inside-returns-then-lengths-dimensions-clause-ok g t c = AreGridsMade-whole c.args.program.now c.args.class.0 (g.S.Space.sets c.args.space.now) (g.S.Space.sets c.answered.new.space) c.args.heap.now c.answered.new.heap c.args.stack.now c.args.dimensions c.args.answers c.in_ok-whole.whole c.args.lengths.now _ c.requires.enough (omega (arith, c.if-lengths-dimensions.true)) c.in_ok-whole.ensures.ok

pub answers_inside-loop-leaf-init : goal.answers_inside-loop-leaf-init
answers_inside-loop-leaf-init g t c = rw c.answers.view_is (IsDividing-start c.args.program.now c.args.class.0 _ (g.S.Space.sets c.args.space.now) c.args.heap.now c.args.condition _ c.args.answers c.requires.heap c.requires.answers)

pub answers_inside-and-requires-clause-second : goal.answers_inside-and-requires-clause-second
answers_inside-and-requires-clause-second g t c =
    let sizes = (AreSizes-of (g.S.Space.sets c.args.space.now) c.args.stack.now (length c.args.stack.now.conds - c.args.dimensions + length c.args.lengths.now) c.get.result.now c.leaves-leaves.result.now c.requires.stack (rw c.len.ensures at c.get.ensures) c.leaves-leaves.ensures) in
    next_known slot_cmp c.leaves-leaves.result.now c.loop-leaf.leaf-index c.leaf-item.result sizes.are_leaves c.loop-leaf-test.true c.leaf-item.is c.loop-leaf.invariant.extends

pub answers_inside-loop-leaf-preserved-then-is_never : goal.answers_inside-loop-leaf-preserved-then-is_never
answers_inside-loop-leaf-preserved-then-is_never g t c =
    let sizes = (AreSizes-of (g.S.Space.sets c.args.space.now) c.args.stack.now (length c.args.stack.now.conds - c.args.dimensions + length c.args.lengths.now) c.get.result.now c.leaves-leaves.result.now c.requires.stack (rw c.len.ensures at c.get.ensures) c.leaves-leaves.ensures) in
    IsDividing-skip c.args.program.now c.args.class.0 (g.S.Space.sets c.args.space.now) c.args.stack.now c.args.dimensions c.args.lengths.now c.args.condition c.leaves-leaves.result.now c.args.heap.now c.args.answers (g.met.S.Space.lawful c.and.new.self) c.in_ok-inner.ensures.extends c.loop-leaf.heap c.loop-leaf.leaf-index c.leaf-item.result c.in_ok-inner.inner c.loop-leaf.made c.requires.known sizes c.loop-leaf-test.true c.leaf-item.is c.loop-leaf.invariant c.in_ok-inner.ensures.ok (c.if-is_never.ensures.0 refl)

pub answers_inside-answers_behind-requires : goal.answers_inside-answers_behind-requires
answers_inside-answers_behind-requires g t c κs within =
    let sizes = (AreSizes-of (g.S.Space.sets c.args.space.now) c.args.stack.now (length c.args.stack.now.conds - c.args.dimensions + length c.args.lengths.now) c.get.result.now c.leaves-leaves.result.now c.requires.stack (rw c.len.ensures at c.get.ensures) c.leaves-leaves.ensures) in
    let kept = c.loop-leaf.invariant in
    let inner = c.in_ok-inner.ensures in
    let few : length c.args.lengths.now < c.args.dimensions = omega arith in
    let falls : 2 * (c.args.dimensions - length c.args.lengths.now) < t = omega (arith, few, c.decreases) in (
      falls,
      (
        within.0,
        (
          within.1,
          (
            c.requires.refusals,
            (
              IsHeap-extends inner.extends c.loop-leaf.heap kept.grids.changed.is_heap,
              (
                IsRow-extends slot_cmp (Extends-trans kept.extends inner.extends) c.args.stack.now c.requires.stack,
                (
                  c.requires.enough,
                  (
                    few,
                    (
                      inner.ok.known,
                      (
                        somewhere_in (g.met.S.Space.lawful c.and.new.self) c.in_ok-inner.inner inner.ok.known (λ q. cc (c.if-is_never.ensures.1 q)),
                        (
                          IsDividing-inside c.args.program.now c.args.class.0 (g.S.Space.sets c.args.space.now) c.args.stack.now c.args.dimensions c.args.lengths.now c.args.condition c.leaves-leaves.result.now c.args.heap.now c.args.answers inner.extends c.loop-leaf.heap c.loop-leaf.leaf-index c.leaf-item.result c.in_ok-inner.inner c.loop-leaf.made c.requires.stack c.requires.known c.requires.inside sizes c.loop-leaf-test.true c.leaf-item.is kept inner.ok,
                          (
                            IsCond-extends answer_cmp inner.extends c.loop-leaf.made kept.grids.is_cond,
                            IsDividing-apart c.args.program.now c.args.class.0 (g.S.Space.sets c.args.space.now) c.args.stack.now c.args.dimensions c.args.lengths.now c.args.condition c.leaves-leaves.result.now c.args.heap.now c.args.answers inner.extends c.loop-leaf.heap c.loop-leaf.leaf-index c.leaf-item.result c.in_ok-inner.inner c.loop-leaf.made c.requires.known c.requires.disjoint sizes c.loop-leaf-test.true c.leaf-item.is kept inner.ok (cond_known answer_cmp _ c.loop-leaf.made kept.grids.is_cond).0,
                          ),
                        ),
                      ),
                    ),
                  ),
                ),
              ),
            ),
          ),
        ),
      ),
    )

pub answers_inside-loop-leaf-preserved : goal.answers_inside-loop-leaf-preserved
answers_inside-loop-leaf-preserved g t c =
    let sizes = (AreSizes-of (g.S.Space.sets c.args.space.now) c.args.stack.now (length c.args.stack.now.conds - c.args.dimensions + length c.args.lengths.now) c.get.result.now c.leaves-leaves.result.now c.requires.stack (rw c.len.ensures at c.get.ensures) c.leaves-leaves.ensures) in
    IsDividing-step c.args.program.now c.args.class.0 (g.S.Space.sets c.args.space.now) c.args.stack.now c.args.dimensions c.args.lengths.now c.args.condition c.leaves-leaves.result.now c.args.heap.now c.args.answers c.in_ok-inner.ensures.extends c.in_ok-made.ensures.extends c.loop-leaf.heap c.answers_behind.new.heap c.loop-leaf.leaf-index c.leaf-item.result c.in_ok-inner.inner c.loop-leaf.made c.in_ok-made.made c.requires.stack c.requires.known sizes c.loop-leaf-test.true c.leaf-item.is c.loop-leaf.invariant c.in_ok-inner.ensures.ok c.in_ok-made.ensures.ok

pub answers_inside-returns-clause-ok : goal.answers_inside-returns-clause-ok
answers_inside-returns-clause-ok g t c =
    let sizes = (AreSizes-of (g.S.Space.sets c.args.space.now) c.args.stack.now (length c.args.stack.now.conds - c.args.dimensions + length c.args.lengths.now) c.get.result.now c.leaves-leaves.result.now c.requires.stack (rw c.len.ensures at c.get.ensures) c.leaves-leaves.ensures) in
    IsDividing-end c.args.program.now c.args.class.0 (g.S.Space.sets c.args.space.now) c.args.stack.now c.args.dimensions c.args.lengths.now c.args.condition c.leaves-leaves.result.now c.args.heap.now c.args.answers c.loop-leaf.heap c.loop-leaf.leaf-index c.loop-leaf.made sizes c.requires.inside c.loop-leaf-test.false c.loop-leaf.invariant
