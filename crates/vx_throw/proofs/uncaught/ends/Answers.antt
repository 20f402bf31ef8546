use Rattle.std.proofs.Common.{arith}
use Rattle.std.proofs.lemmas.Bool.Decides.{nat_tests}
use Rattle.vx_heap.proofs.Places.{passes_here}
use Rattle.vx_throw.proofs.EndLaws.{IsEnding-end, IsEnding-start, IsEnding-step}
use Rattle.vx_throw.specs.Landings.{is_class_number}
use Rattle.vx_throw.proofs.uncaught.ends.Goals as goal

pub loop-leaf-init : goal.loop-leaf-init
loop-leaf-init g c = rw c.new-outcomes.ensures (IsEnding-start c.args.program.now _ c.args.classes.now)

pub overflow_cast-leaf : goal.overflow_cast-leaf
overflow_cast-leaf g c =
    let short = passes_here (λ leaf. is_class_number leaf.value) c.args.classes.now _ c.leaf-item.result c.requires.short c.loop-leaf-test.true c.leaf-item.is in
    grind (arith, nat_tests, short)

pub loop-leaf-preserved : goal.loop-leaf-preserved
loop-leaf-preserved g c = rw c.in_ok-push.ensures.ok (IsEnding-step c.args.program.now _ c.args.classes.now c.loop-leaf.leaf-index c.leaf-item.result c.in_ok-end.end c.loop-leaf.outcomes.items.items c.requires.leaves c.loop-leaf-test.true c.leaf-item.is c.in_ok-end.ensures c.loop-leaf.invariant)

pub returns-clause-gives : goal.returns-clause-gives
returns-clause-gives g c = IsEnding-end c.args.program.now _ c.args.group.now c.args.classes.now _ c.loop-leaf.outcomes.items.items c.requires.cover c.loop-leaf-test.false c.loop-leaf.invariant

pub returns-clause-placed : goal.returns-clause-placed
returns-clause-placed g c = c.loop-leaf.invariant.placed
