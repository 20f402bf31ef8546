use Rattle.std.proofs.Common.{arith}
use Rattle.vx_link.proofs.Places.{all_of, one_more}
use Rattle.vx_link.proofs.class_list.fill.Goals as goal

pub loop-place-preserved : goal.loop-place-preserved
loop-place-preserved c = one_more c.args.classes.now c.loop-place.place _ _ _ _ _ c.loop-place-test.true c.index-classes-place.is c.loop-place.invariant c.in_ok-add.ensures.names c.in_ok-add.ensures.places

pub returns : goal.returns
returns c = all_of c.args.classes.now c.loop-place.place _ _ (omega arith) c.loop-place.invariant
