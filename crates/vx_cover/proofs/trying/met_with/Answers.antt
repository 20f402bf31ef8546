use Rattle.vx_space.proofs.Spaces.{Extends-refl, Extends-trans}
use Rattle.vx_cover.proofs.Meeting.{IsPart-trans, IsPart-whole}
use Rattle.vx_cover.proofs.Opening.{open_at}
use Rattle.vx_cover.proofs.trying.met_with.Goals as goal

pub loop-target-init : goal.loop-target-init
loop-target-init g c = record {
  extends = Extends-refl (g.S.Space.sets c.args.space.now);
  part = IsPart-whole c.args.first c.requires.known c.requires.some;
}

pub met_with_one-requires-clause-known : goal.met_with_one-requires-clause-known
met_with_one-requires-clause-known g c = c.loop-target.invariant.part.known

pub met_with_one-requires-clause-some : goal.met_with_one-requires-clause-some
met_with_one-requires-clause-some g c = c.loop-target.invariant.part.some

pub met_with_one-requires-clause-other : goal.met_with_one-requires-clause-other
met_with_one-requires-clause-other g c = c.loop-target.invariant.extends.known _ (open_at (g.S.Space.sets c.args.space.now) c.args.targets.now c.loop-target.target-index c.target-item.result c.loop-target-test.true c.target-item.is c.requires.targets).0

pub returns-in_err-met-clause-extends : goal.returns-in_err-met-clause-extends
returns-in_err-met-clause-extends g c = Extends-trans c.loop-target.invariant.extends c.met_with_one.ensures.extends

pub loop-target-preserved : goal.loop-target-preserved
loop-target-preserved g c = record {
  extends = Extends-trans c.loop-target.invariant.extends c.in_ok-met.ensures.extends;
  part = IsPart-trans c.args.first c.loop-target.met c.in_ok-met.met c.loop-target.invariant.part c.in_ok-met.ensures.part;
}

pub returns-then-is_spent-clause-extends : goal.returns-then-is_spent-clause-extends
returns-then-is_spent-clause-extends g c = c.loop-target.invariant.extends

pub returns-then-is_spent-clause-part : goal.returns-then-is_spent-clause-part
returns-then-is_spent-clause-part g c = c.loop-target.invariant.part

pub returns-clause-extends : goal.returns-clause-extends
returns-clause-extends g c = c.loop-target.invariant.extends

pub returns-clause-part : goal.returns-clause-part
returns-clause-part g c = c.loop-target.invariant.part
