use Rattle.vx_space.proofs.Spaces.{Extends-refl, Extends-trans}
use Rattle.vx_cover.proofs.Blocked.{IsWhole-all, IsWhole-end, IsWhole-none, IsWhole-step}
use Rattle.vx_cover.proofs.Opening.{open_at}
use Rattle.vx_cover.proofs.blocks.whole_of.Goals as goal

pub loop-target-init : goal.loop-target-init
loop-target-init g c = record {
  extends = Extends-refl (g.S.Space.sets c.args.space.now);
  whole = rw c.never-whole.ensures (IsWhole-none (g.met.S.Space.lawful c.args.space.now));
}

pub returns-then-count-limit-clause-extends : goal.returns-then-count-limit-clause-extends
returns-then-count-limit-clause-extends g c = c.loop-target.invariant.extends

pub returns-then-count-limit-clause-whole : goal.returns-then-count-limit-clause-whole
returns-then-count-limit-clause-whole g c = rw c.always.ensures (IsWhole-all (g.met.S.Space.lawful c.loop-target.space) c.args.targets.now)

pub wider-requires-clause-whole : goal.wider-requires-clause-whole
wider-requires-clause-whole g c = c.loop-target.invariant.whole.known

pub wider-requires-clause-set : goal.wider-requires-clause-set
wider-requires-clause-set g c = c.loop-target.invariant.extends.known _ (open_at (g.S.Space.sets c.args.space.now) c.args.targets.now c.loop-target.target-index c.target-item.result c.loop-target-test.true c.target-item.is c.requires).0

pub returns-in_err-whole-clause-extends : goal.returns-in_err-whole-clause-extends
returns-in_err-whole-clause-extends g c = Extends-trans c.loop-target.invariant.extends c.wider.ensures.extends

pub loop-target-preserved : goal.loop-target-preserved
loop-target-preserved g c = record {
  extends = Extends-trans c.loop-target.invariant.extends c.in_ok-whole.ensures.extends;
  whole = IsWhole-step c.loop-target.invariant.extends c.in_ok-whole.ensures.extends c.args.targets.now c.loop-target.target-index c.target-item.result c.loop-target.whole c.in_ok-whole.whole c.loop-target-test.true c.target-item.is c.requires c.loop-target.invariant.whole c.in_ok-whole.ensures.wider;
}

pub returns-clause-extends : goal.returns-clause-extends
returns-clause-extends g c = c.loop-target.invariant.extends

pub returns-clause-whole : goal.returns-clause-whole
returns-clause-whole g c = IsWhole-end (g.S.Space.sets c.loop-target.space) c.args.targets.now c.loop-target.target-index c.loop-target.whole c.loop-target-test.false c.loop-target.invariant.whole
