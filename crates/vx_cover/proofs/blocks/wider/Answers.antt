use Rattle.vx_cover.proofs.Blocked.{IsWider-all, IsWider-or}
use Rattle.vx_cover.proofs.blocks.wider.Goals as goal

pub returns-in_default-clause-wider : goal.returns-in_default-clause-wider
returns-in_default-clause-wider g c = rw c.always.ensures (IsWider-all (g.S.Space.sets c.args.space.now) (g.met.S.Space.lawful c.or_within.new.space) c.args.whole c.args.set)

pub returns-clause-wider : goal.returns-clause-wider
returns-clause-wider g c = IsWider-or c.args.whole c.args.set c.in-Some.either (rw c.in-Some.is at c.in_ok-found.ensures.set)
