use Rattle.vx_tally.proofs.CountedLaws.{IsCountedOf-joined}
use Rattle.vx_tally.proofs.counted.Counted.join.Goals as goal

pub returns-clause-ok : goal.returns-clause-ok
returns-clause-ok g c = rw c.of.ensures (IsCountedOf-joined c.args.self.now c.args.other.now c.in_ok-scope.scope c.in_ok-tally.tally _ c.requires.first c.requires.second c.in_ok-scope.ensures.extends (rw (c.scope.ensures, c.scope-2.ensures) at c.in_ok-scope.ensures.ok) c.in_ok-tally.ensures (rw (c.most.ensures, c.most-2.ensures) at c.max-most.ensures))
