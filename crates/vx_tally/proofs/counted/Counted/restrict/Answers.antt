use Rattle.std.proofs.Common.{◌∙◌}
use Rattle.vx_tally.proofs.CountedLaws.{IsCountedOf-restricted}
use Rattle.vx_tally.proofs.counted.Counted.restrict.Goals as goal

pub returns-clause-ok : goal.returns-clause-ok
returns-clause-ok g c = rw (c.of.ensures, c.most.ensures) (IsCountedOf-restricted c.args.self.now c.args.within c.in_ok-scope.scope c.in_ok-tally.tally c.requires.valid c.in_ok-scope.ensures.extends (rw c.scope.ensures at c.in_ok-scope.ensures.ok) (c.in_ok-tally.ensures ∙ c.tally.ensures))
