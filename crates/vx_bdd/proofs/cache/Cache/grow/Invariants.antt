use Rattle.vx_bdd.specs.Apply.{AreStillRight}
use Rattle.vx_bdd.proofs.cache.Cache.grow.Given as goal

abbrev pub invariant-loop-place : goal.invariant-loop-place
invariant-loop-place l = AreStillRight l.fn.self.answers.items l.self.answers.items
