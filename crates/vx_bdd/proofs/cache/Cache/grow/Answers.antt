use Rattle.vx_bdd.proofs.CacheLaws.{AreStillRight-trans, AreStillRight-more}
use Rattle.vx_bdd.proofs.cache.Cache.grow.Goals as goal

pub loop-place-init : goal.loop-place-init
loop-place-init c = rw c.in_ok-resize.ensures.items (AreStillRight-more _ _ _)

pub loop-place-preserved : goal.loop-place-preserved
loop-place-preserved c = AreStillRight-trans c.loop-place.invariant c.place_again.ensures
