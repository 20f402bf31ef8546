use Rattle.vx_linker.proofs.Texts.{none_known}
use Rattle.vx_linker.proofs.shared_texts.SharedTexts.none.Goals as goal

pub returns : goal.returns
returns c = rw c.loop-place.invariant (none_known c.args.pool.now c.loop-place._place)
