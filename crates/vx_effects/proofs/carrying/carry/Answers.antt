use Rattle.vx_effects.proofs.Carried.{not_copy}
use Rattle.vx_effects.proofs.carrying.carry.Goals as goal

pub copied-requires-clause-held : goal.copied-requires-clause-held
copied-requires-clause-held g c = rw c.in-Copy.is at c.requires.held

pub returns-in-Copy-clause-done : goal.returns-in-Copy-clause-done
returns-in-Copy-clause-done g c = rw c.in-Copy.is c.copied.ensures.done

pub answered-requires-clause-one : goal.answered-requires-clause-one
answered-requires-clause-one g c = not_copy c.args.effect c.in_default.not-Copy
