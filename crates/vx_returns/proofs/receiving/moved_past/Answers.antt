use Rattle.std.proofs.Common.{arith, refl}
use Rattle.vx_returns.proofs.receiving.moved_past.Goals as goal

pub overflow_add-frame : goal.overflow_add-frame
overflow_add-frame g c = omega (arith, c.size_at.ensures.within)

pub put_top-requires-clause-scope : goal.put_top-requires-clause-scope
put_top-requires-clause-scope g c = rw c.take_top-below.ensures c.requires.scope

pub returns : goal.returns
returns g c = rw (c.put_top.ensures, c.size_at.ensures.size, c.take_top-below.ensures) refl
