use Rattle.vx_effects.proofs.Carried.{printed-done}
use Rattle.vx_effects.proofs.giving.print.Goals as goal

pub returns : goal.returns
returns g c = λ p condition sets v known held. printed-done p sets c.args.heap.now c.text_number.new.heap condition c.args.stream c.args.start c.args.units.items c.in_ok-number.number v (rw c.deref.ensures.value at c.in_ok-number.ensures)
