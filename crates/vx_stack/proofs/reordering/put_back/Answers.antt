use Rattle.vx_value.specs.Slot.{slot_cmp}
use Rattle.vx_space.proofs.Spaces.{Extends-trans}
use Rattle.vx_cond.proofs.RowLaws.{IsRow-extends}
use Rattle.vx_stack.proofs.OrderLaws.{doubled-at, swapped-at}
use Rattle.vx_stack.proofs.reordering.put_back.Goals as goal

pub put_on-requires-in-Swapped-clause-values : goal.put_on-requires-in-Swapped-clause-values
put_on-requires-in-Swapped-clause-values g c = IsRow-extends slot_cmp c.in_ok-put_on-in-Swapped.ensures.extends c.args.under.now c.requires.under

pub put_on-requires-in-Doubled-2-clause-values : goal.put_on-requires-in-Doubled-2-clause-values
put_on-requires-in-Doubled-2-clause-values g c = IsRow-extends slot_cmp c.in_ok-put_on-in-Doubled.ensures.extends c.args.under.now c.requires.under

pub put_on-requires-in-Doubled-3-clause-values : goal.put_on-requires-in-Doubled-3-clause-values
put_on-requires-in-Doubled-3-clause-values g c = IsRow-extends slot_cmp (Extends-trans c.in_ok-put_on-in-Doubled.ensures.extends c.in_ok-put_on-in-Doubled-2.ensures.extends) c.args.above.now c.requires.above

pub returns-in_ok-put_on-in-Swapped-2-clause-at : goal.returns-in_ok-put_on-in-Swapped-2-clause-at
returns-in_ok-put_on-in-Swapped-2-clause-at g c =
    let first = c.in_ok-put_on-in-Swapped.ensures in
    rw c.in-Swapped.is (swapped-at (g.S.Space.sets c.put_on-in-Swapped.new.space) first.extends c.args.stack.now c.put_on.new.stack c.put_on-in-Swapped.new.stack c.args.above.now c.args.under.now c.requires.under first.at c.in_ok-put_on-in-Swapped-2.ensures.at)

pub returns-in_ok-put_on-in-Doubled-3-clause-at : goal.returns-in_ok-put_on-in-Doubled-3-clause-at
returns-in_ok-put_on-in-Doubled-3-clause-at g c =
    let first = c.in_ok-put_on-in-Doubled.ensures in
    let second = c.in_ok-put_on-in-Doubled-2.ensures in
    rw c.in-Doubled.is (doubled-at (g.S.Space.sets c.put_on-in-Doubled-3.new.space) first.extends second.extends c.args.stack.now c.put_on-in-Doubled.new.stack c.put_on-in-Doubled-2.new.stack c.put_on-in-Doubled-3.new.stack c.args.above.now c.args.under.now c.requires.above c.requires.under first.at second.at c.in_ok-put_on-in-Doubled-3.ensures.at)
