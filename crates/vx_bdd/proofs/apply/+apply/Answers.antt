use Rattle.std.proofs.Common.{◌<◌, sym, ◌∙◌, arith}
use Rattle.vx_bdd.proofs.ApplyLaws.{AreRight-grows, IsAnswer-end, IsAnswer-made, part_above, second_falls}
use Rattle.vx_bdd.proofs.PlainLaws.{IsAnswer-plain}
use Rattle.vx_bdd.proofs.TableLaws.{Grows-refl, Grows-trans, stored-grows}
use Rattle.vx_bdd.proofs.apply.+apply.Goals as goal

pub returns-in-Some-clause-ok : goal.returns-in-Some-clause-ok
returns-in-Some-clause-ok t c = IsAnswer-plain c.args.table.now.reduced c.args.op c.args.a c.args.b c.in-Some.plain c.requires.first c.requires.second c.in-Some.ensures

pub returns-then-option-table-clause-ok : goal.returns-then-option-table-clause-ok
returns-then-option-table-clause-ok t c = rw c.end_of.ensures (IsAnswer-end c.args.op c.args.table.now.reduced c.args.a c.args.b c.value_of_op.result c.requires.first c.requires.second (sym (rw (c.asked-first.ensures.level, c.asked-second.ensures.level) at c.min-option.ensures) ∙ c.if-option-table.true) c.value_of_op.ensures)

pub make-requires-clause-low_later : goal.make-requires-clause-low_later
make-requires-clause-low_later t c = rw (c.in_ok-high.ensures.options, c.in_ok-low.ensures.options) (part_above c.args.op c.in_ok-low.ensures.grows c.in_ok-high.ensures.grows c.min-option.result _ _ c.in_ok-low.low c.parts-a_low.ensures.low_stored c.parts-b_low.ensures.low_stored c.parts-a_low.ensures.low_later c.parts-b_low.ensures.low_later c.in_ok-low.ensures.ok)

pub make-requires-clause-high_later : goal.make-requires-clause-high_later
make-requires-clause-high_later t c = rw (c.in_ok-high.ensures.options, c.in_ok-low.ensures.options) (part_above c.args.op (Grows-trans c.in_ok-low.ensures.grows c.in_ok-high.ensures.grows) (Grows-refl _) c.min-option.result _ _ c.in_ok-high.high c.parts-a_low.ensures.high_stored c.parts-b_low.ensures.high_stored c.parts-a_low.ensures.high_later c.parts-b_low.ensures.high_later (rw c.in_ok-low.ensures.options at c.in_ok-high.ensures.ok))

pub returns-clause-ok : goal.returns-clause-ok
returns-clause-ok t c =
    let options = c.in_ok-high.ensures.options ∙ c.in_ok-low.ensures.options in
    IsAnswer-made c.args.op c.args.table.now.reduced (rw c.in_ok-low.ensures.options at c.apply.new.table.reduced) (rw options at c.apply-2.new.table.reduced) c.in_ok-low.ensures.grows c.in_ok-high.ensures.grows c.in_ok-id.ensures.grows c.args.a c.args.b c.min-option.result _ _ _ _ c.in_ok-low.low c.in_ok-high.high c.in_ok-id.id c.requires.first c.requires.second (rw (c.asked-first.ensures.level, c.asked-second.ensures.level) at c.min-option.ensures) c.parts-a_low.ensures c.parts-b_low.ensures c.in_ok-low.ensures.ok (rw c.in_ok-low.ensures.options at c.in_ok-high.ensures.ok) (rw options at c.in_ok-id.ensures.ok)

pub apply-requires-2 : goal.apply-requires-2
apply-requires-2 t c =
    let least = rw (c.asked-first.ensures.level, c.asked-second.ensures.level) at c.min-option.ensures in
    let d = c.decreases in
    let g = c.in_ok-low.ensures.grows in
    let lower : c.min-option.result < c.args.table.now.options = omega (arith, c.if-option-table.false, c.asked-first.ensures.at_most, c.min-option.ensures) in
    let f = second_falls g c.args.a c.args.b c.min-option.result c.parts-a_low.result.1 c.parts-b_low.result.1 c.parts-a_low.ensures.high_stored c.parts-b_low.ensures.high_stored least lower c.parts-a_low.ensures.high_later c.parts-b_low.ensures.high_later in
    (rw (c.in_ok-low.ensures.options) (rw d at f), (stored-grows g _ c.parts-a_low.ensures.high_stored, (stored-grows g _ c.parts-b_low.ensures.high_stored, c.in_ok-low.ensures.right)))

pub returns-in_err-id-clause-right : goal.returns-in_err-id-clause-right
returns-in_err-id-clause-right t c = rw c.make.ensures.options (AreRight-grows c.args.op c.apply-2.new.table.reduced c.make.ensures.grows _ c.in_ok-high.ensures.right)

pub returns-clause-right : goal.returns-clause-right
returns-clause-right t c =
    let options = c.in_ok-id.ensures.options ∙ c.in_ok-high.ensures.options ∙ c.in_ok-low.ensures.options in
    c.put.ensures.right _ _ _ c.make.new.self.reduced (rw c.in_ok-id.ensures.options (AreRight-grows c.args.op c.apply-2.new.table.reduced c.in_ok-id.ensures.grows _ c.in_ok-high.ensures.right)) (rw options (returns-clause-ok t c))
