use Rattle.std.proofs.Common.{◌∙◌, ◌-◌, ap, refl, sym}
use Rattle.vx_java.proofs.Walks.{chain_from, chain_row}
use Rattle.vx_link.specs.Parts.{class_at}
use Rattle.vx_plain_ready.proofs.Laws.{failed_above, failed_goes_on, failed_on}
use Rattle.vx_plain_ready.proofs.above.is_below_failed.Goals as goal

pub returns-then-not-is_not : goal.returns-then-not-is_not
returns-then-not-is_not c =
    let p = c.args.program.now in
    let inits = c.args.inits.now in
    let above = (class_at p c.in-Some.class.0).superclass in
    c.is_failed.ensures
    ∙ sym
    (c.loop-left.invariant
    ∙ ap (failed_on inits) (chain_row p c.loop-left.left c.loop-left.next c.in-Some.class above c.in-Some.is c.loop-left-test.true refl)
    ∙ failed_above inits c.in-Some.class.0 (chain_from p (c.loop-left.left - 1) above) (sym c.is_not.ensures ∙ c.if-not-is_not.true))

pub loop-left-preserved : goal.loop-left-preserved
loop-left-preserved c =
    let p = c.args.program.now in
    let inits = c.args.inits.now in
    c.loop-left.invariant
    ∙ ap (failed_on inits) (chain_row p c.loop-left.left c.loop-left.next c.in-Some.class c.superclass_of-next.result c.in-Some.is c.loop-left-test.true c.superclass_of-next.ensures)
    ∙ failed_goes_on inits c.in-Some.class.0 (chain_from p (c.loop-left.left - 1) c.superclass_of-next.result) (sym c.is_not.ensures ∙ c.if-not-is_not.false)
