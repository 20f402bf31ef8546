use Rattle.std.proofs.Common.{◌∙◌, ◌-◌, ap, refl, sym}
use Rattle.std.specs.Prelude.{not}
use Rattle.vx_java.proofs.Chains.{quiet_above, quiet_goes_on, quiet_on, quiet_stops}
use Rattle.vx_java.proofs.Walks.{chain_from, chain_row}
use Rattle.vx_link.specs.Parts.{class_at}
use Rattle.vx_java.proofs.initialisation.quiet_chain.Goals as goal

pub returns-then-not-is_not : goal.returns-then-not-is_not
returns-then-not-is_not c =
    let p = c.args.program.now in
    let inits = c.args.states.now in
    let above = (class_at p c.in-Some.class.0).superclass in
    ap not c.is_failed.ensures
    ∙ sym
    (c.loop-left.invariant
    ∙ ap (quiet_on p inits) (chain_row p c.loop-left.left c.loop-left.next c.in-Some.class above c.in-Some.is c.loop-left-test.true refl)
    ∙ quiet_above p inits c.in-Some.class.0 (chain_from p (c.loop-left.left - 1) above) (sym c.is_not.ensures ∙ c.if-not-is_not.true))

pub returns-then-not-is_quiet : goal.returns-then-not-is_quiet
returns-then-not-is_quiet c =
    let p = c.args.program.now in
    let inits = c.args.states.now in
    let above = (class_at p c.in-Some.class.0).superclass in
    sym
    (c.loop-left.invariant
    ∙ ap (quiet_on p inits) (chain_row p c.loop-left.left c.loop-left.next c.in-Some.class above c.in-Some.is c.loop-left-test.true refl)
    ∙ quiet_stops p inits c.in-Some.class.0 (chain_from p (c.loop-left.left - 1) above) (sym c.is_not.ensures ∙ c.if-not-is_not.false) (sym c.is_quiet.ensures ∙ c.if-not-is_quiet.true))

pub loop-left-preserved : goal.loop-left-preserved
loop-left-preserved c =
    let p = c.args.program.now in
    let inits = c.args.states.now in
    c.loop-left.invariant
    ∙ ap (quiet_on p inits) (chain_row p c.loop-left.left c.loop-left.next c.in-Some.class c.superclass_of-next.result c.in-Some.is c.loop-left-test.true c.superclass_of-next.ensures)
    ∙ quiet_goes_on p inits c.in-Some.class.0 (chain_from p (c.loop-left.left - 1) c.superclass_of-next.result) (sym c.is_not.ensures ∙ c.if-not-is_not.false) (sym c.is_quiet.ensures ∙ c.if-not-is_quiet.false)
