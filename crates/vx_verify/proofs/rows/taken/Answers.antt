use Rattle.std.proofs.Common.{arith, sym, ◌∙◌}
use Rattle.std.proofs.Math.ListN.{drop_of_length-le}
use Rattle.vx_verify.proofs.StoreLaws.{top_there}
use Rattle.vx_verify.proofs.TakeLaws.{taking_end, taking_none, taking_other, taking_start, taking_step}
use Rattle.vx_verify.proofs.rows.taken.Goals as goal

pub loop-want-init : goal.loop-want-init
loop-want-init c = taking_start c.args.program.now c.args.store.now c.args.wants.now c.args.operands c.requires.operands

pub popped-requires : goal.popped-requires
popped-requires c = c.loop-want.invariant.within

pub returns-in_default-clause-value : goal.returns-in_default-clause-value
returns-in_default-clause-value c =
    taking_none c.args.program.now c.args.store.now c.args.wants.now c.args.operands c.loop-want.want-index c.loop-want.under c.want-item.result c.loop-want.invariant c.loop-want-test.true
    c.want-item.is c.in_default.ensures.none

pub type_at-requires : goal.type_at-requires
type_at-requires c = top_there c.args.store.now c.loop-want.under c.in-Some.top c.in-Some.rest c.requires.store c.loop-want.invariant.within c.in-Some.ensures.some

pub returns-then-not-meets-clause-value : goal.returns-then-not-meets-clause-value
returns-then-not-meets-clause-value c =
    taking_other c.args.program.now c.args.store.now c.args.wants.now c.args.operands c.loop-want.want-index c.loop-want.under c.in-Some.top c.in-Some.rest c.want-item.result
    c.loop-want.invariant c.loop-want-test.true c.want-item.is c.in-Some.ensures.some (rw c.type_at.ensures at (sym c.meets.ensures ∙ c.if-not-meets.true))

pub loop-want-preserved : goal.loop-want-preserved
loop-want-preserved c =
    taking_step c.args.program.now c.args.store.now c.args.wants.now c.args.operands c.loop-want.want-index c.loop-want.under c.in-Some.top c.in-Some.rest c.want-item.result
    c.loop-want.invariant c.loop-want-test.true c.want-item.is c.in-Some.ensures.some c.in-Some.ensures.falls (rw c.type_at.ensures at (sym c.meets.ensures ∙ c.if-not-meets.false))

pub returns-clause-value : goal.returns-clause-value
returns-clause-value c =
    taking_end c.args.program.now c.args.store.now c.args.wants.now c.args.operands c.loop-want.want-index c.loop-want.under c.loop-want.invariant
    (drop_of_length-le c.args.wants.now (omega arith))

pub returns-clause-within : goal.returns-clause-within
returns-clause-within c = c.loop-want.invariant.within
