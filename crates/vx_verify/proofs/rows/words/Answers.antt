use Rattle.std.proofs.Common.{ap, arith, sym, ◌∙◌}
use Rattle.vx_verify.proofs.StoreLaws.{top_there}
use Rattle.vx_verify.proofs.WordLaws.{counted_divided, counted_empty, counted_end, counted_unread, counting_start, counting_step}
use Rattle.vx_verify.specs.States.{readable_width}
use Rattle.vx_verify.proofs.rows.words.Goals as goal

pub loop-left-init : goal.loop-left-init
loop-left-init c = rw c.new-tops.ensures.items (counting_start c.args.store.now c.args.count c.args.operands c.requires.operands)

pub popped-requires : goal.popped-requires
popped-requires c = c.loop-left.invariant.within

pub returns-in_default : goal.returns-in_default
returns-in_default c =
    counted_empty c.args.store.now c.args.count c.args.operands c.loop-left.tops.items c.loop-left.under c.loop-left.left c.loop-left.invariant c.loop-left-test.true c.in_default.ensures.none

pub type_at-requires : goal.type_at-requires
type_at-requires c = top_there c.args.store.now c.loop-left.under c.in-Some.top c.in-Some.rest c.requires.store c.loop-left.invariant.within c.in-Some.ensures.some

pub returns-in_default-width : goal.returns-in_default-width
returns-in_default-width c =
    counted_unread c.args.store.now c.args.count c.args.operands c.loop-left.tops.items c.loop-left.under c.loop-left.left c.in-Some.top c.in-Some.rest c.loop-left.invariant c.loop-left-test.true
    c.in-Some.ensures.some (sym (ap readable_width c.type_at.ensures) ∙ sym c.in_default-width.ensures)

pub returns-then-width-left : goal.returns-then-width-left
returns-then-width-left c =
    counted_divided c.args.store.now c.args.count c.args.operands c.loop-left.tops.items c.loop-left.under c.loop-left.left c.in-Some.top c.in-Some.rest c.in-Some-width.width c.loop-left.invariant
    c.loop-left-test.true c.in-Some.ensures.some (sym (ap readable_width c.type_at.ensures) ∙ sym c.in-Some-width.ensures) c.if-width-left.true

pub loop-left-preserved : goal.loop-left-preserved
loop-left-preserved c =
    rw c.in_ok-push.ensures.items
    (counting_step c.args.store.now c.args.count c.args.operands c.loop-left.tops.items c.loop-left.under c.loop-left.left c.in-Some.top c.in-Some.rest c.in-Some-width.width c.requires.store
    c.loop-left.invariant c.loop-left-test.true c.in-Some.ensures.some c.in-Some.ensures.falls
    (top_there c.args.store.now c.loop-left.under c.in-Some.top c.in-Some.rest c.requires.store c.loop-left.invariant.within c.in-Some.ensures.some)
    (sym (ap readable_width c.type_at.ensures) ∙ sym c.in-Some-width.ensures) c.if-width-left.false)

pub returns : goal.returns
returns c =
    counted_end c.args.store.now c.args.count c.args.operands c.loop-left.tops.items c.loop-left.under c.loop-left.left c.loop-left.invariant (omega arith)
