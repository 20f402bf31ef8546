use Rattle.std.proofs.Common.{arith}
use Rattle.vx_flow.proofs.ReadLaws.{read_end, read_start, read_step}
use Rattle.vx_verify.proofs.StoreLaws.{top_there}
use Rattle.vx_flow.proofs.reading.operands_of.Goals as goal

pub loop-under-init : goal.loop-under-init
loop-under-init c = rw c.new-types.ensures.items (read_start c.args.store.now c.args.operands c.requires.operands)

pub popped-requires : goal.popped-requires
popped-requires c = c.loop-under.invariant.within

pub returns-in_default : goal.returns-in_default
returns-in_default c = read_end c.args.store.now c.args.operands c.loop-under.under c.loop-under.types.items c.loop-under.invariant c.in_default.ensures.none

pub type_at-requires : goal.type_at-requires
type_at-requires c = top_there c.args.store.now c.loop-under.under c.in-Some.top c.in-Some.rest c.requires.store c.loop-under.invariant.within c.in-Some.ensures.some

pub loop-under-preserved : goal.loop-under-preserved
loop-under-preserved c =
    rw c.in_ok-push.ensures.items
    (read_step c.args.store.now c.args.operands c.loop-under.under c.in-Some.top c.in-Some.rest c.loop-under.types.items c.type_at.result.now c.in_ok-copy.copy c.loop-under.invariant
    c.in-Some.ensures.some c.in-Some.ensures.falls c.type_at.ensures c.in_ok-copy.ensures)

pub returns : goal.returns
returns c = read_end c.args.store.now c.args.operands c.loop-under.under c.loop-under.types.items c.loop-under.invariant (omega arith)
