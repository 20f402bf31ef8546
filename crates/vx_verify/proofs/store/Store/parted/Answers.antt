use Rattle.vx_verify.proofs.JoinLaws.{no_first, no_second, parted_end, parted_start, parted_step}
use Rattle.vx_verify.proofs.store.Store.parted.Goals as goal

pub loop-left-init : goal.loop-left-init
loop-left-init c = rw c.new-apart.ensures.items (parted_start c.args.self.now c.args.one c.args.other c.requires.one c.requires.other)

pub returns-in_default : goal.returns-in_default
returns-in_default c =
    no_first c.args.self.now c.args.one c.args.other c.loop-left.apart.items c.loop-left.left c.loop-left.right c.loop-left.invariant c.loop-left-test.true c.in_default.ensures.none

pub returns-in_default-popped : goal.returns-in_default-popped
returns-in_default-popped c =
    no_second c.args.self.now c.args.one c.args.other c.loop-left.apart.items c.loop-left.left c.loop-left.right c.loop-left.invariant c.loop-left-test.true c.in_default-popped.ensures.none

pub loop-left-preserved : goal.loop-left-preserved
loop-left-preserved c =
    rw c.in_ok-push.ensures.items
    (parted_step c.args.self.now c.args.one c.args.other c.loop-left.apart.items c.loop-left.left c.loop-left.right c.in-Some.top c.in-Some.under c.in-Some-popped.another c.in-Some-popped.rest
    c.requires.store c.loop-left.invariant c.in-Some.ensures.some c.in-Some.ensures.falls c.in-Some-popped.ensures.some c.in-Some-popped.ensures.falls)

pub returns : goal.returns
returns c = parted_end c.args.self.now c.args.one c.args.other c.loop-left.apart.items c.loop-left.left c.loop-left.right c.loop-left.invariant c.loop-left-test.false
