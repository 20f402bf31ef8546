use Rattle.std.proofs.Common.{refl}
use Rattle.vx_check.proofs.Reading.{reads_done, reads_first, reads_more, reads_refuse}
use Rattle.vx_check.proofs.expected.expected_of.Goals as goal

pub loop-line-init : goal.loop-line-init
loop-line-init c = rw c.new-expected.ensures.items (reads_first c.args.names.now c.args.bytes.now)

pub returns-in-Err-clause-exact : goal.returns-in-Err-clause-exact
returns-in-Err-clause-exact c =
    rw c.fault_at.ensures
    (reads_refuse c.args.names.now c.args.bytes.now c.loop-line.expected.items c.loop-line.rest.now c.in-Some.line.now c.in-Some.after.now c.loop-line.number c.in-Err.refusal
    c.loop-line.invariant c.in-Some.ensures.some c.in-Err.ensures.said)

pub loop-line-preserved : goal.loop-line-preserved
loop-line-preserved c =
    reads_more c.args.names.now c.args.bytes.now c.loop-line.expected.items c.add.new.expected.items c.loop-line.rest.now c.in-Some.line.now c.in-Some.after.now c.loop-line.number
    c.in-Ok.said c.loop-line.invariant c.in-Some.ensures.some c.in-Some.ensures.shorter c.in-Ok.ensures.said c.in-Ok.ensures.of c.in_ok-add-in-Ok.ensures

pub returns-clause-exact : goal.returns-clause-exact
returns-clause-exact c = reads_done c.args.names.now c.args.bytes.now c.loop-line.expected.items c.loop-line.rest.now c.loop-line.number c.loop-line.invariant (c.in_default.ensures.none.0 refl)

pub returns-clause-of : goal.returns-clause-of
returns-clause-of c = c.loop-line.invariant.of
