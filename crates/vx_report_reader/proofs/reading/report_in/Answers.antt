use Rattle.std.proofs.Common.{rules, ◌≡◌, ◌<◌, length}
use Rattle.vx_report_reader.proofs.Progress.{goes_on, bad_text, bad_end, all_read, nil, not_nil}
use Rattle.vx_report_reader.proofs.reading.report_in.Goals as goal

pub returns-in_default-2-clause-fault : goal.returns-in_default-2-clause-fault
returns-in_default-2-clause-fault c =
    bad_text c.args.bytes.now c.loop-text.rest.now c.in-Some.text.now c.in-Some.after.now c.loop-text.line c.loop-text.stage
    c.loop-text.invariant c.in-Some.ensures.0 c.in-Some.ensures.1 (rw c.in_default-2.is at c.in_ok-next.ensures)

pub loop-text-preserved : goal.loop-text-preserved
loop-text-preserved c =
    goes_on c.args.bytes.now c.loop-text.rest.now c.in-Some.text.now c.in-Some.after.now c.loop-text.line c.loop-text.stage c.in-Some-2.next
    c.loop-text.invariant c.in-Some.ensures.0 (rw c.in-Some-2.is at c.in_ok-next.ensures)

pub returns-then-not-is_empty-clause-fault : goal.returns-then-not-is_empty-clause-fault
returns-then-not-is_empty-clause-fault c =
    let some : 0 < length c.loop-text.rest.now = search rules in
    bad_end c.args.bytes.now c.loop-text.rest.now c.loop-text.line c.loop-text.stage c.loop-text.invariant c.in_default.ensures
    (λ e w. not_nil c.loop-text.rest.now some e)

pub returns-in_default-whole_report-clause-fault : goal.returns-in_default-whole_report-clause-fault
returns-in_default-whole_report-clause-fault c =
    bad_end c.args.bytes.now c.loop-text.rest.now c.loop-text.line c.loop-text.stage c.loop-text.invariant c.in_default.ensures
    (λ e w. c.in_default-whole_report.ensures w)

pub returns-clause-found : goal.returns-clause-found
returns-clause-found c =
    let none : length c.loop-text.rest.now ≡ 0 = search rules in
    all_read c.args.bytes.now c.loop-text.rest.now c.loop-text.line c.loop-text.stage c.in-Some-whole_report.report c.loop-text.invariant
    (nil c.loop-text.rest.now none) c.in-Some-whole_report.ensures
