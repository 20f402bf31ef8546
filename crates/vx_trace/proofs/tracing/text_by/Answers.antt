use Rattle.vx_java.specs.Step.{start}
use Rattle.vx_trace.proofs.Ended.{of_end, of_exception}
use Rattle.vx_trace.proofs.tracing.text_by.Goals as goal

pub returns-in-Some : goal.returns-in-Some
returns-in-Some c =
    let o = c.args.origin.now in
    of_exception o.program.now o.tables.now o.files.now o.limit (start o.program.now o.config.now) c.args.replay.now c.exception_text.result c.requires c.in-Some.left (rw c.in-Some.is at c.in_ok-left.ensures) c.exception_text.ensures

pub returns-in-None : goal.returns-in-None
returns-in-None c =
    let o = c.args.origin.now in
    of_end o.program.now o.tables.now o.files.now o.limit (start o.program.now o.config.now) c.args.replay.now c.end_text.result c.requires (rw c.in-None.is at c.in_ok-left.ensures) c.end_text.ensures
