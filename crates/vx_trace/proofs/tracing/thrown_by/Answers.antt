use Rattle.std.proofs.Common.{subst, sym}
use Rattle.std.specs.Prelude.{IfOk, option_map, ◌≡◌}
use Rattle.vx_java.specs.Step.{start, steps}
use Rattle.vx_noted.specs.Runs.{left_of}
use Rattle.vx_trace.proofs.Ended.{nothing_thrown, over_by_end}
use Rattle.vx_trace.specs.TraceText.{thrown_by}
use Rattle.vx_value.specs.declared.end.End.{End}
use Rattle.vx_trace.proofs.tracing.thrown_by.Goals as goal

pub what_leaves-requires-clause-over : goal.what_leaves-requires-clause-over
what_leaves-requires-clause-over c =
    let o = c.args.origin.now in
    over_by_end (steps o.program.now o.limit (start o.program.now o.config.now)) c.args.replay.now.end _ c.requires.end c.in-Uncaught.is

pub returns-in-Uncaught : goal.returns-in-Uncaught
returns-in-Uncaught c =
    let o = c.args.origin.now in
    subst (λ (e : End). IfOk c.what_leaves.result (λ left. option_map left_of left ≡ thrown_by o.program.now (steps o.program.now o.limit (start o.program.now o.config.now)) e)) (sym c.in-Uncaught.is) c.what_leaves.ensures

pub returns-in_default : goal.returns-in_default
returns-in_default c =
    let o = c.args.origin.now in
    nothing_thrown o.program.now (steps o.program.now o.limit (start o.program.now o.config.now)) c.args.replay.now.end c.in_default.not-Uncaught
