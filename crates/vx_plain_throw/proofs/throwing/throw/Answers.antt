use Rattle.std.proofs.Common.{ap, sym, ◌∙◌}
use Rattle.vx_java.specs.Step.{frames_of}
use Rattle.vx_java.specs.Throwing.{next_after_throw}
use Rattle.vx_plain.specs.Views.{state_of}
use Rattle.vx_plain_throw.proofs.Laws.{ended, ends_uncaught}
use Rattle.vx_plain_throw.specs.Passing.{uncaught_over}
use Rattle.vx_plain_throw.proofs.throwing.throw.Goals as goal

pub returns-in_ok-end-in-Some : goal.returns-in_ok-end-in-Some
returns-in_ok-end-in-Some c =
    let p = c.args.program.now in
    let s = state_of c.args.state.now in
    ended c.in_ok-end-in-Some.field-0 (next_after_throw p s c.args.object) s _ c.in_ok-end-in-Some.ensures (ends_uncaught p s.callers s c.args.object c.in-Some.class.0 (sym (c.in-Some.ensures ∙ ap (uncaught_over p (frames_of s)) c.class_of.ensures)))

pub go_on-requires-clause-handled : goal.go_on-requires-clause-handled
go_on-requires-clause-handled c =
    let p = c.args.program.now in
    let s = state_of c.args.state.now in
    c.in-None.ensures ∙ ap (uncaught_over p (frames_of s)) c.class_of.ensures
