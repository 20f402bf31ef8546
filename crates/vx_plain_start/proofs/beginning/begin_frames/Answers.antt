use Rattle.std.proofs.Common.{ap, sym, ◌∙◌}
use Rattle.vx_java.specs.Step.{Live, fresh_progress, with_room}
use Rattle.vx_plain.specs.Views.{state_of}
use Rattle.vx_plain_ready.specs.Waiting.{numbers_of}
use Rattle.vx_plain_start.proofs.Laws.{over}
use Rattle.vx_plain_start.proofs.beginning.begin_frames.Goals as goal

pub returns-then-too_many : goal.returns-then-too_many
returns-then-too_many c =
    let s = state_of c.args.state.now in
    over c.in_ok-overflow_end.field-0 _ s _ (ap (with_room c.args.program.now s (numbers_of c.args.chain.now)) (sym c.too_many.ensures ∙ c.if-too_many.true)) c.in_ok-overflow_end.ensures

pub returns : goal.returns
returns c =
    ap (with_room c.args.program.now (state_of c.args.state.now) (numbers_of c.args.chain.now)) (sym c.too_many.ensures ∙ c.if-too_many.false)
    ∙ ap (λ s. Live (fresh_progress s)) (sym c.in_ok-push_chain.ensures)
