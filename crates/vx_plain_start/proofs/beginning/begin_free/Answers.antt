use Rattle.std.proofs.Common.{ap, sym, ◌∙◌}
use Rattle.vx_java.specs.Step.{Live, fresh_progress, if_quiet}
use Rattle.vx_plain.specs.Views.{state_of}
use Rattle.vx_plain_ready.specs.Waiting.{numbers_of}
use Rattle.vx_plain_start.proofs.Laws.{began_as}
use Rattle.vx_plain_start.proofs.beginning.begin_free.Goals as goal

pub returns-then-is_quiet : goal.returns-then-is_quiet
returns-then-is_quiet c =
    ap (if_quiet c.args.program.now (state_of c.args.state.now) (numbers_of c.args.chain.now)) (sym c.is_quiet.ensures ∙ c.if-is_quiet.true)
    ∙ ap (λ s. Live (fresh_progress s)) (sym c.mark.ensures)

pub returns : goal.returns
returns c =
    began_as c.begin_frames.result _ _ _ _ (ap (if_quiet c.args.program.now (state_of c.args.state.now) (numbers_of c.args.chain.now)) (sym c.if-is_quiet.false ∙ c.is_quiet.ensures)) c.begin_frames.ensures
