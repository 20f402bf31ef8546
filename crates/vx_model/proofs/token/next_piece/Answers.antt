use Rattle.std.proofs.Common.{sym, ◌∙◌}
use Rattle.vx_model.proofs.Pieces.{piece_answer, none_answer}
use Rattle.vx_model.proofs.token.next_piece.Goals as goal

pub returns-then-is_empty-clause-none : goal.returns-then-is_empty-clause-none
returns-then-is_empty-clause-none c = λ _. none_answer c.args.text.now _ c.skip_blanks-text.ensures.value (sym c.is_empty.ensures ∙ c.if-is_empty.true)

pub returns-clause-some : goal.returns-clause-some
returns-clause-some c =
    piece_answer c.args.text.now _ _ _ _ c.skip_blanks-text.ensures.value (sym c.is_empty.ensures ∙ c.if-is_empty.false) c.piece_length.ensures.value
    c.split_at.ensures.front c.split_at.ensures.back
