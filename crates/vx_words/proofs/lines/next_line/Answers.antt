use Rattle.std.proofs.Common.{sym, ◌∙◌}
use Rattle.vx_words.proofs.Parts.{line_answer, is_filled_list}
use Rattle.vx_words.proofs.lines.next_line.Goals as goal

pub returns-clause-some : goal.returns-clause-some
returns-clause-some c =
    line_answer _ _ _ _ _ _ (is_filled_list _ (sym c.is_empty.ensures ∙ c.if-is_empty.false)) c.line_length.ensures.value c.split_at.ensures.front c.split_at.ensures.back
    c.without_return.ensures c.behind_first.ensures
