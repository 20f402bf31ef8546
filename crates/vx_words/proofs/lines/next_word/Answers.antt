use Rattle.std.proofs.Common.{sym, ◌∙◌, refl}
use Rattle.vx_words.proofs.Parts.{word_answer, none_answer, shorter_answer, behind_answer}
use Rattle.vx_words.proofs.lines.next_word.Goals as goal

pub returns-then-is_empty-clause-none : goal.returns-then-is_empty-clause-none
returns-then-is_empty-clause-none c =
    (λ _. none_answer c.args.line.now _ (sym c.is_empty.ensures ∙ c.if-is_empty.true) c.skip_blanks-text.ensures.value, λ _. refl)

pub returns-clause-none : goal.returns-clause-none
returns-clause-none c =
    let found =
    word_answer c.args.line.now _ _ _ _ (sym c.is_empty.ensures ∙ c.if-is_empty.false) c.skip_blanks-text.ensures.value c.word_length.ensures.value c.split_at.ensures.front c.split_at.ensures.back
    in (λ none. cc, λ none. cc)

pub returns-clause-some : goal.returns-clause-some
returns-clause-some c =
    word_answer c.args.line.now _ _ _ _ (sym c.is_empty.ensures ∙ c.if-is_empty.false) c.skip_blanks-text.ensures.value c.word_length.ensures.value c.split_at.ensures.front c.split_at.ensures.back

pub returns-clause-behind : goal.returns-clause-behind
returns-clause-behind c = behind_answer c.args.line.now _ _ _ c.skip_blanks-text.ensures.value c.word_length.ensures.value c.split_at.ensures.back

pub returns-clause-shorter : goal.returns-clause-shorter
returns-clause-shorter c =
    shorter_answer c.args.line.now _ _ _ (sym c.is_empty.ensures ∙ c.if-is_empty.false) c.skip_blanks-text.ensures.value c.word_length.ensures.value c.word_length.ensures.within
    c.split_at.ensures.back c.skip_blanks-text.ensures.within
