use Rattle.std.proofs.Common.{◌≡◌, ◌-◌, [], length}
use Rattle.vx_source_words.specs.Reading.{steps}
use Rattle.vx_source_words.specs.Tokens.{word_step}
use Rattle.vx_source_words.proofs.words.tokens.Given as goal

abbrev pub invariant-loop : goal.invariant-loop
invariant-loop l = record {
  count : l.end ≡ length l.line;
  read : steps word_step (l.words.items, l.rest) (l.end - l.counter) ≡ steps word_step ([], l.line) (length l.line);
}
