use Rattle.std.proofs.Common.{◌≡◌, ◌-◌, [], length}
use Rattle.vx_source_words.specs.Reading.{steps}
use Rattle.vx_source_words.specs.Texts.{piece_step}
use Rattle.vx_source_words.proofs.texts.modified.Given as goal

abbrev pub invariant-loop : goal.invariant-loop
invariant-loop l = record {
  count : l.end ≡ length l.text;
  read : steps piece_step (l.out.items, l.rest) (l.end - l.counter) ≡ steps piece_step ([], l.text) (length l.text);
}
