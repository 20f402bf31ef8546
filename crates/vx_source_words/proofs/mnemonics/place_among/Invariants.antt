use Rattle.std.proofs.Common.{◌≡◌, ◌+◌, ◌≤◌, length}
use Rattle.std.specs.List.{position_from}
use Rattle.std.specs.Str.{bytes_eq}
use Rattle.vx_words.specs.Lines.{words}
use Rattle.vx_source_words.proofs.mnemonics.place_among.Given as goal

abbrev pub invariant-loop-name : goal.invariant-loop-name
invariant-loop-name l = record {
  within : l.place + length l.rest ≤ length l.names;
  same : position_from (λ name. bytes_eq name l.word) l.place (words l.rest) ≡ position_from (λ name. bytes_eq name l.word) 0 (words l.names);
}

abbrev pub decreases-loop-name : goal.decreases-loop-name
decreases-loop-name l = length l.rest
