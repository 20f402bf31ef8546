use Rattle.std.proofs.Common.{◌≡◌, ◌+◌, ◌≤◌, ◌++◌, length}
use Rattle.vx_words.specs.Lines.{lines}
use Rattle.vx_source.specs.Lines.{numbered}
use Rattle.vx_source.proofs.lines.read_source.Given as goal

abbrev pub invariant-loop-line : goal.invariant-loop-line
invariant-loop-line l = record {
  within : l.count + length l.rest ≤ length l.bytes;
  so_far : l.count + length (lines l.rest) ≡ length (lines l.bytes);
  front : l.lines.items ++ numbered (l.count + 1) (lines l.rest) ≡ numbered 1 (lines l.bytes);
}

abbrev pub decreases-loop-line : goal.decreases-loop-line
decreases-loop-line l = length l.rest
