use Rattle.std.proofs.Common.{◌≡◌, length}
use Rattle.std.specs.Prelude.{option_map}
use Rattle.vx_words.specs.Lines.{words}
use Rattle.vx_check.specs.Expected.{cut_at_when, with_front}
use Rattle.vx_check.proofs.expected.push_until_when.Given as goal

abbrev pub invariant-loop-word : goal.invariant-loop-word
invariant-loop-word l = option_map (with_front l.fn.end.items) (cut_at_when (words l.text)) ≡ option_map (with_front l.end.items) (cut_at_when (words l.rest))

abbrev pub decreases-loop-word : goal.decreases-loop-word
decreases-loop-word l = length l.rest
