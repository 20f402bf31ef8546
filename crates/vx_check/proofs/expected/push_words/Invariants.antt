use Rattle.std.proofs.Common.{◌≡◌, ◌++◌, length}
use Rattle.vx_words.specs.Lines.{words}
use Rattle.vx_check.proofs.expected.push_words.Given as goal

abbrev pub invariant-loop-word : goal.invariant-loop-word
invariant-loop-word l = l.found.items ++ words l.rest ≡ l.fn.found.items ++ words l.text

abbrev pub decreases-loop-word : goal.decreases-loop-word
decreases-loop-word l = length l.rest
