use Rattle.std.proofs.Common.{length, ◌≡◌}
use Rattle.vx_words.specs.Lines.{words}
use Rattle.vx_refusals.specs.Slips.{has_word}
use Rattle.vx_refusals.proofs.slips.has_word.Given as goal

abbrev pub invariant-loop-first : goal.invariant-loop-first
invariant-loop-first l = has_word l.word (words l.line) ≡ has_word l.word (words l.rest)

abbrev pub decreases-loop-first : goal.decreases-loop-first
decreases-loop-first l = length l.rest
