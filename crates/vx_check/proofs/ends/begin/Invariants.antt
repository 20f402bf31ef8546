use Rattle.std.proofs.Common.{◌≡◌, drop}
use Rattle.vx_words.specs.Lines.{words}
use Rattle.vx_check.specs.Ends.{begin}
use Rattle.vx_check.proofs.ends.begin.Given as goal

abbrev pub invariant-loop-name : goal.invariant-loop-name
invariant-loop-name l = begin (drop l.name-index l.front) (words l.rest) ≡ begin l.front (words l.text)
