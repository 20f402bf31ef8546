use Rattle.std.proofs.Common.{◌≡◌, ◌++◌, drop}
use Rattle.vx_compare.specs.Wide.{attempts_with, renumbered}
use Rattle.vx_compare.proofs.wide.numbered_attempts.Given as goal

abbrev pub invariant-loop-line : goal.invariant-loop-line
invariant-loop-line l = l.lines.items ++ renumbered attempts_with (drop l.line-index l.fn.attempts) l.rest ≡ renumbered attempts_with l.fn.attempts l.fn.numbers
