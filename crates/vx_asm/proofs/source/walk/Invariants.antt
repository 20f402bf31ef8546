use Rattle.std.proofs.Common.{◌≡◌, drop}
use Rattle.vx_asm.specs.Source.{walk, nothing}
use Rattle.vx_asm.proofs.source.walk.Given as goal

abbrev pub invariant-loop-at : goal.invariant-loop-at
invariant-loop-at l = walk l.count l.draft (drop l.at l.lines) ≡ walk l.count nothing l.lines
