use Rattle.std.proofs.Common.{◌≡◌, map, take}
use Rattle.vx_source.specs.Operands.{case_of}
use Rattle.vx_source.proofs.operands.cases_of.Given as goal

abbrev pub invariant-loop-word : goal.invariant-loop-word
invariant-loop-word l = l.cases.items ≡ map case_of (take l.word-index l.words)
