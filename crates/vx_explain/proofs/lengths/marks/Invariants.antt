use Rattle.std.proofs.Common.{◌≡◌, length, take}
use Rattle.vx_explain.specs.Candidates.{marks}
use Rattle.vx_explain.proofs.lengths.marks.Given as goal

abbrev pub invariant-loop-sign : goal.invariant-loop-sign
invariant-loop-sign l = l.count ≡ length (marks (take l.sign-index l.signs))
