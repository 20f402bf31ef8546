use Rattle.std.proofs.Common.{length}
use Rattle.vx_dimacs.specs.Draft.{drafted}
use Rattle.vx_dimacs.proofs.Following.{ReadsOn}
use Rattle.vx_dimacs.proofs.text.read_dimacs.Given as goal

abbrev pub invariant-loop-text : goal.invariant-loop-text
invariant-loop-text l = ReadsOn l.bytes l.most (drafted l.draft) l.rest l.number

abbrev pub decreases-loop-text : goal.decreases-loop-text
decreases-loop-text l = length l.rest
