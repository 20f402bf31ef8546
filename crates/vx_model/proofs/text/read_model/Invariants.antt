use Rattle.std.proofs.Common.{length}
use Rattle.vx_model.specs.Drafts.{drafted}
use Rattle.vx_model.proofs.Lines.{ReadsOn}
use Rattle.vx_model.proofs.text.read_model.Given as goal

abbrev pub invariant-loop-line : goal.invariant-loop-line
invariant-loop-line l = ReadsOn l.bytes (drafted l.draft) l.rest l.number

abbrev pub decreases-loop-line : goal.decreases-loop-line
decreases-loop-line l = length l.rest
