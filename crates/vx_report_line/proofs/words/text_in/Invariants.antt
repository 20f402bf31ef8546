use Rattle.std.proofs.Common.{◌≡◌, length}
use Rattle.vx_report_line.specs.Parsing.{unspelled}
use Rattle.vx_report_line.proofs.Texts.{prefixed}
use Rattle.vx_report_line.proofs.words.text_in.Given as goal

-- what is read so far, before what is still to be read
abbrev pub invariant-loop-rest : goal.invariant-loop-rest
invariant-loop-rest l = prefixed l.bytes.items (unspelled l.least (length l.rest) l.rest) ≡ unspelled l.least (length l.text) l.text

abbrev pub decreases-loop-rest : goal.decreases-loop-rest
decreases-loop-rest l = length l.rest
