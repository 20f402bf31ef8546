use Rattle.std.proofs.Common.{sym, arith}
use Rattle.vx_report_line.proofs.Cuts.{cut_none, cut_slice}
use Rattle.vx_report_line.proofs.words.cut.Goals as goal

pub returns-then-byte-eq32 : goal.returns-then-byte-eq32
returns-then-byte-eq32 c = cut_slice _ _ c.loop-place-test.true c.loop-place.invariant c.if-byte-eq32.true

pub returns : goal.returns
returns c = sym (cut_none _ (λ k h. c.loop-place.invariant k (omega (arith, h, c.loop-place-test.false))))
