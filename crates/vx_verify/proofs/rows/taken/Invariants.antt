use Rattle.vx_verify.proofs.TakeLaws.{IsTaking}
use Rattle.vx_verify.proofs.rows.taken.Given as goal

abbrev pub invariant-loop-want : goal.invariant-loop-want
invariant-loop-want l = IsTaking l.program l.store l.wants l.fn.operands l.want-index l.under
