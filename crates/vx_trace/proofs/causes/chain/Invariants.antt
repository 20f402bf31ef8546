use Rattle.vx_plain.specs.Views.{state_of}
use Rattle.vx_trace.proofs.Chained.{IsTelling}
use Rattle.vx_trace.specs.TraceText.{cause_bound, chain}
use Rattle.vx_trace.proofs.causes.chain.Given as goal

abbrev pub invariant-loop-cause : goal.invariant-loop-cause
invariant-loop-cause l = IsTelling (state_of l.state) cause_bound (chain (state_of l.state) l.object) l.told.items l.last l._cause
