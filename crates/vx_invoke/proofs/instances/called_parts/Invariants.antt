use Rattle.vx_cond.specs.Leaves.{value_at}
use Rattle.vx_frames.proofs.TreeGathering.{IsGrowing}
use Rattle.vx_invoke.specs.Called.{call_or_illegal, called_with}
use Rattle.vx_invoke.proofs.instances.called_parts.Given as goal

abbrev pub invariant-loop-leaf : goal.invariant-loop-leaf
invariant-loop-leaf g l = IsGrowing l.site.program.now (g.S.Space.sets l.fn.space) (g.S.Space.sets l.space) l.fn.callers l.callers l.fn.group (λ _ c. called_with l.site l.count (call_or_illegal (value_at (g.S.Space.sets l.fn.space) l.calls c))) l.calls l.leaf-index l.rest l.outcomes.items.items
