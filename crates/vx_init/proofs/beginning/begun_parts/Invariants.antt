use Rattle.vx_cond.specs.Leaves.{value_at}
use Rattle.vx_frames.proofs.TreeGathering.{IsGrowing}
use Rattle.vx_init.specs.Rising.{begun_by, rise_or_open}
use Rattle.vx_init.proofs.beginning.begun_parts.Given as goal

abbrev pub invariant-loop-leaf : goal.invariant-loop-leaf
invariant-loop-leaf g l = IsGrowing l.program (g.S.Space.sets l.fn.space) (g.S.Space.sets l.space) l.fn.callers l.callers l.fn.group (λ _ c. begun_by l.program l.class.0 (rise_or_open (value_at (g.S.Space.sets l.fn.space) l.rises c))) l.rises l.leaf-index l.rest l.outcomes.items.items
