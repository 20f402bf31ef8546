use Rattle.vx_group_states.specs.Sites.{settled_by}
use Rattle.vx_group_states.proofs.Gathering.{IsGathering}
use Rattle.vx_group_states.proofs.passing.pass_where.Given as goal

abbrev pub invariant-loop-leaf : goal.invariant-loop-leaf
invariant-loop-leaf g l = IsGathering l.site.program.now (g.S.Space.sets l.fn.space) (g.S.Space.sets l.space) l.fn.group (λ _. Unit {0}) (λ _. settled_by l.site (g.S.Space.sets l.fn.space) l.holds) l.holds l.leaf-index l.rest l.outcomes.items.items
