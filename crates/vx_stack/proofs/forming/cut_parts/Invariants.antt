use Rattle.vx_stack.specs.Forms.{formed_where}
use Rattle.vx_group_states.proofs.Gathering.{IsGathering}
use Rattle.vx_stack.proofs.forming.cut_parts.Given as goal

abbrev pub invariant-loop-leaf : goal.invariant-loop-leaf
invariant-loop-leaf g l = IsGathering l.site.program.now (g.S.Space.sets l.fn.space) (g.S.Space.sets l.space) l.fn.group (λ _. Unit {0}) (λ _. formed_where l.site l.fn.order (g.S.Space.sets l.fn.space) l.cuts) l.cuts l.leaf-index l.rest l.outcomes.items.items
