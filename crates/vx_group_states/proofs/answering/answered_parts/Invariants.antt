use Rattle.vx_group.specs.Group.{path_of}
use Rattle.vx_group_states.specs.Answering.{AreHeld, answered_by}
use Rattle.vx_group_states.proofs.Gathering.{IsGathering}
use Rattle.vx_group_states.proofs.answering.answered_parts.Given as goal

abbrev pub invariant-loop-leaf : goal.invariant-loop-leaf
invariant-loop-leaf g l = IsGathering l.site.program.now (g.S.Space.sets l.fn.space) (g.S.Space.sets l.space) l.fn.group (λ heap. AreHeld (g.S.Space.sets l.fn.space) heap (path_of l.fn.group) l.answers) (answered_by l.site l.taken (g.S.Space.sets l.fn.space) l.answers) l.kinds l.leaf-index l.rest l.outcomes.items.items
