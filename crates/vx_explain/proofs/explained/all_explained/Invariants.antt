use Rattle.std.proofs.Common.{take}
use Rattle.std.specs.BTreeMap.{get}
use Rattle.std.specs.Ordering.{nat_cmp}
use Rattle.vx_explain.proofs.Explaining.{IsExplaining}
use Rattle.vx_explain.proofs.explained.all_explained.Given as goal

abbrev pub invariant-loop-subject : goal.invariant-loop-subject
invariant-loop-subject g l = IsExplaining (g.S.Space.sets l.fn.space) (g.S.Space.sets l.space) l.report (take l.subject-index l.subjects) l.scope l.known.told.items (get nat_cmp l.known.places) l.explained.items
