use Rattle.std.proofs.Common.{take}
use Rattle.vx_join.proofs.Firsts.{IsPutting}
use Rattle.vx_join.proofs.collecting.put_firsts.Given as goal

abbrev pub invariant-loop-entry : goal.invariant-loop-entry
invariant-loop-entry g l = IsPutting g.E.Value.Ranked.order g.E.Entry.node_of g.E.Entry.value_of (g.S.Space.sets l.fn.space) (g.S.Space.sets l.space) l.report.nodes l.fn.unsaid l.fn.values.items (take l.entry-index (g.E.Entry.all_of l.report)) l.rest l.values.items
