use Rattle.std.proofs.Common.{sym, subst, ◌∙◌}
use Rattle.vx_picture.specs.Walks.{Walks}
use Rattle.vx_picture.proofs.Walking.{picture_is, picture_walks}
use Rattle.vx_picture.proofs.drawing.picture.Goals as goal

pub marks_of-requires-clause-boxes : goal.marks_of-requires-clause-boxes
marks_of-requires-clause-boxes c = c.as_slice.ensures.value ∙ c.in_ok-boxes.ensures

pub returns-clause-picture : goal.returns-clause-picture
returns-clause-picture c = picture_is c.args.drawn c.args.report.now c.in_ok-marks.marks.items c.nodes_of-nodes.result.now _ _ _ _ _ _ c.nodes_of-nodes.ensures c.in_ok-marks.ensures c.of.ensures (rw c.as_slice-2.ensures.value at c.in_ok-ellipses.ensures) c.of-2.ensures (rw c.as_slice-3.ensures.value at c.in_ok-edges.ensures) c.of-3.ensures c.in_ok-boxes.ensures

pub returns-clause-walks : goal.returns-clause-walks
returns-clause-walks c = subst (Walks c.args.report.now) (sym (returns-clause-picture c)) (picture_walks c.args.drawn c.args.report.now c.requires)
