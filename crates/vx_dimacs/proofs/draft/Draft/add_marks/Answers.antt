use Rattle.std.proofs.Common.{◌<◌, ◌≤◌, length, arith}
use Rattle.vx_dimacs.specs.Draft.{drafted}
use Rattle.vx_dimacs.proofs.Marks.{with_more, with_all}
use Rattle.vx_dimacs.proofs.draft.Draft.add_marks.Goals as goal

pub loop-mark-preserved : goal.loop-mark-preserved
loop-mark-preserved c =
    let lt : c.loop-mark.mark-index < length c.args.marks.now = omega arith in
    with_more (drafted c.loop-mark.self) (drafted c.add_mark.new.self) _ c.args.marks.now c.loop-mark.mark-index _ lt c.in_ok-add_mark.ensures.value c.loop-mark.invariant

pub returns-clause-value : goal.returns-clause-value
returns-clause-value c =
    let le : length c.args.marks.now ≤ c.loop-mark.mark-index = omega arith in
    with_all (drafted c.loop-mark.self) _ c.args.marks.now c.loop-mark.mark-index le c.loop-mark.invariant
