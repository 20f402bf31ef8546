use Rattle.std.proofs.Common.{sym, ◌∙◌}
use Rattle.vx_report_line.proofs.Texts.{text_step, text_stops, read_all, filled, emptied, text_in_filled, first_shorter}
use Rattle.vx_report_line.proofs.words.text_in.Goals as goal

pub returns-in_default : goal.returns-in_default
returns-in_default c =
    let some = filled _ _ c.is_empty.ensures c.if-is_empty.false in
    let more = filled _ _ c.is_empty-in-loop-rest.ensures c.loop-rest-test.true in
    sym (text_in_filled _ _ some ∙ sym c.loop-rest.invariant ∙ text_stops _ _ _ more (sym c.in_default.ensures))

pub loop-rest-smaller : goal.loop-rest-smaller
loop-rest-smaller c = first_shorter _ _ _ (sym c.in-Some.ensures)

pub loop-rest-preserved : goal.loop-rest-preserved
loop-rest-preserved c = rw c.in_ok-push.ensures.items (sym (text_step _ _ _ _ _ (sym c.in-Some.ensures)) ∙ c.loop-rest.invariant)

pub returns : goal.returns
returns c =
    let some = filled _ _ c.is_empty.ensures c.if-is_empty.false in
    rw c.from_vec.ensures (read_all _ _ _ _ (emptied _ _ c.is_empty-in-loop-rest.ensures c.loop-rest-test.false) c.loop-rest.invariant ∙ sym (text_in_filled _ _ some))
