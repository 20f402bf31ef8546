use Rattle.std.proofs.Common.{append_assoc, sym, ◌∙◌}
use Rattle.vx_count.proofs.CutBack.{cut_back_before, held_behind}
use Rattle.vx_list.proofs.CutLaws.{always_on_err}
use Rattle.vx_words.proofs.Parts.{is_empty, is_filled_list}
use Rattle.vx_cut.proofs.Putting.{lines_done, lines_step}
use Rattle.vx_cut.proofs.lines.put_lines.Goals as goal

pub split_line-requires : goal.split_line-requires
split_line-requires c = is_filled_list _ (sym c.is_empty.ensures ∙ c.loop-rest-test.true)

pub loop-rest-preserved : goal.loop-rest-preserved
loop-rest-preserved c =
    let put = c.in_ok-or_cut_back.ensures.ok ∙ (rw (← c.in_ok-or_cut_back.ensures.same) at c.put_ended_line.ensures.ok) in (
      rw put (lines_step c.args.dimacs c.args.model.now c.args.more c.loop-rest.out.items _ c.loop-rest.rest.now _ _ c.split_line.ensures.parts c.loop-rest.invariant.0),
      held_behind c.loop-rest.out.items _ _ c.len-held.result (put ∙ append_assoc c.loop-rest.out.items _ _) c.loop-rest.invariant.1,
    )

pub returns-in_err-or_cut_back-clause-err : goal.returns-in_err-or_cut_back-clause-err
returns-in_err-or_cut_back-clause-err c =
    always_on_err c.from_residual.result
    (cut_back_before c.args.out.now.items c.loop-rest.out.items c.put_ended_line.new.out.items _ _ _ c.len-held.result c.in_err-or_cut_back.ensures.err
    (rw (← c.in_err-or_cut_back.ensures.same) at c.put_ended_line.ensures.err) c.loop-rest.invariant.0 (sym (c.len-held.ensures ∙ c.args.out.now.ok.0)) c.loop-rest.invariant.1)

pub returns-clause-ok : goal.returns-clause-ok
returns-clause-ok c = lines_done c.args.dimacs c.args.model.now c.args.more c.loop-rest.out.items _ c.loop-rest.rest.now (is_empty _ (sym c.is_empty.ensures ∙ c.loop-rest-test.false)) c.loop-rest.invariant.0
