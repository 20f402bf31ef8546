use Rattle.std.proofs.Common.{arith, refl, sym, ◌∙◌}
use Rattle.vx_count.proofs.CutBack.{cut_back_before, held_behind}
use Rattle.vx_list.proofs.CutLaws.{always_on_err}
use Rattle.vx_words.specs.Lines.{lines}
use Rattle.vx_overview.proofs.Remarked.{remarks_end, remarks_step}
use Rattle.vx_overview.proofs.remarks.put_remarks.Goals as goal

pub loop-line-preserved : goal.loop-line-preserved
loop-line-preserved c =
    let put = c.in_ok-or_cut_back.ensures.ok ∙ (rw (← c.in_ok-or_cut_back.ensures.same) at c.put_remark.ensures.ok) in (
      rw (put, c.remark_in-remark.ensures)
          (remarks_step c.args.most c.loop-line.number c.loop-line.out.items _ c.in-Some.line.now (lines c.loop-line.rest.now) (lines c.in-Some.behind.now) c.in-Some.ensures.some c.loop-line.invariant.0),
      (omega (arith, c.loop-line.invariant.1.0, c.in-Some.ensures.shorter), held_behind c.loop-line.out.items _ _ c.len-held.result put c.loop-line.invariant.1.1),
    )

pub returns-in_err-or_cut_back-clause-err : goal.returns-in_err-or_cut_back-clause-err
returns-in_err-or_cut_back-clause-err c =
    always_on_err c.from_residual.result
    (cut_back_before c.args.out.now.items c.loop-line.out.items c.put_remark.new.out.items _ _ _ c.len-held.result c.in_err-or_cut_back.ensures.err
    (rw (← c.in_err-or_cut_back.ensures.same) at c.put_remark.ensures.err) c.loop-line.invariant.0 (sym (c.len-held.ensures ∙ c.args.out.now.ok.0)) c.loop-line.invariant.1.1)

pub returns-clause-ok : goal.returns-clause-ok
returns-clause-ok c = remarks_end c.args.most c.loop-line.number c.loop-line.out.items _ c.loop-line.rest.now (c.in_default.ensures.none.0 refl) c.loop-line.invariant.0
