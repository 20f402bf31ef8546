use Rattle.std.proofs.Common.{sym, ◌∙◌}
use Rattle.vx_list.proofs.CutLaws.{always_on_err, cut_back}
use Rattle.vx_heap.proofs.heap.conds_out.Goals as goal

pub returns-in_err-or_cut_back-clause-err : goal.returns-in_err-or_cut_back-clause-err
returns-in_err-or_cut_back-clause-err g c =
    always_on_err c.from_residual.result
    (cut_back c.args.ids.now.items c.loop-cond.ids.items c.ids_out.new.ids.items _ _ c.len-held.result c.in_err-or_cut_back.ensures.err
    (rw (← c.in_err-or_cut_back.ensures.same) at c.ids_out.ensures.err) c.loop-cond.invariant (sym (c.len-held.ensures ∙ c.args.ids.now.ok.0)))
