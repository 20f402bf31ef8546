use Rattle.std.proofs.Common.{◌∙◌}
use Rattle.vx_report.proofs.Numbered.{nodes_more}
use Rattle.vx_report.proofs.writing.put_nodes.Goals as goal

pub loop-place-preserved : goal.loop-place-preserved
loop-place-preserved c =
    let put = rw (← c.in_ok-or_cut_back.ensures.same) at c.put_node.ensures.ok in
    c.in_ok-or_cut_back.ensures.ok ∙ put ∙ nodes_more _ _ _ _ _ c.loop-place-test.true c.loop-place.invariant
