use Rattle.std.proofs.Common.{◌∙◌}
use Rattle.vx_refusals.specs.Slips.{worded_text}
use Rattle.vx_refusals.proofs.Putting.{both, both_put}
use Rattle.vx_refusals.proofs.slips.put_worded.Goals as goal

pub returns-clause-ok : goal.returns-clause-ok
unfolding worded_text
returns-clause-ok c =
    let put = rw (← c.in_ok-or_cut_back.ensures.same, c.has_word-2.ensures) at c.put_advice-put.ensures.ok in
    both_put c.or_cut_back-2.result c.put_advice-put-2.result _ _ _ _ _ _ c.or_cut_back-2.ensures.same c.or_cut_back-2.ensures.ok
    (both _ _ _ _ _ (rw c.has_word.ensures at c.in_ok-put_advice.ensures.ok) (c.in_ok-or_cut_back.ensures.ok ∙ put))
    (rw c.has_word-3.ensures at c.put_advice-put-2.ensures.ok)
