use Rattle.vx_refusals.specs.Slips.{names_text}
use Rattle.vx_refusals.proofs.Putting.{both_put}
use Rattle.vx_refusals.proofs.slips.put_names.Goals as goal

pub returns-clause-ok : goal.returns-clause-ok
unfolding names_text
returns-clause-ok c =
    both_put c.or_cut_back.result c.put_advice-put.result _ _ _ _ _ _ c.or_cut_back.ensures.same c.or_cut_back.ensures.ok
    (rw c.has_quote.ensures at c.in_ok-put_advice.ensures.ok) (rw c.has_minus.ensures at c.put_advice-put.ensures.ok)
