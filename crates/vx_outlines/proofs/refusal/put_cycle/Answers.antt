use Rattle.vx_refusals.proofs.Putting.{both_put}
use Rattle.vx_outlines.proofs.refusal.put_cycle.Goals as goal

pub returns-clause-ok : goal.returns-clause-ok
returns-clause-ok c = both_put c.or_cut_back.result c.put_ancestors_of.result _ _ _ _ _ _ c.or_cut_back.ensures.same c.or_cut_back.ensures.ok c.in_ok-put_word_line.ensures.ok c.put_ancestors_of.ensures.ok
