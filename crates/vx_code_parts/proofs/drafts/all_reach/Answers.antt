use Rattle.vx_code_parts.proofs.Loops.{reach_goes_on, reach_ends, reach_done, none_left}
use Rattle.vx_code_parts.proofs.drafts.all_reach.Goals as goal

pub returns-then-not-near : goal.returns-then-not-near
returns-then-not-near c = reach_ends _ _ _ _ _ _ _ c.loop-draft-test.true c.draft-item.is c.reaches-near.ensures c.if-not-near.true c.loop-draft.invariant.same

pub loop-draft-preserved : goal.loop-draft-preserved
loop-draft-preserved c = record {
  within = c.next_place-next.ensures.within;
  same = reach_goes_on _ _ _ _ _ _ _ _ c.loop-draft-test.true c.draft-item.is c.reaches-near.ensures c.if-not-near.false c.next_place-next.ensures.value c.loop-draft.invariant.same;
}

pub returns : goal.returns
returns c = reach_done _ _ _ _ (none_left _ _ c.loop-draft-test.false) c.loop-draft.invariant.same
