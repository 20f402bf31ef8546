use Rattle.vx_code_parts.proofs.Loops.{code_goes_on, code_done, none_left}
use Rattle.vx_code_parts.proofs.drafts.code_bytes.Goals as goal

pub loop-draft-preserved : goal.loop-draft-preserved
loop-draft-preserved c = record {
  within = c.next_place-next.ensures.within;
  same = code_goes_on _ _ _ _ _ _ _ _ _ c.loop-draft-test.true c.draft-item.is c.next_place-next.ensures.value c.in_ok-put_draft.ensures c.loop-draft.invariant.same;
}

pub returns : goal.returns
returns c = code_done _ _ _ _ _ (none_left _ _ c.loop-draft-test.false) c.loop-draft.invariant.same
