use Rattle.vx_asm.proofs.Walks.{places_go_on, places_done}
use Rattle.vx_asm.proofs.ends.places_of.Goals as goal
use Rattle.vx_code_parts.proofs.Loops.{none_left}

pub loop-draft-preserved : goal.loop-draft-preserved
loop-draft-preserved c = record {
  within = c.next_place-next.ensures.within;
  same = places_go_on _ _ _ _ _ _ _ _ c.loop-draft-test.true c.draft-item.is c.next_place-next.ensures.value c.in_ok-push.ensures.items c.loop-draft.invariant.same;
}

pub returns : goal.returns
returns c = places_done _ _ _ _ _ (none_left _ _ c.loop-draft-test.false) c.in_ok-push-2.ensures.items c.loop-draft.invariant.same
