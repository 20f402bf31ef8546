use Rattle.vx_cover.proofs.target.push_ends.Goals as goal

pub put_ends-requires-clause-firsts : goal.put_ends-requires-clause-firsts
put_ends-requires-clause-firsts g c = rw c.as_slice.ensures.value c.in_ok-firsts.ensures.ends
