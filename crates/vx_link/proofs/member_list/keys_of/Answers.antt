use Rattle.std.proofs.Common.{arith, refl}
use Rattle.vx_link.proofs.Keys.{next_of}
use Rattle.vx_link.proofs.member_list.keys_of.Goals as goal

pub loop-place-preserved : goal.loop-place-preserved
loop-place-preserved g c =
    next_of g.M.Member.signature c.args.members.now c.loop-place.place c.index-members-place.result c.loop-place.keys c.insert.new.self c.key_of.result c.loop-place.place
    c.hash.result c.loop-place-test.true c.index-members-place.is refl (omega arith) c.hash.ensures c.key_of.ensures c.loop-place.invariant
    c.in_ok-insert.ensures.updates
