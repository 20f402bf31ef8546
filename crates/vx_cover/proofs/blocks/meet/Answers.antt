use Rattle.std.proofs.Common.{arith, get_or, length, ◌<◌}
use Rattle.vx_cover.proofs.Blocked.{IsMeeting-numbers, IsMeeting-rest, IsMeeting-start, IsMeeting-step, block_at, read_again}
use Rattle.vx_cover.proofs.blocks.meet.Goals as goal

pub loop-place-init : goal.loop-place-init
loop-place-init g c = rw c.new-numbers.ensures.items (IsMeeting-start (g.S.Space.sets c.args.space.now) c.args.c.now c.args.blocks.now c.requires)

pub meet_block-requires : goal.meet_block-requires
meet_block-requires g c =
    let there : c.loop-place.place < length c.loop-place.blocks = omega (arith, c.loop-place-test.true, c.loop-place.invariant.count) in
    block_at (g.S.Space.sets c.args.space.now) c.loop-place.blocks c.loop-place.place _ there (read_again c.loop-place.blocks c.loop-place.place c.index-blocks-place.result) c.loop-place.invariant.each

pub loop-place-preserved : goal.loop-place-preserved
loop-place-preserved g c =
    let there : c.loop-place.place < length c.loop-place.blocks = omega (arith, c.loop-place-test.true, c.loop-place.invariant.count) in
    let m = c.in_ok-meet_block.ensures in
    IsMeeting-step (g.S.Space.sets c.args.space.now) c.args.c.now c.args.blocks.now c.loop-place.blocks c.loop-place.place c.loop-place.numbers.items c.meet_block.new.numbers.items (get_or c.loop-place.blocks c.loop-place.place c.index-blocks-place.result) c.meet_block.new.block
    there (read_again c.loop-place.blocks c.loop-place.place c.index-blocks-place.result) m.numbers m.rest m.whole c.loop-place.invariant
