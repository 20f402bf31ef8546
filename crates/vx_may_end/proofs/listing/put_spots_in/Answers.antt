use Rattle.std.proofs.Common.{ap, arith, length, sym, ◌∙◌}
use Rattle.vx_may_end.specs.Listed.{spots_at}
use Rattle.vx_may_end.proofs.Putting.{start_step}
use Rattle.vx_may_end.proofs.listing.put_spots_in.Goals as goal

pub loop-left-preserved : goal.loop-left-preserved
loop-left-preserved c =
    let size = ap length c.as_slice-size.ensures in
    let within = rw c.in-Some.is at c.size_at.ensures.within in (
      rw (c.in_ok-put_spot_at.ensures)
          (start_step (spots_at c.args.program.now c.args.method.0) c.args.code.now.bytes c.loop-left.out.items _ c.loop-left.left c.loop-left.at c.in-Some.length (omega (arith, c.if-at-size.false, size)) c.loop-left-test.true
          (sym c.size_at.ensures.value ∙ c.in-Some.is)
          c.loop-left.invariant.0),
      omega (arith, within),
    )
