use Rattle.std.proofs.Common.{arith, refl}
use Rattle.vx_link.specs.Assignability.{assignable}
use Rattle.vx_may_end.specs.Lacks.{of_receiver}
use Rattle.vx_may_end.proofs.Putting.{filtered_step, nothing_more, receivers_done}
use Rattle.vx_may_end.proofs.calls.put_receivers.Goals as goal

pub loop-place-init : goal.loop-place-init
loop-place-init c = nothing_more c.put_arrays.new.out.items c.put_arrays.new.out.items refl

pub loop-place-preserved : goal.loop-place-preserved
loop-place-preserved c =
    rw (c.in_ok-put_assignable.ensures)
    (filtered_step (of_receiver c.args.program.now c.args.resolved.0) (λ d. assignable c.args.program.now d c.args.named.0) _ c.loop-place.out.items c.loop-place.place c.loop-place.invariant)

pub returns : goal.returns
returns c = receivers_done c.args.program.now c.args.named.0 c.args.resolved.0 _ _ _ c.loop-place.place (omega arith) c.in_ok-put_arrays.ensures c.loop-place.invariant
