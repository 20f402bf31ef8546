use Rattle.std.proofs.Common.{arith, ap, ◌∙◌, Err, rules}
use Rattle.vx_plans.proofs.Plans.{sized_gives, sized_exceeds, sized_fails}
use Rattle.vx_inputs.proofs.reading.read_file.Goals as goal

pub returns-then-len-room-clause-err : goal.returns-then-len-room-clause-err
returns-then-len-room-clause-err g c next =
    rw (c.in_ok-path-in-Ok.ensures ∙ c.as_bytes.ensures.value)
    (sized_exceeds _ _ _ _ _ c.in-Ok.bytes.items next (omega arith) (omega (arith, c.in-Ok.ensures.room)) (rw c.as_slice.ensures.value at c.bytes_fit.ensures) c.in-Ok.ensures.bytes)

pub returns-else-len-room-clause-ok : goal.returns-else-len-room-clause-ok
returns-else-len-room-clause-ok g c next = sized_gives _ _ _ _ _ _ (omega arith) (rw c.as_slice.ensures.value at c.bytes_fit.ensures) c.in-Ok.ensures.bytes

pub returns-in_ok-path-in-Err-Failed-clause-err : goal.returns-in_ok-path-in-Err-Failed-clause-err
returns-in_ok-path-in-Err-Failed-clause-err g c next =
    rw (c.in_ok-path-in-Err-Failed.ensures ∙ c.as_bytes-in-Err-Failed.ensures.value)
    (sized_fails _ _ _ _ _ next (c.in-Err-Failed.ensures.cause.failed (ap Err (search rules))))

pub returns-else-len-room-clause-read : goal.returns-else-len-room-clause-read
returns-else-len-room-clause-read g c = record { fits = omega arith; are_bytes = rw c.as_slice.ensures.value at c.bytes_fit.ensures; told = c.in-Ok.ensures.bytes }
