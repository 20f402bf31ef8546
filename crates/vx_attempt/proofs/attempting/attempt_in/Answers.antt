use Rattle.std.proofs.Common.{arith, refl}
use Rattle.vx_attempt.proofs.Making.{code_is_short, given_at, no_instruction}
use Rattle.vx_attempt.proofs.attempting.attempt_in.Goals as goal

pub decode-requires : goal.decode-requires
decode-requires g c =
    let short = code_is_short c.args.program.now c.args.group.top.method.0 c.args.code.now c.requires.may.bounded c.requires.code in
    rw c.as_slice.ensures (omega (arith, short))

pub attempt_at-requires-clause-given : goal.attempt_at-requires-clause-given
attempt_at-requires-clause-given g c = given_at (record { program = c.args.program; code = c.args.code; size = c.in-Ok.instruction.length }) c.operation-operation.result _ c.args.heap.now c.args.callers.now c.args.group c.in-Ok.instruction _ c.as_slice.result.now c.top_frame-top.result.now c.requires.may c.requires.code c.as_slice.ensures c.top_frame-top.ensures c.in-Ok.ensures.value c.in-Ok.ensures.bounds.1 refl c.operation-operation.ensures

pub end_there-requires-clause-nothing : goal.end_there-requires-clause-nothing
end_there-requires-clause-nothing g c = λ s at there. no_instruction c.args.program.now c.args.group c.args.code.now c.in-Err._fault _ c.as_slice.result.now c.top_frame-top.result.now c.requires.code c.as_slice.ensures c.top_frame-top.ensures c.in-Err.ensures.value s at there
