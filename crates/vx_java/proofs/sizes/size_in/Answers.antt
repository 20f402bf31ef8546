use Rattle.std.proofs.Common.{arith}
use Rattle.vx_java.proofs.InstructionSizes.{size_found, size_missing}
use Rattle.vx_java.proofs.sizes.size_in.Goals as goal

pub decode-requires : goal.decode-requires
decode-requires c = rw c.as_slice.ensures c.requires

pub returns-in-Ok-clause-size : goal.returns-in-Ok-clause-size
returns-in-Ok-clause-size c = size_found _ c.in-Ok.instruction _ (rw c.as_slice.ensures at c.in-Ok.ensures.value)

pub returns-in-Ok-clause-within : goal.returns-in-Ok-clause-within
returns-in-Ok-clause-within c =
    let bounds = rw c.as_slice.ensures at c.in-Ok.ensures.bounds in
    omega (arith, bounds.1, c.requires)

pub returns-in-Err-clause-size : goal.returns-in-Err-clause-size
returns-in-Err-clause-size c = size_missing _ c.in-Err._fault _ (rw c.as_slice.ensures at c.in-Err.ensures.value)
