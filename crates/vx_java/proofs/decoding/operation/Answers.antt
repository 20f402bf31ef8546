use Rattle.std.proofs.Common.{arith}
use Rattle.vx_java.proofs.OpcodeRanges.{nothing_past}
use Rattle.vx_java.proofs.decoding.operation.Goals as goal

pub returns-in_default : goal.returns-in_default
returns-in_default c = nothing_past c.args.instruction.now (omega arith)
