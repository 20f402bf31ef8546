use Rattle.std.proofs.Common.{arith, refl}
use Rattle.vx_java.proofs.OpcodeRanges.{floats}
use Rattle.vx_java.proofs.decoding.member.Goals as goal

pub returns-in-174-to-175 : goal.returns-in-174-to-175
returns-in-174-to-175 c = floats c.args.instruction.now 174 2 (refl, (refl, tt)) (omega arith) (omega arith)
