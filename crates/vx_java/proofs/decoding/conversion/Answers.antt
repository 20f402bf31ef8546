use Rattle.std.proofs.Common.{arith, refl}
use Rattle.vx_java.proofs.OpcodeRanges.{floats}
use Rattle.vx_java.proofs.decoding.conversion.Goals as goal

pub returns-in-134-to-135 : goal.returns-in-134-to-135
returns-in-134-to-135 c = floats c.args.instruction.now 134 2 (refl, (refl, tt)) (omega arith) (omega arith)

pub returns-in-137-to-144 : goal.returns-in-137-to-144
returns-in-137-to-144 c = floats c.args.instruction.now 137 8 (refl, (refl, (refl, (refl, (refl, (refl, (refl, (refl, tt)))))))) (omega arith) (omega arith)

pub returns-in-149-to-152 : goal.returns-in-149-to-152
returns-in-149-to-152 c = floats c.args.instruction.now 149 4 (refl, (refl, (refl, (refl, tt)))) (omega arith) (omega arith)
