use Rattle.std.proofs.Common.{arith, refl, negsuc}
use Rattle.vx_java.specs.declared.operation.Operation.TheVariants.{PushInt}
use Rattle.vx_java.proofs.OpcodeRanges.{does_in_range, floats}
use Rattle.vx_java.proofs.decoding.constant.Goals as goal

pub returns-in-2 : goal.returns-in-2
returns-in-2 c = does_in_range (λ _. PushInt (negsuc 0)) c.args.instruction.now 2 1 (refl, tt) (omega arith) (omega arith)

pub returns-in-11-to-15 : goal.returns-in-11-to-15
returns-in-11-to-15 c = floats c.args.instruction.now 11 5 (refl, (refl, (refl, (refl, (refl, tt))))) (omega arith) (omega arith)
