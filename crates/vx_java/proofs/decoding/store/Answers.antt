use Rattle.std.proofs.Common.{arith, refl, ◌-◌}
use Rattle.vx_java.specs.declared.operation.Operation.TheVariants.{Store}
use Rattle.vx_java.specs.declared.operation.Sort.TheVariants.{Int, Long, Reference}
use Rattle.vx_java.proofs.OpcodeRanges.{does_in_range, floats}
use Rattle.vx_java.proofs.decoding.store.Goals as goal

pub returns-in-56-to-57 : goal.returns-in-56-to-57
returns-in-56-to-57 c = floats c.args.instruction.now 56 2 (refl, (refl, tt)) (omega arith) (omega arith)

pub returns-in-59-to-62 : goal.returns-in-59-to-62
returns-in-59-to-62 c = rw c.from-opcode.ensures (does_in_range (λ n. Store Int (n - 59)) c.args.instruction.now 59 4 (refl, (refl, (refl, (refl, tt)))) (omega arith) (omega arith))

pub returns-in-63-to-66 : goal.returns-in-63-to-66
returns-in-63-to-66 c = rw c.from-opcode.ensures (does_in_range (λ n. Store Long (n - 63)) c.args.instruction.now 63 4 (refl, (refl, (refl, (refl, tt)))) (omega arith) (omega arith))

pub returns-in-67-to-74 : goal.returns-in-67-to-74
returns-in-67-to-74 c = floats c.args.instruction.now 67 8 (refl, (refl, (refl, (refl, (refl, (refl, (refl, (refl, tt)))))))) (omega arith) (omega arith)

pub returns-in-75-to-78 : goal.returns-in-75-to-78
returns-in-75-to-78 c = rw c.from-opcode.ensures (does_in_range (λ n. Store Reference (n - 75)) c.args.instruction.now 75 4 (refl, (refl, (refl, (refl, tt)))) (omega arith) (omega arith))

pub returns-in-81-to-82 : goal.returns-in-81-to-82
returns-in-81-to-82 c = floats c.args.instruction.now 81 2 (refl, (refl, tt)) (omega arith) (omega arith)
