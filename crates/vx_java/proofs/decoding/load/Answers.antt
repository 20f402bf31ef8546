use Rattle.std.proofs.Common.{arith, refl, ◌-◌}
use Rattle.vx_java.specs.declared.operation.Operation.TheVariants.{Load}
use Rattle.vx_java.specs.declared.operation.Sort.TheVariants.{Int, Long, Reference}
use Rattle.vx_java.proofs.OpcodeRanges.{does_in_range, floats}
use Rattle.vx_java.proofs.decoding.load.Goals as goal

pub returns-in-23-to-24 : goal.returns-in-23-to-24
returns-in-23-to-24 c = floats c.args.instruction.now 23 2 (refl, (refl, tt)) (omega arith) (omega arith)

pub returns-in-26-to-29 : goal.returns-in-26-to-29
returns-in-26-to-29 c = rw c.from-opcode.ensures (does_in_range (λ n. Load Int (n - 26)) c.args.instruction.now 26 4 (refl, (refl, (refl, (refl, tt)))) (omega arith) (omega arith))

pub returns-in-30-to-33 : goal.returns-in-30-to-33
returns-in-30-to-33 c = rw c.from-opcode.ensures (does_in_range (λ n. Load Long (n - 30)) c.args.instruction.now 30 4 (refl, (refl, (refl, (refl, tt)))) (omega arith) (omega arith))

pub returns-in-34-to-41 : goal.returns-in-34-to-41
returns-in-34-to-41 c = floats c.args.instruction.now 34 8 (refl, (refl, (refl, (refl, (refl, (refl, (refl, (refl, tt)))))))) (omega arith) (omega arith)

pub returns-in-42-to-45 : goal.returns-in-42-to-45
returns-in-42-to-45 c = rw c.from-opcode.ensures (does_in_range (λ n. Load Reference (n - 42)) c.args.instruction.now 42 4 (refl, (refl, (refl, (refl, tt)))) (omega arith) (omega arith))

pub returns-in-48-to-49 : goal.returns-in-48-to-49
returns-in-48-to-49 c = floats c.args.instruction.now 48 2 (refl, (refl, tt)) (omega arith) (omega arith)
