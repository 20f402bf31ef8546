use Rattle.std.proofs.Common.{arith, refl}
use Rattle.vx_java.proofs.OpcodeRanges.{floats}
use Rattle.vx_java.proofs.decoding.arithmetic.Goals as goal

pub returns-in-98-to-99 : goal.returns-in-98-to-99
returns-in-98-to-99 c = floats c.args.instruction.now 98 2 (refl, (refl, tt)) (omega arith) (omega arith)

pub returns-in-102-to-103 : goal.returns-in-102-to-103
returns-in-102-to-103 c = floats c.args.instruction.now 102 2 (refl, (refl, tt)) (omega arith) (omega arith)

pub returns-in-106-to-107 : goal.returns-in-106-to-107
returns-in-106-to-107 c = floats c.args.instruction.now 106 2 (refl, (refl, tt)) (omega arith) (omega arith)

pub returns-in-110-to-111 : goal.returns-in-110-to-111
returns-in-110-to-111 c = floats c.args.instruction.now 110 2 (refl, (refl, tt)) (omega arith) (omega arith)

pub returns-in-114-to-115 : goal.returns-in-114-to-115
returns-in-114-to-115 c = floats c.args.instruction.now 114 2 (refl, (refl, tt)) (omega arith) (omega arith)

pub returns-in-118-to-119 : goal.returns-in-118-to-119
returns-in-118-to-119 c = floats c.args.instruction.now 118 2 (refl, (refl, tt)) (omega arith) (omega arith)
