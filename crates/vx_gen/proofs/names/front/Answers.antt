use Rattle.std.proofs.Common.{arith, sym}
use Rattle.std.proofs.lemmas.List.{take_all}
use Rattle.vx_gen.proofs.names.front.Goals as goal

pub returns-else-count-names : goal.returns-else-count-names
returns-else-count-names c = sym (take_all c.args.count c.args.names.now (omega arith))
