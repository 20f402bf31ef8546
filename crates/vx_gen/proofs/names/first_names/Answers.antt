use Rattle.vx_gen.specs.Workload.{option_names}
use Rattle.vx_gen.proofs.Same.{front_names, front_short}
use Rattle.vx_gen.proofs.names.first_names.Goals as goal

pub returns-clause-names : goal.returns-clause-names
returns-clause-names c = front_names c.all_names.result.now c.front.result.now option_names c.args.count c.all_names.ensures.names c.front.ensures

pub returns-clause-short : goal.returns-clause-short
returns-clause-short c = front_short c.all_names.result.now c.front.result.now c.args.count c.all_names.ensures.short c.front.ensures
