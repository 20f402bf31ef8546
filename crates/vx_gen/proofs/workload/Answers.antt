use Rattle.vx_gen.specs.Workload.{names_of}
use Rattle.vx_gen.proofs.workload.Goals as goal

pub returns-clause-classes : goal.returns-clause-classes
returns-clause-classes c = c.in_ok-classes.ensures (names_of c.args.options) c.first_names-names.ensures.names

pub returns-clause-model : goal.returns-clause-model
returns-clause-model c = c.in_ok-model.ensures (names_of c.args.options) c.first_names-names.ensures.names
