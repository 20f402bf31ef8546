use Rattle.std.proofs.Common.{refl}
use Rattle.vx_gen.proofs.names.all_names.Goals as goal

pub returns-clause-names : goal.returns-clause-names
returns-clause-names c = refl

pub returns-clause-short : goal.returns-clause-short
returns-clause-short c = refl
