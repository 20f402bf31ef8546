use Rattle.vx_families.proofs.NameLaws.{names_grow, names_tell}
use Rattle.vx_families.proofs.names.names_are_references.Goals as goal

pub returns-clause-tell : goal.returns-clause-tell
returns-clause-tell g c = names_tell

pub returns-clause-grow : goal.returns-clause-grow
returns-clause-grow g c = names_grow
