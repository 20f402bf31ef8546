use Rattle.vx_families.proofs.NameLaws.{new_name_is_next, values_stay}
use Rattle.vx_families.proofs.names.values_stay.Goals as goal

pub returns-clause-stay : goal.returns-clause-stay
returns-clause-stay g c = values_stay

pub returns-clause-next : goal.returns-clause-next
returns-clause-next g c = new_name_is_next
