use Rattle.vx_people.proofs.Named.{read_back}
use Rattle.vx_people.proofs.law.configurations_are_read_back.Goals as goal

pub returns : goal.returns
returns c = read_back
