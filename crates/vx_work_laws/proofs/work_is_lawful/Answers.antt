use Rattle.vx_gen.specs.Workload.{names_of}
use Rattle.vx_work_laws.proofs.Holding.{files_hold}
use Rattle.vx_work_laws.proofs.Linking.{links}
use Rattle.vx_work_laws.proofs.MainPool.{are_good}
use Rattle.vx_work_laws.proofs.Modeling.{has_names, is_model}
use Rattle.vx_work_laws.proofs.Naming.{files_named}
use Rattle.vx_work_laws.proofs.work_is_lawful.Goals as goal

pub returns : goal.returns
returns c = λ seed count. record {
  holds = files_hold seed (names_of count) (are_good count);
  named = files_named seed (names_of count);
  model = is_model (names_of count) (are_good count);
  names = has_names count (are_good count);
  links = links seed (names_of count);
}
