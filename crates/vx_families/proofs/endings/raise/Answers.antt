use Rattle.vx_families.proofs.EndingLaws.{raise-gives}
use Rattle.vx_families.proofs.endings.raise.Goals as goal

pub returns : goal.returns
returns g c = λ sets. raise-gives c.args.program.now sets c.args.group c.core_class.result _ _ _ c.core_class.ensures c.new-outcomes.ensures c.in_ok-push.ensures.ok
