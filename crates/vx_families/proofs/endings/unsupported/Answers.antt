use Rattle.vx_families.proofs.EndingLaws.{unsupported-gives}
use Rattle.vx_families.proofs.endings.unsupported.Goals as goal

pub returns : goal.returns
returns g c = λ sets. unsupported-gives c.args.program.now sets c.args.group.now c.args.word c.args.what _ _ _ _ c.path.ensures (rw c.top_frame-top.ensures at c.in_ok-place.ensures) c.new-outcomes.ensures c.in_ok-push.ensures.ok
