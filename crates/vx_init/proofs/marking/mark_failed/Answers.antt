use Rattle.std.proofs.lemmas.Result.{on_ok_weaker}
use Rattle.vx_value.specs.declared.slot.InitState.TheVariants.{Failed}
use Rattle.vx_init.proofs.MarkLaws.{marked_where}
use Rattle.vx_init.proofs.marking.mark_failed.Goals as goal

pub returns-clause-ok : goal.returns-clause-ok
returns-clause-ok g c = on_ok_weaker c.mark_classes.result (λ h. marked_where _ _ c.args.heap.now c.mark_classes.new.heap Failed c.args.condition _ _ c.in_ok-chain.ensures (rw c.deref.ensures.value at h)) c.mark_classes.ensures.ok
