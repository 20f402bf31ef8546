use Rattle.std.proofs.Common.{sym}
use Rattle.std.proofs.lemmas.Result.{on_ok_weaker}
use Rattle.vx_value.specs.declared.slot.InitState.TheVariants.{Failed}
use Rattle.vx_throw.proofs.FailLaws.{marked_inside}
use Rattle.vx_throw.proofs.failing.mark_failed.Goals as goal

pub returns-clause-ok : goal.returns-clause-ok
returns-clause-ok g c = on_ok_weaker c.mark_one.result (λ h. rw (sym c.class_of_method.ensures) (marked_inside c.args.heap.now c.mark_one.new.heap Failed c.class_of_method.result c.args.path h)) c.mark_one.ensures.ok
