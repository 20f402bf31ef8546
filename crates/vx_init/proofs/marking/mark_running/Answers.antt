use Rattle.std.proofs.Common.{◌∙◌, sym}
use Rattle.std.proofs.lemmas.Result.{on_ok_weaker}
use Rattle.vx_init.proofs.MarkLaws.{full_where, running_where}
use Rattle.vx_init.proofs.marking.mark_running.Goals as goal

pub returns-then-too_many-clause-ok : goal.returns-then-too_many-clause-ok
returns-then-too_many-clause-ok g c = full_where _ c.args.heap.now c.args.frames c.args.condition _ _ c.in_ok-chain.ensures (sym (rw c.deref.ensures.value at c.too_many.ensures) ∙ c.if-too_many.true) c.requires.heap

pub returns-clause-ok : goal.returns-clause-ok
returns-clause-ok g c = on_ok_weaker c.mark_classes.result (λ h. running_where _ _ c.args.heap.now c.mark_classes.new.heap c.args.frames c.args.condition _ _ c.in_ok-chain.ensures (sym (rw c.deref.ensures.value at c.too_many.ensures) ∙ c.if-too_many.false) (rw c.deref-2.ensures.value at h)) c.mark_classes.ensures.ok
