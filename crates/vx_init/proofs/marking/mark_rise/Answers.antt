use Rattle.std.proofs.Common.{refl}
use Rattle.std.proofs.lemmas.Result.{on_ok_weaker}
use Rattle.vx_init.proofs.MarkLaws.{rise_where, unchanged_where}
use Rattle.vx_init.specs.declared.rise.Rise.TheVariants.{Begins, Blocked, Fails, Open}
use Rattle.vx_init.proofs.marking.mark_rise.Goals as goal

pub returns-in-Open-clause-ok : goal.returns-in-Open-clause-ok
returns-in-Open-clause-ok g c = on_ok_weaker c.mark_running.result (λ h. rise_where c.args.program.now c.args.class.0 c.args.frames _ _ c.args.heap.now c.mark_running.new.heap c.args.condition c.args.rise Open c.in-Open.is (rw c.len-all.ensures at h)) c.mark_running.ensures.ok

pub returns-in-Begins-clause-ok : goal.returns-in-Begins-clause-ok
returns-in-Begins-clause-ok g c = on_ok_weaker c.mark_running-in-Begins.result (λ h. rise_where c.args.program.now c.args.class.0 c.args.frames _ _ c.args.heap.now c.mark_running-in-Begins.new.heap c.args.condition c.args.rise (Begins c.in-Begins.below) c.in-Begins.is h) c.mark_running-in-Begins.ensures.ok

pub returns-in-Fails-clause-ok : goal.returns-in-Fails-clause-ok
returns-in-Fails-clause-ok g c = on_ok_weaker c.mark_failed.result (λ h. rise_where c.args.program.now c.args.class.0 c.args.frames _ _ c.args.heap.now c.mark_failed.new.heap c.args.condition c.args.rise (Fails c.in-Fails.below) c.in-Fails.is h) c.mark_failed.ensures.ok

pub returns-in-Blocked-clause-ok : goal.returns-in-Blocked-clause-ok
returns-in-Blocked-clause-ok g c = rise_where c.args.program.now c.args.class.0 c.args.frames _ _ c.args.heap.now c.args.heap.now c.args.condition c.args.rise (Blocked c.in-Blocked.field-0) c.in-Blocked.is (unchanged_where _ c.args.heap.now c.args.condition (λ x. x) c.requires.heap (λ x. refl))
