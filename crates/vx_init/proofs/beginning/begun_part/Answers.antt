use Rattle.std.proofs.lemmas.Result.{IfOk-weaker}
use Rattle.vx_init.proofs.PartLaws.{rise_gives}
use Rattle.vx_init.specs.declared.rise.Rise.TheVariants.{Begins, Blocked, Fails, Open}
use Rattle.vx_init.proofs.beginning.begun_part.Goals as goal

pub returns-in-Open-clause-gives : goal.returns-in-Open-clause-gives
returns-in-Open-clause-gives g c =
    IfOk-weaker c.pushed_part.result _ _ (λ r' h'. λ heap. rise_gives c.args.program.now _ _ c.args.callers.now _ c.args.part _ heap c.args.class.0 c.args.rise Open c.in-Open.is (rw c.len-all.ensures at (h' heap)))
    c.pushed_part.ensures.gives

pub returns-in-Begins-clause-gives : goal.returns-in-Begins-clause-gives
returns-in-Begins-clause-gives g c =
    IfOk-weaker c.pushed_part-in-Begins.result _ _ (λ r' h'. λ heap. rise_gives c.args.program.now _ _ c.args.callers.now _ c.args.part _ heap c.args.class.0 c.args.rise (Begins c.in-Begins.below) c.in-Begins.is (h' heap))
    c.pushed_part-in-Begins.ensures.gives

pub returns-in_ok-raised-in-Fails-clause-gives : goal.returns-in_ok-raised-in-Fails-clause-gives
returns-in_ok-raised-in-Fails-clause-gives g c = λ heap. rise_gives c.args.program.now _ _ c.args.callers.now c.args.callers.now c.args.part _ heap c.args.class.0 c.args.rise (Fails c.in-Fails.field-0) c.in-Fails.is (λ h s. c.in_ok-raised-in-Fails.ensures _ heap c.args.callers.now h s)

pub returns-in-Blocked-clause-gives : goal.returns-in-Blocked-clause-gives
returns-in-Blocked-clause-gives g c =
    IfOk-weaker c.blocked_part.result _ _ (λ r' h'. λ heap. rise_gives c.args.program.now _ _ c.args.callers.now c.args.callers.now c.args.part _ heap c.args.class.0 c.args.rise (Blocked c.in-Blocked.interface) c.in-Blocked.is (λ h s. h' _ heap c.args.callers.now h s))
    c.blocked_part.ensures
