use Rattle.std.proofs.Common.{sym, ◌∙◌}
use Rattle.vx_sched.proofs.PlaceLaws.{first_begins, first_new, first_kept}
use Rattle.vx_sched.proofs.picker.LeastKeyPicker.pick.Goals.{then-lt, else-lt}
use Rattle.vx_sched.proofs.picker.LeastKeyPicker.pick.Goals as goal

pub loop-place-init : goal.loop-place-init
loop-place-init c = first_begins c.args.keys.now

pub loop-place-preserved : goal.loop-place-preserved
loop-place-preserved c =
    elim c.if-lt.branch [
      | then-lt w ↦ rw w.least-is (first_new c.args.keys.now c.loop-place.place c.loop-place.least c.index-keys-place.result c.index-keys-least.result c.loop-place-test.true c.index-keys-place.is c.index-keys-least.is c.loop-place.invariant (sym c.lt.ensures ∙ w.if-lt.true))
      | else-lt w ↦ rw w.least-is (first_kept c.args.keys.now c.loop-place.place c.loop-place.least c.index-keys-place.result c.index-keys-least.result c.loop-place-test.true c.index-keys-place.is c.index-keys-least.is c.loop-place.invariant (sym c.lt.ensures ∙ w.if-lt.false))
    ]
