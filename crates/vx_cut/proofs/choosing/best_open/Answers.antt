use Rattle.vx_cut.proofs.Chosen.{open_kept, open_other, open_there}
use Rattle.vx_cut.proofs.choosing.best_open.Goals.{then-not-chosen-place+then-is_better, else-not-chosen-place, else-not-chosen-place-via-then-not-chosen-place+else-is_better, else-not-chosen-place-via-else-not-chosen-place}
use Rattle.vx_cut.proofs.choosing.best_open.Goals as goal

pub loop-place-preserved : goal.loop-place-preserved
loop-place-preserved c =
    elim c.if-not-chosen-place.branch [
      | then-not-chosen-place+then-is_better w ↦ rw w.best-is (open_there c.args.chosen.now c.loop-place.place _ c.loop-place-test.true w.if-not-chosen-place.true)
      | else-not-chosen-place w ↦ rw w.best-is (elim w.else-not-chosen-place.branch [
        | else-not-chosen-place-via-then-not-chosen-place+else-is_better v ↦ open_other c.args.chosen.now c.loop-place.place c.loop-place.best v.is_better.result v.is_better.ensures v.if-is_better.false c.loop-place.invariant
        | else-not-chosen-place-via-else-not-chosen-place v ↦ open_kept c.args.chosen.now c.loop-place.place _ c.loop-place.best c.loop-place-test.true v.if-not-chosen-place.false c.loop-place.invariant
      ])
    ]
