use Rattle.std.proofs.Common.{◌+◌, arith}
use Rattle.vx_linker.specs.Cells.{instances_before}
use Rattle.vx_linker.proofs.FieldRuns.{instances_few, instances_more}
use Rattle.vx_linker.proofs.Layouts.{numbered_more}
use Rattle.vx_linker.proofs.counting.running_counts.Goals as goal

pub overflow_add-count : goal.overflow_add-count
overflow_add-count c =
    omega (
      arith,
      instances_few c.args.program.now (c.loop-place.place + 1),
      instances_more c.args.program.now c.loop-place.place c.loop-place.count c.one_if-count.result c.is_instance.result c.loop-place.invariant.1 c.one_if-count.ensures c.is_instance.ensures,
    )

pub loop-place-preserved : goal.loop-place-preserved
loop-place-preserved c =
    let more = instances_more c.args.program.now c.loop-place.place c.loop-place.count c.one_if-count.result c.is_instance.result c.loop-place.invariant.1 c.one_if-count.ensures c.is_instance.ensures in
    (numbered_more (instances_before c.args.program.now) 0 (c.loop-place.place + 1) (c.loop-place.place + 1) c.loop-place.counts.items _ _ c.loop-place.invariant.0 c.in_ok-push-2.ensures.items more (omega arith), more)
