use Rattle.std.proofs.Common.{arith, ap, false, sym, ◌∙◌}
use Rattle.vx_list.specs.Places.{item_or}
use Rattle.vx_linker.proofs.FieldRuns.{run_at}
use Rattle.vx_linker.specs.Cells.{is_run}
use Rattle.vx_linker.proofs.Layouts.{before_is, before_few, before_none}
use Rattle.vx_linker.proofs.layout.fields_before.Goals as goal

pub overflow_cast-result : goal.overflow_cast-result
overflow_cast-result c =
    let e = before_is c.args.program.now c.args.class.0 c.args.before.0 c.in-Some.row.now c.as_slice-fields.result.now c.count_instances_before-count.result c.in-Some.ensures c.as_slice-fields.ensures c.count_instances_before-count.ensures in
    omega (arith, before_few c.args.program.now c.args.class.0 c.args.before.0 c.count_instances_before-count.result c.requires.few e)

pub returns-in-Some-clause-count : goal.returns-in-Some-clause-count
returns-in-Some-clause-count c = before_is c.args.program.now c.args.class.0 c.args.before.0 c.in-Some.row.now c.as_slice-fields.result.now c.count_instances_before-count.result c.in-Some.ensures c.as_slice-fields.ensures c.count_instances_before-count.ensures

pub returns-in-Some-clause-few : goal.returns-in-Some-clause-few
returns-in-Some-clause-few c =
    let e = before_is c.args.program.now c.args.class.0 c.args.before.0 c.in-Some.row.now c.as_slice-fields.result.now c.count_instances_before-count.result c.in-Some.ensures c.as_slice-fields.ensures c.count_instances_before-count.ensures in
    before_few c.args.program.now c.args.class.0 c.args.before.0 c.count_instances_before-count.result c.requires.few e

pub returns-in-None-clause-count : goal.returns-in-None-clause-count
returns-in-None-clause-count c = before_none c.args.program.now c.args.class.0 c.args.before.0 c.in-None.ensures

pub count_instances_before-count-requires-clause-run : goal.count_instances_before-count-requires-clause-run
count_instances_before-count-requires-clause-run c =
    c.flag_at-run.ensures ∙ ap (λ flags. item_or flags c.args.class.0 false) c.requires.runs ∙ run_at c.args.program.now.classes c.args.class.0 c.in-Some.row.now c.in-Some.ensures ∙ ap is_run (sym c.as_slice-fields.ensures)
