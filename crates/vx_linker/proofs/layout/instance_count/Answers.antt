use Rattle.std.proofs.Common.{◌∙◌, arith}
use Rattle.vx_linker.proofs.Layouts.{count_is, count_few}
use Rattle.vx_linker.proofs.layout.instance_count.Goals as goal

pub overflow_cast-result : goal.overflow_cast-result
overflow_cast-result c = omega (arith, count_few c.args.program.now c.args.class.now c.as_slice.result.now c.count_instances-count.result c.requires c.as_slice.ensures c.count_instances-count.ensures)

pub returns : goal.returns
returns c = c.count_instances-count.ensures ∙ count_is c.args.program.now c.args.class.now c.as_slice.result.now c.as_slice.ensures
