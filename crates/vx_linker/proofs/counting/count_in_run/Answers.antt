use Rattle.std.proofs.Common.{arith}
use Rattle.vx_linker.proofs.FieldRuns.{run_between}
use Rattle.vx_linker.proofs.counting.count_in_run.Goals as goal

pub overflow_sub-result : goal.overflow_sub-result
overflow_sub-result c = omega (arith, run_between c.args.program.now c.args.counts.now c.args.fields.now c.first_of.result c.args.before.0 c.requires.counts c.requires.run c.first_of.ensures (omega arith) (omega arith) (omega arith))

pub returns : goal.returns
returns c = omega (arith, run_between c.args.program.now c.args.counts.now c.args.fields.now c.first_of.result c.args.before.0 c.requires.counts c.requires.run c.first_of.ensures (omega arith) (omega arith) (omega arith))
