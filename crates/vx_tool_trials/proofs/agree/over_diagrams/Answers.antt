use Rattle.std.proofs.Common.{arith}
use Rattle.vx_interact.proofs.Entries.{few_options}
use Rattle.vx_tool_trials.proofs.agree.over_diagrams.Goals as goal

pub overflow_cast-len : goal.overflow_cast-len
overflow_cast-len c = omega (arith, few_options c.args.one.now c.requires.one, c.len.ensures)

pub new-requires : goal.new-requires
new-requires c = omega (arith, few_options c.args.one.now c.requires.one, c.len.ensures)
