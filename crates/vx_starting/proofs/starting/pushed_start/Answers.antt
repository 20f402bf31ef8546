use Rattle.vx_ready.specs.Initialising.{numbers_of}
use Rattle.vx_starting.proofs.Started.{pushed-made, pushed_nodes}
use Rattle.vx_starting.proofs.starting.pushed_start.Goals as goal

pub sweep-requires : goal.sweep-requires
sweep-requires g c = pushed_nodes c.args.program.now c.in_ok-heap.ensures.extends c.args.allowed c.args.limit (numbers_of c.args.chain.now) c.in_ok-heap.heap c.pushed_group.new.callers c.in_ok-group.group c.requires.start c.requires.chain c.in_ok-heap.ensures.ok c.in_ok-group.ensures c.in_ok-state.state c.in_ok-state.ensures

pub returns-clause-ok : goal.returns-clause-ok
returns-clause-ok g c = pushed-made c.args.program.now c.in_ok-heap.ensures.extends c.args.allowed c.args.limit (numbers_of c.args.chain.now) c.in_ok-heap.heap c.pushed_group.new.callers c.in_ok-group.group c.requires.start c.requires.chain c.in_ok-heap.ensures.ok c.in_ok-group.ensures c.requires.live c.in_ok-state.state c.sweep.new.state c.in_ok-state.ensures c.in_ok-sweep.ensures.ok
