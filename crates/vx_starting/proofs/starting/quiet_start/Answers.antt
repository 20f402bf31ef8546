use Rattle.vx_ready.specs.Initialising.{numbers_of}
use Rattle.vx_starting.proofs.Started.{quiet-made}
use Rattle.vx_starting.proofs.starting.quiet_start.Goals as goal

pub returns-clause-ok : goal.returns-clause-ok
returns-clause-ok g c = quiet-made c.args.program.now c.in_ok-heap.ensures.extends c.args.allowed c.args.limit (numbers_of c.args.chain.now) c.in_ok-heap.heap c.in_ok-group.group c.new.result c.in_ok-state.state c.requires.start c.requires.live c.requires.chain c.in_ok-heap.ensures.ok c.in_ok-group.ensures c.new.ensures c.in_ok-state.ensures
