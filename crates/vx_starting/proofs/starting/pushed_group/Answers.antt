use Rattle.vx_starting.proofs.Started.{IsPushedGroup-made, main_fits, main_in}
use Rattle.vx_starting.proofs.starting.pushed_group.Goals as goal

pub push_chain-requires-clause-group : goal.push_chain-requires-clause-group
push_chain-requires-clause-group g c = main_in c.args.program.now _ c.args.allowed c.args.heap.now c.args.callers.now c.in_ok-group.group c.requires.none c.in_ok-group.ensures

pub push_chain-requires-clause-depth : goal.push_chain-requires-clause-depth
push_chain-requires-clause-depth g c = main_fits c.args.program.now _ c.args.allowed c.args.heap.now c.in_ok-group.group c.args.chain.now c.requires.few c.in_ok-group.ensures

pub returns : goal.returns
returns g c = IsPushedGroup-made c.args.program.now _ c.args.allowed c.args.heap.now c.args.callers.now c.push_chain.new.callers c.in_ok-group.group c.in_ok-above.above c.args.chain.now c.requires.none c.in_ok-group.ensures c.in_ok-above.ensures.pushed
