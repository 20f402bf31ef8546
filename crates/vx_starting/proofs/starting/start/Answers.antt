use Rattle.vx_starting.proofs.Beginning.{chain_is}
use Rattle.vx_starting.proofs.starting.start.Goals as goal

pub first_end-requires-clause-chain : goal.first_end-requires-clause-chain
first_end-requires-clause-chain g c = chain_is c.args.program.now c.as_slice-classes.result.now c.in_ok-chain.chain.items c.as_slice.result.now c.in_ok-states.states.items c.class_of_method-class.result c.as_slice-classes.ensures.value c.in_ok-chain.ensures c.as_slice.ensures.value c.in_ok-states.ensures c.class_of_method-class.ensures

pub quiet_start-requires-clause-chain : goal.quiet_start-requires-clause-chain
quiet_start-requires-clause-chain g c = chain_is c.args.program.now c.as_slice-classes.result.now c.in_ok-chain.chain.items c.as_slice.result.now c.in_ok-states.states.items c.class_of_method-class.result c.as_slice-classes.ensures.value c.in_ok-chain.ensures c.as_slice.ensures.value c.in_ok-states.ensures c.class_of_method-class.ensures

pub pushed_start-requires-clause-chain : goal.pushed_start-requires-clause-chain
pushed_start-requires-clause-chain g c = chain_is c.args.program.now c.as_slice-classes.result.now c.in_ok-chain.chain.items c.as_slice.result.now c.in_ok-states.states.items c.class_of_method-class.result c.as_slice-classes.ensures.value c.in_ok-chain.ensures c.as_slice.ensures.value c.in_ok-states.ensures c.class_of_method-class.ensures
