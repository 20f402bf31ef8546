use Rattle.vx_heap.proofs.Written.{IsInitWritten-overwritten, init_inside, init_is_cond}
use Rattle.vx_heap.proofs.heap.Heap.set_init.Goals as goal

pub overwrite-requires-clause-old : goal.overwrite-requires-clause-old
overwrite-requires-clause-old g c = init_is_cond _ c.args.self.now c.args.class.0 c.init_state.result.now c.requires.heap c.requires.class c.init_state.ensures

pub overwrite-requires-clause-inside : goal.overwrite-requires-clause-inside
overwrite-requires-clause-inside g c = init_inside _ c.args.self.now c.args.class.0 c.init_state.result.now c.args.states.now.scope c.requires.heap c.requires.class c.init_state.ensures c.requires.inside

pub returns-clause-ok : goal.returns-clause-ok
returns-clause-ok g c = rw c.set_states.ensures (IsInitWritten-overwritten (g.met.S.Space.lawful c.overwrite.new.space) c.in_ok-written.ensures.extends c.args.self.now c.args.class.0 c.args.states.now c.init_state.result.now c.in_ok-written.written c.requires.heap c.requires.class c.init_state.ensures c.requires.states c.requires.inside c.in_ok-written.ensures.ok)
