use Rattle.vx_heap.proofs.Written.{IsStaticWritten-overwritten, static_inside, static_is_cond}
use Rattle.vx_heap.proofs.heap.Heap.write_static.Goals as goal

pub overwrite-requires-clause-old : goal.overwrite-requires-clause-old
overwrite-requires-clause-old g c = static_is_cond _ c.args.self.now c.args.field.0 c.static_at.result.now c.requires.heap c.requires.field c.static_at.ensures

pub overwrite-requires-clause-inside : goal.overwrite-requires-clause-inside
overwrite-requires-clause-inside g c = static_inside _ c.args.self.now c.args.field.0 c.static_at.result.now c.args.value.now.scope c.requires.heap c.requires.field c.static_at.ensures c.requires.inside

pub returns-clause-ok : goal.returns-clause-ok
returns-clause-ok g c = rw c.set_static.ensures (IsStaticWritten-overwritten (g.met.S.Space.lawful c.overwrite.new.space) c.in_ok-written.ensures.extends c.args.self.now c.args.field.0 c.args.value.now c.static_at.result.now c.in_ok-written.written c.requires.heap c.requires.field c.static_at.ensures c.requires.value c.requires.inside c.requires.held c.in_ok-written.ensures.ok)
