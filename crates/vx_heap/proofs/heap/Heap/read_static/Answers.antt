use Rattle.vx_heap.proofs.Written.{IsStaticRead-restricted, static_is_cond}
use Rattle.vx_heap.proofs.heap.Heap.read_static.Goals as goal

pub restrict-requires-clause-valid : goal.restrict-requires-clause-valid
restrict-requires-clause-valid g c = static_is_cond _ c.args.self.now c.args.field.0 c.static_at.result.now c.requires.heap c.requires.field c.static_at.ensures

pub returns-clause-ok : goal.returns-clause-ok
returns-clause-ok g c = IsStaticRead-restricted (g.met.S.Space.lawful c.restrict.new.space) c.in_ok-value.ensures.extends c.args.self.now c.args.field.0 c.args.path c.static_at.result.now c.in_ok-value.value c.requires.heap c.requires.field c.static_at.ensures c.requires.known c.requires.inside c.in_ok-value.ensures.ok
