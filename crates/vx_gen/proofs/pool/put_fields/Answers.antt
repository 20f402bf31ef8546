use Rattle.vx_gen.proofs.Loops.{short_at}
use Rattle.vx_gen.proofs.pool.put_fields.Goals as goal

pub put_signature-requires-clause-name : goal.put_signature-requires-clause-name
put_signature-requires-clause-name c = short_at c.args.names.now c.loop-name.name-index _ c.requires c.loop-name-test.true
