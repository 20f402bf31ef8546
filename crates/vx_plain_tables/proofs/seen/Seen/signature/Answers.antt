use Rattle.vx_plain_tables.proofs.Short.{short_descriptor}
use Rattle.vx_plain_tables.proofs.seen.Seen.signature.Goals as goal

pub signature-requires : goal.signature-requires
signature-requires c = rw c.descriptor_of_method.ensures (short_descriptor c.args.self.now.here.program.now c.args.method.0 c.args.self.now.known.short)
