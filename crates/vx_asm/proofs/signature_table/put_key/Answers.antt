use Rattle.vx_asm.proofs.Signatures.{with_key-is}
use Rattle.vx_asm.proofs.signature_table.put_key.Goals as goal

pub returns-clause-ok : goal.returns-clause-ok
returns-clause-ok c =
    with_key-is c.args.taken.now.keys c.insert.new.self.keys c.in_ok-key.key c.args.name.now c.args.descriptor.now
    c.in_ok-insert.ensures.keys c.in_ok-key.ensures.0 c.in_ok-key.ensures.1
