use Rattle.std.proofs.Common.{◌∙◌}
use Rattle.vx_asm.proofs.Signatures.{is_taken-there}
use Rattle.vx_asm.proofs.signature_table.SignatureTable.is_taken.Goals as goal

pub returns : goal.returns
returns c =
    rw (← c.self.view_is)
    (c.contains.ensures
    ∙ is_taken-there c.self.inside.signatures.items c.self.inside.taken.keys c.args.name.now c.args.descriptor.now c.in_ok-key.key
    c.self.invariant c.in_ok-key.ensures.0 c.in_ok-key.ensures.1)
