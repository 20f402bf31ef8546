use Rattle.std.proofs.Common.{[], ap, sym, ◌++◌, ◌∙◌, ◌∷◌}
use Rattle.vx_asm.proofs.Signatures.{AreTaken-put}
use Rattle.vx_asm.proofs.signature_table.SignatureTable.push.Goals as goal

pub invariant_of-self-2 : goal.invariant_of-self-2
invariant_of-self-2 c =
    AreTaken-put c.or_cut_back.result c.put_key-put.result c.self.inside.signatures.items c.push.new.self.items c.or_cut_back.new.list.items c.self.inside.taken.keys c.put_key-put.new.taken.keys
    (record { name = c.args.name.now; descriptor = c.args.descriptor.now }) c.len-held.result c.or_cut_back.ensures.same c.or_cut_back.ensures.ok c.or_cut_back.ensures.err
    (c.in_ok-push.ensures.items ∙ ap (λ s. c.self.inside.signatures.items ++ s ∷ []) c.in_ok-signature.ensures) (sym (c.len-held.ensures ∙ c.self.inside.signatures.ok.0))
    c.self.invariant c.put_key-put.ensures.ok c.put_key-put.ensures.err
