use Rattle.std.proofs.Common.{ap, codes, ◌++◌, ◌∙◌}
use Rattle.vx_gen.specs.Parts.{code_part, signature_part}
use Rattle.vx_gen.proofs.Same.{alone, filed, in_pool, is_step}
use Rattle.vx_gen.proofs.classes.step_file.Goals as goal

pub returns : goal.returns
returns c =
    let entries = c.in_ok-put_signature.ensures.ok ∙ ap (λ x. x ++ signature_part (codes "f") (codes "(II)I")) c.in_ok-entries.ensures in
    filed c.file_of.ensures (in_pool c.in_ok-pool.ensures (ap (λ x. x ++ code_part) entries)) c.new.ensures.items c.new-2.ensures.items
    (alone c.in_ok-push.ensures.items c.new-methods.ensures.items) is_step
