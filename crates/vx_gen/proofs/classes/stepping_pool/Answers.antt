use Rattle.std.proofs.Common.{List, ap, codes, refl, ◌++◌, ◌∙◌}
use Rattle.vx_gen.specs.Parts.{class_part, code_part, reference_part, signature_part}
use Rattle.vx_gen.specs.declared.pool.Kind.TheVariants as kind
use Rattle.vx_gen.proofs.Loops.{five}
use Rattle.vx_gen.proofs.classes.stepping_pool.Goals as goal
use Rattle.vx_pool.specs.declared.pool.Entry.{Entry}

pub returns : goal.returns
returns c =
    let whole : List Entry = class_part 5 (codes "Step")
    ++ (signature_part (codes "<init>") (codes "()V")
    ++ (signature_part (codes "f") (codes "(II)I") ++ (reference_part 11 kind.Method (codes "java/lang/Object") (codes "<init>") (codes "()V") ++ code_part))) in
    let entries = five _ _ _ _ _ _ _ _ _ _ code_part whole c.in_ok-put_class.ensures.ok c.in_ok-put_signature.ensures.ok c.in_ok-put_signature-2.ensures.ok c.in_ok-put_reference.ensures.ok refl refl
    ∙ ap (λ x. x ++ whole) c.in_ok-entries.ensures in
    c.in_ok-pool.ensures ∙ (λ i. record { entries = entries i })
