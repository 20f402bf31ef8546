use Rattle.std.proofs.Common.{List, ap, codes, refl, ◌++◌, ◌+◌, ◌∙◌}
use Rattle.vx_gen.specs.Parts.{code_part, field_parts, fixed_parts, option_parts, signature_part}
use Rattle.vx_gen.proofs.Loops.{five}
use Rattle.vx_gen.proofs.classes.main_pool.Goals as goal
use Rattle.vx_pool.specs.declared.pool.Entry.{Entry}

pub returns : goal.returns
returns c =
    let whole : List Entry = field_parts c.args.names.now
    ++ (signature_part (codes "main") (codes "([Ljava/lang/String;)V") ++ (fixed_parts c.args.at ++ (option_parts (c.args.at + 30) c.args.names.now ++ code_part))) in
    let entries = five _ _ _ _ _ _ _ _ _ _ code_part whole c.in_ok-put_fields.ensures.ok c.in_ok-put_signature.ensures.ok c.in_ok-put_fixed.ensures c.in_ok-put_options.ensures.ok refl refl
    ∙ ap (λ x. x ++ whole) c.in_ok-entries.ensures in
    c.in_ok-pool.ensures ∙ (λ i. record { entries = entries i })
