use Rattle.std.proofs.Common.{ap, replicate, ◌∙◌}
use Rattle.vx_summary.proofs.summary.config_with.Goals as goal

pub returns : goal.returns
returns c =
    c.in_ok-c.ensures ∙ c.as_slice.ensures.value ∙ c.in_ok-values.ensures.items_if_clones_equal (λ y e. e)
    ∙ ap (λ n. replicate n c.args.value) c.len.ensures
