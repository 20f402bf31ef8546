use Rattle.std.proofs.Common.{ap, ◌∙◌}
use Rattle.vx_linker.proofs.Judged.{links}
use Rattle.vx_linker.proofs.linking.link.Goals as goal

pub returns-in-Ok : goal.returns-in-Ok
returns-in-Ok c =
    links c.args.classes.items c.into_vec.result.items c.in-Ok.files.classes.items c.in-Ok.files.core.items c.as_slice.result.now c.as_slice-options.result.now c.args.model.now.options c.args.main.now _
    (c.into_vec.ensures ∙ c.requires.core)
    (c.as_slice.ensures ∙ c.requires.natives)
    c.as_slice-options.ensures
    (ap (λ v. v.items) c.in-Ok.ensures.classes)
    (ap (λ v. v.items) c.in-Ok.ensures.core)
    c.in-Ok.ensures.judges
    c.in_ok-program_of-in-Ok.ensures
