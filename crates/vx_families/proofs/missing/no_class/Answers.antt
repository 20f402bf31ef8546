use Rattle.std.proofs.Common.{◌∙◌}
use Rattle.std.proofs.lemmas.Result.{IfOk-weaker}
use Rattle.vx_families.proofs.EndingLaws.{no_class-gives}
use Rattle.vx_families.proofs.missing.no_class.Goals as goal

pub returns : goal.returns
returns g c =
    IfOk-weaker c.unsupported.result _ _ (λ r' h'.
    λ sets.
    no_class-gives c.args.site.now sets c.args.group.now c.args.index c.in_ok-what.what _ (c.in_ok-what.ensures ∙ (rw (c.class_of_method-class.ensures, c.top_frame.ensures) at c.name_of_entry.ensures.name)) (h' sets))
    c.unsupported.ensures
